-- What a call of a lent peer did, said of the peer.
use Rattle.std.proofs.Common.{◌≡◌, ◌≤◌, ◌+◌, List, length, Result, sym, subst, ap, ◌∙◌}
use Rattle.rtc_sdp_values.specs.declared.line_row.LineRow.{LineRow}
use Rattle.rtc_sdp_values.specs.declared.sdp.Sdp.{Sdp}
use Rattle.rtc_channels.specs.Channels.{Channel}
use Rattle.rtc_change.specs.PendingOffer.{PendingOffer}
use Rattle.rtc_peer_core.specs.declared.peer.Peer.{Peer}
use Rattle.rtc_peer_core.specs.declared.rtc_error.RtcError.{RtcError}
use Rattle.rtc_peer_core.specs.Acceptances.{AcceptsOffer, AcceptsAnswer}
use Rattle.rtc_run_history.specs.Performs.{lent}
use Rattle.rtc_run_steps.proofs.ChannelCounts.{offer_channels, answer_channels}
use Rattle.rtc_run_steps.proofs.RowsLeft.{offer_rows, answer_rows}
use Rattle.rtc_peer_core.specs.Meanings.{Meanings}

module _ {I D S M E X T W N : Type 0} (m : Meanings I D S M E X T W N) where
  pub accepted_offer : (old p r q : Peer I D S M N) (offer : Sdp) (result : Result Sdp RtcError) → p ≡ lent old → AcceptsOffer m p offer result r → q ≡ r → AcceptsOffer m (lent old) offer result q
  accepted_offer old p r q offer result p_is h same =
      let F : Peer I D S M N → Type 0 = λ (x : Peer I D S M N). AcceptsOffer m x offer result r in
      let G : Peer I D S M N → Type 0 = λ (x : Peer I D S M N). AcceptsOffer m (lent old) offer result x in
      subst G (sym same) (subst F p_is h)

  pub accepted_answer : (old p r q : Peer I D S M N) (token : PendingOffer) (answer : Sdp) (result : Result (Unit {0}) RtcError) → p ≡ lent old → AcceptsAnswer m p token answer result r → q ≡ r → AcceptsAnswer m (lent old) token answer result q
  accepted_answer old p r q token answer result p_is h same =
      let F : Peer I D S M N → Type 0 = λ (x : Peer I D S M N). AcceptsAnswer m x token answer result r in
      let G : Peer I D S M N → Type 0 = λ (x : Peer I D S M N). AcceptsAnswer m (lent old) token answer result x in
      subst G (sym same) (subst F p_is h)

  -- how many rows an SDP leaves
  pub rows_of_offer : (old p r : Peer I D S M N) (offer : Sdp) (result : Result Sdp RtcError) (rows : List LineRow) → p ≡ lent old → AcceptsOffer m p offer result r → rows ≡ r.lines → length rows ≤ length old.lines + length offer.lines
  rows_of_offer old p r offer result rows p_is h same =
      let F : Peer I D S M N → Type 0 = λ (x : Peer I D S M N). AcceptsOffer m x offer result r in
      let G : List LineRow → Type 0 = λ (x : List LineRow). length x ≤ length old.lines + length offer.lines in
      subst G (sym same) (offer_rows m (lent old) r offer result (subst F p_is h))

  pub rows_of_answer : (old p r : Peer I D S M N) (token : PendingOffer) (answer : Sdp) (result : Result (Unit {0}) RtcError) (rows : List LineRow) → p ≡ lent old → AcceptsAnswer m p token answer result r → rows ≡ r.lines → length rows ≤ length old.lines + length answer.lines
  rows_of_answer old p r token answer result rows p_is h same =
      let F : Peer I D S M N → Type 0 = λ (x : Peer I D S M N). AcceptsAnswer m x token answer result r in
      let G : List LineRow → Type 0 = λ (x : List LineRow). length x ≤ length old.lines + length answer.lines in
      subst G (sym same) (answer_rows m (lent old) r token answer result (subst F p_is h))

  -- an SDP leaves as many channels as there were
  pub channels_of_offer : (old p r : Peer I D S M N) (offer : Sdp) (result : Result Sdp RtcError) (channels : List Channel) → p ≡ lent old → AcceptsOffer m p offer result r → channels ≡ r.channels.rows → length channels ≡ length old.channels.rows
  channels_of_offer old p r offer result channels p_is h same =
      ap length same ∙ (offer_channels m p r offer result h ∙ ap (λ (x : Peer I D S M N). length x.channels.rows) p_is)

  pub channels_of_answer : (old p r : Peer I D S M N) (token : PendingOffer) (answer : Sdp) (result : Result (Unit {0}) RtcError) (channels : List Channel) → p ≡ lent old → AcceptsAnswer m p token answer result r → channels ≡ r.channels.rows → length channels ≡ length old.channels.rows
  channels_of_answer old p r token answer result channels p_is h same =
      ap length same ∙ (answer_channels m p r token answer result h ∙ ap (λ (x : Peer I D S M N). length x.channels.rows) p_is)
