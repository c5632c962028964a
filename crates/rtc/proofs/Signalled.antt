-- Texts that a peer accepts, by what was read of them.
use Rattle.std.proofs.Common.{◌≡◌, ℕ, [], Result, Err, sym, subst}
use Rattle.rtc_sdp_values.specs.declared.sdp.Sdp.{Sdp}
use Rattle.rtc_sdp_values.specs.declared.sdp_error.SdpError.{SdpError}
use Rattle.rtc_sdp_reader.specs.Reading.{ReadsSdp}
use Rattle.rtc_change.specs.PendingOffer.{PendingOffer}
use Rattle.rtc_peer_core.specs.Acceptances.{AcceptsOffer, AcceptsAnswer}
use Rattle.rtc_peer_core.specs.Meanings.{Meanings}
use Rattle.rtc_peer_core.specs.RtcErrors.{error_of_sdp}
use Rattle.rtc_peer_core.specs.declared.peer.Peer.{Peer}
use Rattle.rtc_peer_core.specs.declared.rtc_error.RtcError.{RtcError}
use Rattle.rtc.specs.Texts.{LeavesUnread}

-- a text that cannot be read
pub left_unread : {A I D S M N : Type 0} (read : Result Sdp ℕ) (p : Peer I D S M N) (r : Result A RtcError) (q : Peer I D S M N) (cause : SdpError)
    → ReadsSdp (Err cause) read → r ≡ Err (error_of_sdp cause) → q ≡ p → LeavesUnread read p r q
left_unread read p r q cause reads is same = record { cause = cause; by_reading = reads; error = is; peer = same }

module _ {I D S M E X T W N : Type 0} (m : Meanings I D S M E X T W N) where
  -- what a handle on which nothing is staged did, said of the peer
  pub offer_by_handle : (old lent left q : Peer I D S M N) (offer : Sdp) (result : Result Sdp RtcError) → lent ≡ record old { staged = []; undo = [] }
      → AcceptsOffer m lent offer result left → q ≡ left → AcceptsOffer m (record old { staged = []; undo = [] }) offer result q
  offer_by_handle old lent left q offer result is h same =
      let from : Peer I D S M N → Type 0 = λ (x : Peer I D S M N). AcceptsOffer m x offer result left in
      let to : Peer I D S M N → Type 0 = λ (x : Peer I D S M N). AcceptsOffer m (record old { staged = []; undo = [] }) offer result x in
      subst to (sym same) (subst from is h)

  pub answer_by_handle : (old lent left q : Peer I D S M N) (token : PendingOffer) (answer : Sdp) (result : Result (Unit {0}) RtcError)
      → lent ≡ record old { staged = []; undo = [] } → AcceptsAnswer m lent token answer result left → q ≡ left
      → AcceptsAnswer m (record old { staged = []; undo = [] }) token answer result q
  answer_by_handle old lent left q token answer result is h same =
      let from : Peer I D S M N → Type 0 = λ (x : Peer I D S M N). AcceptsAnswer m x token answer result left in
      let to : Peer I D S M N → Type 0 = λ (x : Peer I D S M N). AcceptsAnswer m (record old { staged = []; undo = [] }) token answer result x in
      subst to (sym same) (subst from is h)
