-- How many rows an SDP leaves.
use Rattle.std.proofs.Common.{◌≡◌, ◌≤◌, ◌+◌, List, length, Bool, true, false, Ok, Err, Result, ap, arith}
use Rattle.std.proofs.lemmas.List.{length-map}
use Rattle.rtc_sdp_values.specs.declared.line_row.LineRow.{LineRow}
use Rattle.rtc_sdp_values.specs.declared.sdp.Sdp.{Sdp}
use Rattle.rtc_change.specs.PendingOffer.{PendingOffer}
use Rattle.rtc_peer_rows.specs.ParsedLines.{parsed_line, parsed_lines}
use Rattle.rtc_change.specs.TableAfter.{table_after}
use Rattle.rtc_peer_core.specs.declared.peer.Peer.{Peer}
use Rattle.rtc_peer_core.specs.declared.rtc_error.RtcError.{RtcError}
use Rattle.rtc_peer_core.specs.declared.rtc_error.RtcError.TheVariants.{Net, Media as MediaFailed}
use Rattle.rtc_peer_core.specs.declared.rtc_error.RtcError.TheVariants.{RemoteSdp, Sdp as SdpRefused, Dtls, Sctp, ChangesOutOfOrder, BadChannel, Alloc as PeerAlloc, Glare}
use Rattle.rtc_parts.specs.declared.dtls_error.DtlsError.TheVariants.{WouldBlock, Fault, Alloc as DtlsAlloc}
use Rattle.rtc_peer_core.specs.Acceptances.{AcceptsOffer, AcceptsAnswer}
use Rattle.rtc_change.proofs.TableAfterLemmas.{length_table_after}
use Rattle.rtc_peer_core.specs.Meanings.{Meanings}

rows_of_taken : (rows : List LineRow) (sdp : Sdp) (offer : Bool) → length (table_after rows (parsed_lines sdp) offer) ≤ length rows + length sdp.lines
rows_of_taken rows sdp offer = omega (arith, length_table_after rows (parsed_lines sdp) offer, length-map sdp.lines (parsed_line sdp.groups))

module _ {I D S M E X T W N : Type 0} (m : Meanings I D S M E X T W N) where
  same_rows : (p q : Peer I D S M N) (sdp : Sdp) → q.lines ≡ p.lines → length q.lines ≤ length p.lines + length sdp.lines
  same_rows p q sdp e = let same : length q.lines ≡ length p.lines = ap length e in omega arith

  pub offer_rows : (p q : Peer I D S M N) (offer : Sdp) (result : Result Sdp RtcError) → AcceptsOffer m p offer result q → length q.lines ≤ length p.lines + length offer.lines
  offer_rows p q offer (Ok answer) h =
      let most : length (table_after p.lines (parsed_lines offer) true) ≤ length p.lines + length offer.lines = rows_of_taken p.lines offer true in
      let rows : length q.lines ≡ length (table_after p.lines (parsed_lines offer) true) = ap (λ p. length p.lines) h.rest in
      omega (arith, most, rows)
  offer_rows p q offer (Err (RemoteSdp why)) h = same_rows p q offer (ap (λ p. p.lines) h.1.1)
  offer_rows p q offer (Err (SdpRefused error)) h = same_rows p q offer (ap (λ p. p.lines) h.1.1)
  offer_rows p q offer (Err (Dtls Fault)) h = same_rows p q offer (ap (λ p. p.lines) h.rest)
  offer_rows p q offer (Err (Dtls WouldBlock)) h = absurd h
  offer_rows p q offer (Err (Dtls DtlsAlloc)) h = absurd h
  offer_rows p q offer (Err (Sctp error)) h = same_rows p q offer (ap (λ p. p.lines) h.1.rest)
  offer_rows p q offer (Err ChangesOutOfOrder) h = absurd h
  offer_rows p q offer (Err (Net cause)) h = absurd h
  offer_rows p q offer (Err (MediaFailed cause)) h = absurd h
  offer_rows p q offer (Err BadChannel) h = absurd h
  offer_rows p q offer (Err Glare) h = same_rows p q offer (ap (λ p. p.lines) h.1)
  offer_rows p q offer (Err PeerAlloc) h = same_rows p q offer (ap (λ p. p.lines) h.rest)

  pub answer_rows : (p q : Peer I D S M N) (token : PendingOffer) (answer : Sdp) (result : Result (Unit {0}) RtcError) → AcceptsAnswer m p token answer result q → length q.lines ≤ length p.lines + length answer.lines
  answer_rows p q token answer (Ok done) h =
      let most : length (table_after p.lines (parsed_lines answer) false) ≤ length p.lines + length answer.lines = rows_of_taken p.lines answer false in
      let rows : length q.lines ≡ length (table_after p.lines (parsed_lines answer) false) = ap (λ p. length p.lines) h.rest in
      omega (arith, most, rows)
  answer_rows p q token answer (Err (RemoteSdp why)) h = same_rows p q answer (ap (λ p. p.lines) h.1.1)
  answer_rows p q token answer (Err (SdpRefused error)) h = same_rows p q answer (ap (λ p. p.lines) h.1.1)
  answer_rows p q token answer (Err (Dtls Fault)) h = same_rows p q answer (ap (λ p. p.lines) h.rest)
  answer_rows p q token answer (Err (Dtls WouldBlock)) h = absurd h
  answer_rows p q token answer (Err (Dtls DtlsAlloc)) h = absurd h
  answer_rows p q token answer (Err (Sctp error)) h = same_rows p q answer (ap (λ p. p.lines) h.1.rest)
  answer_rows p q token answer (Err (Net cause)) h = absurd h
  answer_rows p q token answer (Err (MediaFailed cause)) h = absurd h
  answer_rows p q token answer (Err BadChannel) h = absurd h
  answer_rows p q token answer (Err Glare) h = absurd h
  answer_rows p q token answer (Err ChangesOutOfOrder) h = same_rows p q answer (ap (λ p. p.lines) h.1)
  answer_rows p q token answer (Err PeerAlloc) h = same_rows p q answer (ap (λ p. p.lines) h.rest)
