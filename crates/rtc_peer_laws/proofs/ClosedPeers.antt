-- That polls, and what stages changes, leave a closed peer closed.
use Rattle.std.proofs.Common.{◌≡◌, ℕ, Bool, true, false, List, Result, Ok, Err, ap, subst, ◌∙◌}
use Rattle.std.specs.declared.alloc.AllocError.{AllocError}
use Rattle.rtc_sdp_values.specs.declared.direction.Direction.{Direction}
use Rattle.rtc_sdp_values.specs.declared.ice_creds.IceCreds.{IceCreds}
use Rattle.rtc_peer_rows.specs.RowChanges.{RowChange}
use Rattle.rtc_peer_core.specs.declared.peer.Peer.{Peer}
use Rattle.rtc_peer_core.specs.declared.phase.Phase.{Phase}
use Rattle.rtc_peer_core.specs.declared.phase.Phase.TheVariants.{Closed}
use Rattle.rtc_peer_core.specs.declared.rtc_error.RtcError.{RtcError}
use Rattle.rtc_peer_core.specs.Calls.{AddsMedia, ChangesLine, StagesRestart, Wanted}
use Rattle.rtc_peer_core.specs.Meanings.{Meanings}
use Rattle.rtc_peer_transport.specs.declared.output.Output.{Output}
use Rattle.rtc_peer_transport.specs.declared.polled_peer.PolledPeer.{PolledPeer}
use Rattle.rtc_peer_polling.specs.Walk.{PollsPeer, PollsPeerFrom, RestsClosed}

-- a row that is set or stopped
pub line_closed : {I D S M N : Type 0} (change : RowChange) (to : Direction) (p q : Peer I D S M N) (mid : List ℕ)
    (r : Result Bool AllocError) → ChangesLine change to p mid r q → p.phase ≡ Closed → q.phase ≡ Closed
line_closed {I} {D} {S} {M} {N} change to p q mid (Ok true) h is = ap (λ (x : Peer I D S M N). x.phase) h.1 ∙ is
line_closed {I} {D} {S} {M} {N} change to p q mid (Ok false) h is = ap (λ (x : Peer I D S M N). x.phase) h.1 ∙ is
line_closed {I} {D} {S} {M} {N} change to p q mid (Err error) h is = ap (λ (x : Peer I D S M N). x.phase) h ∙ is

module _ {I D S M E X T W N : Type 0} (m : Meanings I D S M E X T W N) where
  -- a poll of a closed peer
  pub poll_closed : (p q : PolledPeer I D S M N) (answer : Result (Output E) RtcError) → PollsPeer m p answer q
      → p.core.phase ≡ Closed → q.core.phase ≡ Closed
  poll_closed p q answer h is =
      let rests : RestsClosed p answer q = subst (λ (x : Phase). PollsPeerFrom m x p answer q) is h
      in ap (λ (x : PolledPeer I D S M N). x.core.phase) rests.1 ∙ is

  -- a line that is staged
  pub media_closed : (p q : Peer I D S M N) (wanted : Wanted) (r : Result (List ℕ) AllocError) → AddsMedia m p wanted r q
      → p.phase ≡ Closed → q.phase ≡ Closed
  media_closed p q wanted (Ok mid) h is = ap (λ (x : Peer I D S M N). x.phase) h.1 ∙ is
  media_closed p q wanted (Err error) h is = ap (λ (x : Peer I D S M N). x.phase) h.1 ∙ is

  -- a restart that is staged
  pub restart_closed : (p q : Peer I D S M N) (keeps : Bool) (r : Result IceCreds AllocError) → StagesRestart m p keeps r q
      → p.phase ≡ Closed → q.phase ≡ Closed
  restart_closed p q keeps (Ok creds) h is = ap (λ (x : Peer I D S M N). x.phase) h.1 ∙ is
  restart_closed p q keeps (Err error) h is = ap (λ (x : Peer I D S M N). x.phase) h.1 ∙ is
