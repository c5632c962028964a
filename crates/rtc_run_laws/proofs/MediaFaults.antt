-- The count of faults of a media part never falls as its peer accepts or refuses an offer or an answer.
use Rattle.std.proofs.Common.{◌≡◌, ◌≤◌, inl, inr, Bool, List, Option, Result, Ok, Err, ap, arith}
use Rattle.std.specs.declared.alloc.AllocError.{AllocError}
use Rattle.rtc_parts.specs.Why.{Other}
use Rattle.rtc_parts.specs.MediaActs.{MediaStirred, Committed, Prepared}
use Rattle.rtc_parts.specs.MediaLaws.{MediaLaws}
use Rattle.rtc_parts.specs.declared.media_update.MediaUpdate.{MediaUpdate}
use Rattle.rtc_sdp_values.specs.declared.ice_creds.IceCreds.{IceCreds}
use Rattle.rtc_sdp_values.specs.declared.sdp.Sdp.{Sdp}
use Rattle.rtc_change.specs.declared.change.Change.{Change}
use Rattle.rtc_change.specs.Held.{Asked}
use Rattle.rtc_peer_core.specs.declared.peer.Peer.{Peer}
use Rattle.rtc_peer_core.specs.Meanings.{Meanings}
use Rattle.rtc_peer_core.specs.SdpMoves.{UpdatesMedia}
use Rattle.rtc_peer_core.specs.StoppedAcceptances.{
  StopsPreparing,
  BeforeSources,
  AmongDraws,
  AtUpdates,
  StopsAccepting,
  AtVerdict,
  AtPreparing,
  AtParts,
}
use Rattle.rtc_run_laws.proofs.CountedFaults.{equal_below}

module _ {I D S M E X T W N : Type 0} (m : Meanings I D S M E X T W N) (laws : MediaLaws m.media) where
  same_count : (p q : M) → q ≡ p → m.media.faults p ≤ m.media.faults q
  same_count p q same = equal_below (m.media.faults p) (m.media.faults q) (ap (λ (r : M). m.media.faults r) same)

  -- updates are prepared, or memory runs out for them
  pub prepared_later : (p q : M) (updates : List MediaUpdate) (r : Result (Unit {0}) AllocError) → m.media.prepared p updates r q
      → m.media.faults p ≤ m.media.faults q
  prepared_later p q updates r h = laws.faults_rise p q (MediaStirred Other) (inr (inr (Prepared updates r h)))

  -- and applied
  pub updated_later : (p q : M) (updates : List MediaUpdate) → UpdatesMedia m p updates q → m.media.faults p ≤ m.media.faults q
  updated_later p q updates h =
      let first : m.media.faults p ≤ m.media.faults h.prepared = prepared_later p h.prepared updates (Ok tt) h.by_prepare in
      let last : m.media.faults h.prepared ≤ m.media.faults q = laws.faults_rise h.prepared q (MediaStirred Other) (inl (Committed h.by_commit)) in
      omega arith

  preparing_later : (p : Peer I D S M N) (offer may : Bool) (changes : List Change) (sdp : Sdp) (drawn : N) (q : Peer I D S M N)
      → StopsPreparing m p offer may changes sdp drawn q → m.media.faults p.media ≤ m.media.faults q.media
  preparing_later p offer may changes sdp drawn q (BeforeSources is) = same_count p.media q.media (ap (λ (x : Peer I D S M N). x.media) is)
  preparing_later p offer may changes sdp drawn q (AmongDraws some few is) = same_count p.media q.media (ap (λ (x : Peer I D S M N). x.media) is)
  preparing_later p offer may changes sdp drawn q (AtUpdates error lacks is) = prepared_later p.media q.media _ (Err error) lacks

  -- the acceptance ran out of memory, wherever it stopped
  pub stopped_later : (p : Peer I D S M N) (asked : Option Asked) (changes : List Change) (sdp : Sdp) (restart : Option (IceCreds × Bool))
      (control : Option Bool) (drawn : N) (q : Peer I D S M N) → StopsAccepting m p asked changes sdp restart control drawn q
      → m.media.faults p.media ≤ m.media.faults q.media
  stopped_later p asked changes sdp restart control drawn q (AtVerdict is) = same_count p.media q.media (ap (λ (x : Peer I D S M N). x.media) is)
  stopped_later p asked changes sdp restart control drawn q (AtPreparing passes stops) = preparing_later p _ _ changes sdp drawn q stops
  stopped_later p asked changes sdp restart control drawn q (AtParts passes ids prepared moves) = prepared_later p.media q.media _ (Ok tt) prepared
