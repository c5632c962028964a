-- Before the association of a side is started none of its streams is in use, and it is not started before the DTLS role is set, whatever
-- steps a pair performs.
use Rattle.std.specs.Prelude.{is_some}
use Rattle.std.proofs.Common.{◌≡◌, ◌∙◌, ℕ, Bool, List, [], ◌∷◌, sym, ap, subst}
use Rattle.rtc_peer_core.specs.declared.peer.Peer.{Peer}
use Rattle.rtc_peer_core.specs.Meanings.{Meanings, PartsLaws}
use Rattle.rtc_peer_core.specs.Stance.{Stance}
use Rattle.rtc_peer_transport.specs.declared.polled_peer.PolledPeer.{PolledPeer}
use Rattle.rtc_peer_polling.proofs.StreamStarts.{empty_stays, started_same}
use Rattle.rtc_run_history.specs.declared.side.Side.{Side}
use Rattle.rtc_run_history.specs.Past.{Entry}
use Rattle.rtc_run_history.specs.Sides.{side_of, other_side}
use Rattle.rtc_run_history.specs.PairState.{addr_at, PairState, rtc_at, peer_at}
use Rattle.rtc_run_history.specs.Performs.{Enters}
use Rattle.rtc_run_history.specs.Runs.{Went}
use Rattle.rtc_run_history.proofs.BothSides.{both_sides}
use Rattle.rtc_run_laws.proofs.StandingPolls.{Moves}
use Rattle.rtc_run_laws.proofs.StepKinds.{PeerKind, KeptCore, StagedOps, TookOffer, TookAnswer, StepKind, Stayed, MovedBy, Described, acts_kind}
use Rattle.rtc_run_laws.proofs.UnusedStreams.{IsUnused, parts_unused, same_unused, offer_unused, answer_unused}

module _ {I D S M E X T W N : Type 0} (m : Meanings I D S M E X T W N) (laws : PartsLaws m) where
  abbrev pub AreUnused : PairState I D S M N → Type 0
  AreUnused pair = (at : Side) → IsUnused m laws (peer_at at pair)

  -- ---- steps

  peer_unused : (old new : Peer I D S M N) → PeerKind m laws old new → IsUnused m laws old → IsUnused m laws new
  peer_unused old new (KeptCore same) unused = same_unused m laws old new same unused
  peer_unused old new (StagedOps same) unused = parts_unused m laws old new same unused
  peer_unused old new (TookOffer offer r h) unused = offer_unused m laws (record old { staged = []; undo = [] }) offer r new h unused
  peer_unused old new (TookAnswer token answer r h) unused = answer_unused m laws (record old { staged = []; undo = [] }) token answer r new h unused

  -- a step that negotiates nothing leaves whether the association is started
  moved_unused : (numbers : List ℕ) (p q : PolledPeer I D S M N) → Moves m laws numbers p q → IsUnused m laws p.core → IsUnused m laws q.core
  moved_unused numbers p q moves unused = record {
    empty = empty_stays m.association p.core.sctp q.core.sctp moves.start unused.empty;
    role = λ s.
        ap (λ (x : Stance). is_some x.role) moves.peer
        ∙ unused.role (sym (started_same m.association p.core.sctp q.core.sctp moves.start) ∙ s);
  }

  polled_same : (p q : PolledPeer I D S M N) → q ≡ p → IsUnused m laws p.core → IsUnused m laws q.core
  polled_same p q same unused = same_unused m laws p.core q.core (ap (λ (x : PolledPeer I D S M N). x.core) same) unused

  step_unused : (old new : PolledPeer I D S M N) → StepKind m laws old new → IsUnused m laws old.core → IsUnused m laws new.core
  step_unused old new (Stayed same) unused = polled_same old new same unused
  step_unused old new (MovedBy numbers moves) unused = moved_unused numbers old new moves unused
  step_unused old new (Described kind) unused = peer_unused old.core new.core kind unused

  -- ---- pairs

  enters_unused : (stun : List ℕ → Bool) (old : PairState I D S M N) (entry : Entry E) (new : PairState I D S M N) → Enters m stun old entry new → AreUnused old → AreUnused new
  enters_unused stun old entry new enters unused =
      both_sides (λ at. IsUnused m laws (peer_at at new)) (side_of entry.step)
      (step_unused (rtc_at (side_of entry.step) old) (rtc_at (side_of entry.step) new)
      (acts_kind m laws stun (addr_at (other_side (side_of entry.step)) old) (addr_at (side_of entry.step) old) entry.step (rtc_at (side_of entry.step) old) old.sdps old.packets entry.outcome entry.table (rtc_at (side_of entry.step) new) new.sdps new.packets
      enters.performs.acts) (unused (side_of entry.step)))
      (polled_same (rtc_at (other_side (side_of entry.step)) old) (rtc_at (other_side (side_of entry.step)) new) enters.performs.other (unused (other_side (side_of entry.step))))

  -- A pair that steps lead to has no stream in use at a side whose association is not started, and no DTLS role lacks at one whose association
  -- is.
  pub went_unused : (enters : List (Entry E) → PairState I D S M N → Entry E → PairState I D S M N → Type 0)
      → ((earlier : List (Entry E)) (between : PairState I D S M N) (entry : Entry E) (after : PairState I D S M N) → enters earlier between entry after
      → (stun : List ℕ → Bool) × Enters m stun between entry after)
      → (start : PairState I D S M N) (past : List (Entry E)) (pair : PairState I D S M N) → AreUnused start
      → Went enters (λ fresh. fresh ≡ start) past pair → AreUnused pair
  went_unused enters made start [] pair unused went = subst AreUnused (sym went) unused
  went_unused enters made start (last ∷ past) pair unused went =
      let entered = made past went.0 last pair went.2 in
      enters_unused entered.0 went.0 last pair entered.1 (went_unused enters made start past went.0 unused went.1)
