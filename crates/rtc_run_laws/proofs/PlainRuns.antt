-- The descriptions (SDPs) of a run of formed peers are read back as they were written, where each source was unused when it was drawn.
use Rattle.std.proofs.Common.{◌≡◌, ℕ, zero, suc, Bool, true, false, List, [], ◌∷◌, Option, Some, None, sym, ap, subst, arith}
use Rattle.std.specs.Prelude.{IfSome}
use Rattle.rtc_parts.specs.declared.media_update.MediaUpdate.{MediaUpdate}
use Rattle.rtc_change.specs.PendingOffer.{PendingOffer}
use Rattle.rtc_peer_core.specs.Calls.{uses_source}
use Rattle.rtc_peer_core.specs.declared.rtc_error.RtcError.TheVariants.{RemoteSdp, Sdp as SdpRefused, Dtls, Sctp, Net, Media as MediaFailed, ChangesOutOfOrder, BadChannel, Alloc as PeerAlloc, Glare}
use Rattle.rtc_peer_core.specs.Meanings.{Meanings, PartsLaws}
use Rattle.rtc_peer_core.specs.Stance.{Stance, stance_of}
use Rattle.rtc_peer_core.proofs.ApartSources.{IsSingleUpdate, AreLinesSingle}
use Rattle.rtc_run_history.specs.declared.kept.Kept.{Kept}
use Rattle.rtc_run_history.specs.declared.outcome.Outcome.{Outcome}
use Rattle.rtc_run_history.specs.declared.outcome.Outcome.TheVariants.{Done, Refused, NoSuch, Alloc}
use Rattle.rtc_run_history.specs.declared.reply.Reply.{Reply}
use Rattle.rtc_run_history.specs.declared.side.Side.{Side}
use Rattle.rtc_run_history.specs.declared.step.Step.{Step}
use Rattle.rtc_run_history.specs.declared.step.Step.TheVariants.{Negotiate, AcceptOffer, AcceptAnswer, Time, Datagram, Poll, Drain, Write, CloseChannel, Close, Rollback, ForeignOffer, ForeignAnswer, Raw}
use Rattle.rtc_run_history.specs.declared.table.Table.{Table}
use Rattle.rtc_run_history.specs.DrawnInRuns.{AllPlain, AllWent, HaveNoLines, DrawsByStep, DrawsUnused}
use Rattle.rtc_run_history.specs.Fresh.{IsFresh, ArePeersFormed}
use Rattle.rtc_run_history.specs.Past.{Entry}
use Rattle.rtc_run_history.specs.PairState.{PairState, peer_at, kept_remote_sdp, held_token}
use Rattle.rtc_run_history.specs.Performs.{Performs}
use Rattle.rtc_run_history.specs.Runs.{Went, EntersSoundly, Runs}
use Rattle.rtc_run_history.specs.Signalled.{foreign}
use Rattle.rtc_run_history.specs.Sides.{side_of, other_side}
use Rattle.rtc_run_history.proofs.BothSides.{both_sides}
use Rattle.rtc_run_laws.proofs.FormedSteps.{IsWellFormed, reached_formed}
use Rattle.rtc_run_laws.proofs.LegibleSdps.{AreLegible}
use Rattle.rtc_run_laws.proofs.EmptyStreams.{AreUnused}
use Rattle.rtc_run_laws.proofs.StandingSteps.{enters_stands}
use Rattle.rtc_run_laws.proofs.StanceRuns.{StanceRan, fresh_unused, ran_unused, ran_stands, ran_reached}
use Rattle.rtc_run_laws.proofs.StanceSteps.{PairStance, StanceActs, StancePerforms, StanceStepRollsBack, pair_stance}
use Rattle.rtc_run_laws.proofs.SingleSdps.{AreSingleKept, spent_single, token_single}
use Rattle.rtc_run_laws.proofs.SingleSteps.{AreSingleBoth, same_line, negotiates_single, step_offer_single, step_answer_single}

-- ---- all steps

-- a side that changes nothing but channels
rest_single : (old new : Stance) (kept kept' : List Kept) → new ≡ record old { channels = new.channels; rows = new.rows } → kept' ≡ kept
    → AreLinesSingle old.line → AreSingleKept kept → AreSingleBoth new kept'
rest_single old new kept kept' rest same lines single = (same_line old new (ap (λ s. s.line) rest) lines, rw same single)

-- a side that rolls an offer back
rollback_single : {E : Type 0} → (t : ℕ) (token : Option PendingOffer) (old new : Stance) (kept kept' : List Kept) (outcome : Outcome E) (table : Option Table) → StanceStepRollsBack t token old kept outcome table new kept'
    → AreLinesSingle old.line → AreSingleKept kept → AreSingleBoth new kept'
rollback_single t None old new kept kept' Alloc None h lines single = (same_line old new (ap (λ s. s.line) h.peer) lines, rw h.sdps_kept single)
rollback_single t (Some token) old new kept kept' Alloc None h lines single = (same_line old new (ap (λ s. s.line) h.peer) lines, rw h.sdps_kept single)
rollback_single t None old new kept kept' NoSuch (Some table) h lines single = (same_line old new (ap (λ s. s.line) h.0.peer) lines, rw h.0.sdps_kept single)
rollback_single t (Some token) old new kept kept' Done (Some table) h lines single = (same_line old new (ap (λ s. s.line) h.0.1) lines, rw h.2 (spent_single t kept single))
rollback_single t (Some token) old new kept kept' (Refused ChangesOutOfOrder) (Some table) h lines single =
    (same_line old new (ap (λ s. s.line) h.0.1) lines, rw h.1 (spent_single t kept single))
rollback_single t (Some token) old new kept kept' (Refused (RemoteSdp why)) (Some table) h lines single = absurd h.0
rollback_single t (Some token) old new kept kept' (Refused (SdpRefused error)) (Some table) h lines single = absurd h.0
rollback_single t (Some token) old new kept kept' (Refused (Dtls error)) (Some table) h lines single = absurd h.0
rollback_single t (Some token) old new kept kept' (Refused (Sctp error)) (Some table) h lines single = absurd h.0
rollback_single t (Some token) old new kept kept' (Refused (Net cause)) (Some table) h lines single = absurd h.0
rollback_single t (Some token) old new kept kept' (Refused (MediaFailed cause)) (Some table) h lines single = absurd h.0
rollback_single t (Some token) old new kept kept' (Refused BadChannel) (Some table) h lines single = absurd h.0
rollback_single t (Some token) old new kept kept' (Refused PeerAlloc) (Some table) h lines single = absurd h.0
rollback_single t (Some token) old new kept kept' (Refused Glare) (Some table) h lines single = absurd h.0
rollback_single t token old new kept kept' outcome table h lines single = absurd h

-- no source of a line stands twice at either side, and in no SDP
pub record IsSinglePair (pair : PairStance) : Type 0 where
  pub sides : (at : Side) → AreLinesSingle (pair.sides at).line
  pub sdps : AreSingleKept pair.sdps

module _ {I D S M E X T W N : Type 0} (m : Meanings I D S M E X T W N) (laws : PartsLaws m) where
  acts_single : (stun : List ℕ → Bool) (step : Step) (old new : PairState I D S M N) (outcome : Outcome E) (table : Option Table)
      → Performs m stun old step outcome table new
      → StanceActs step (stance_of m (peer_at (side_of step) old)) old.sdps outcome table (stance_of m (peer_at (side_of step) new)) new.sdps
      → DrawsByStep m step outcome old new → AreLinesSingle (m.media.line (peer_at (side_of step) old).media) → AreSingleKept old.sdps
      → AreSingleBoth (stance_of m (peer_at (side_of step) new)) new.sdps
  acts_single stun (Negotiate at ops apply) old new outcome table performs s drew lines single =
      negotiates_single (uses_source m (peer_at at old)) at ops apply (stance_of m (peer_at at old)) (stance_of m (peer_at at new)) old.sdps
      new.sdps outcome table s drew lines single
  acts_single stun (AcceptOffer at k) old new outcome table performs s drew lines single =
      step_offer_single m laws at (kept_remote_sdp true old.sdps at k) (peer_at at old) (peer_at at new) old.sdps new.sdps outcome table
      performs.acts.0 s
      (λ n is. subst (λ (o : Outcome E). DrawsByStep m (AcceptOffer at k) o old new) is drew)
      lines single
  acts_single stun (AcceptAnswer at t a) old new outcome table performs s drew lines single =
      step_answer_single m laws t (held_token old.sdps at t) (kept_remote_sdp false old.sdps at a) (peer_at at old) (peer_at at new) old.sdps
      new.sdps outcome table performs.acts.0 s
      (λ is. subst (λ (o : Outcome E). DrawsByStep m (AcceptAnswer at t a) o old new) is drew)
      (token_single old.sdps at t single) lines single
  acts_single stun (ForeignOffer at text) old new outcome table performs s drew lines single =
      step_offer_single m laws at (foreign text) (peer_at at old) (peer_at at new) old.sdps new.sdps outcome table performs.acts.0 s
      (λ n is. subst (λ (o : Outcome E). DrawsByStep m (ForeignOffer at text) o old new) is drew) lines single
  acts_single stun (ForeignAnswer at t text) old new outcome table performs s drew lines single =
      step_answer_single m laws t (held_token old.sdps at t) (foreign text) (peer_at at old) (peer_at at new) old.sdps new.sdps outcome table performs.acts.0 s
      (λ is. subst (λ (o : Outcome E). DrawsByStep m (ForeignAnswer at t text) o old new) is drew) (token_single old.sdps at t single) lines single
  acts_single stun (Rollback at t) old new outcome table performs s drew lines single =
      rollback_single t (held_token old.sdps at t) (stance_of m (peer_at at old)) (stance_of m (peer_at at new)) old.sdps new.sdps outcome table s lines single
  acts_single stun (Raw at bytes now) old new outcome table performs s drew lines single = rest_single (stance_of m (peer_at at old)) (stance_of m (peer_at at new)) old.sdps new.sdps s.peer s.sdps_kept lines single
  acts_single stun (Time at now) old new outcome table performs s drew lines single = rest_single (stance_of m (peer_at at old)) (stance_of m (peer_at at new)) old.sdps new.sdps s.peer s.sdps_kept lines single
  acts_single stun (Datagram at packet now) old new outcome table performs s drew lines single =
      rest_single (stance_of m (peer_at at old)) (stance_of m (peer_at at new)) old.sdps new.sdps s.peer s.sdps_kept lines single
  acts_single stun (Poll at) old new outcome table performs s drew lines single = rest_single (stance_of m (peer_at at old)) (stance_of m (peer_at at new)) old.sdps new.sdps s.peer s.sdps_kept lines single
  acts_single stun (Drain at) old new outcome table performs s drew lines single = rest_single (stance_of m (peer_at at old)) (stance_of m (peer_at at new)) old.sdps new.sdps s.peer s.sdps_kept lines single
  acts_single stun (Write at channel binary bytes) old new outcome table performs s drew lines single =
      rest_single (stance_of m (peer_at at old)) (stance_of m (peer_at at new)) old.sdps new.sdps s.peer s.sdps_kept lines single
  acts_single stun (CloseChannel at channel) old new outcome table performs s drew lines single =
      rest_single (stance_of m (peer_at at old)) (stance_of m (peer_at at new)) old.sdps new.sdps s.peer s.sdps_kept lines single
  acts_single stun (Close at) old new outcome table performs s drew lines single = rest_single (stance_of m (peer_at at old)) (stance_of m (peer_at at new)) old.sdps new.sdps s.peer s.sdps_kept lines single

  performs_single : (stun : List ℕ → Bool) (old new : PairState I D S M N) (step : Step) (outcome : Outcome E) (table : Option Table)
      → Performs m stun old step outcome table new → StancePerforms (pair_stance m old) step outcome table (pair_stance m new)
      → DrawsByStep m step outcome old new → IsSinglePair (pair_stance m old) → IsSinglePair (pair_stance m new)
  performs_single stun old new step outcome table performs stands drew single =
      let at : Side = side_of step in
      let acts = acts_single stun step old new outcome table performs stands.acts drew (single.sides at) single.sdps in
      let other : AreLinesSingle (stance_of m (peer_at (other_side at) new)).line =
      subst (λ (s : Stance). AreLinesSingle s.line) (sym stands.other) (single.sides (other_side at)) in
      record { sides = both_sides (λ side. AreLinesSingle (stance_of m (peer_at side new)).line) at acts.0 other; sdps = acts.1 }

  went_single : (stun : List ℕ → Bool) (start : PairState I D S M N) → AreUnused m laws start → (past : List (Entry E)) (pair : PairState I D S M N)
      (went : Went (EntersSoundly m stun start) (λ fresh. fresh ≡ start) past pair)
      → AllWent (EntersSoundly m stun start) (λ fresh. fresh ≡ start) (λ old entry new. DrawsByStep m entry.step entry.outcome old new) past
      pair went
      → IsSinglePair (pair_stance m start) → IsSinglePair (pair_stance m pair)
  went_single stun start unused [] pair went drew single =
      subst (λ (p : PairState I D S M N). IsSinglePair (pair_stance m p)) (sym went) single
  went_single stun start unused (last ∷ past) pair went drew single =
      performs_single stun went.0 pair last.step last.outcome last.table went.2.0.performs
      (enters_stands m laws went.0 last pair (ran_unused m stun laws start past went.0 unused went.1) went.2.0).performs drew.1
      (went_single stun start unused past went.0 went.1 drew.0 single)

  -- a pair without lines that made no SDP
  start_single : (start : PairState I D S M N) → HaveNoLines m start → start.sdps ≡ [] → IsSinglePair (pair_stance m start)
  start_single start none empty = record {
    sides = λ at mid. subst (λ (held : Option MediaUpdate). IfSome held IsSingleUpdate) (sym (none at mid)) tt;
    sdps = subst AreSingleKept (sym empty) tt;
  }

plain_kept : (sdps : List Kept) → AreLegible sdps → AreSingleKept sdps → AllPlain sdps
plain_kept [] legible single k d below = absurd (omega arith)
plain_kept (kept ∷ sdps) legible single zero d below = record { legible = legible.0.legible; apart = single.0.apart }
plain_kept (kept ∷ sdps) legible single (suc k) d below = plain_kept sdps legible.1 single.1 k d (omega arith)

module _ {I D S M E X T W N : Type 0} (m : Meanings I D S M E X T W N) where
  -- The SDPs of a run of formed peers are plain, where each source was unused when it was drawn.
  pub runs_plain : (stun : List ℕ → Bool) → PartsLaws m → (start pair : PairState I D S M N) (steps : List Step) (replies : List (Reply E))
      → IsFresh m start → ArePeersFormed m start → HaveNoLines m start → (run : Runs m stun start steps replies pair)
      → DrawsUnused m stun start steps replies pair run → AllPlain pair.sdps
  runs_plain stun laws start pair steps replies fresh formed none run drew =
      let unused : AreUnused m laws start = fresh_unused m laws start fresh in
      let ran : StanceRan (pair_stance m start) run.past (pair_stance m pair) = ran_stands m stun laws start run.past pair unused run.went in
      let legible : IsWellFormed (pair_stance m pair) =
      reached_formed (pair_stance m start) (pair_stance m pair) run.past fresh.sdps formed
      (ran_reached (pair_stance m start) run.past (pair_stance m pair) ran) in
      let single : IsSinglePair (pair_stance m pair) =
      went_single m laws stun start unused run.past pair run.went drew (start_single m laws start none fresh.sdps) in
      plain_kept pair.sdps legible.legible single.sdps
