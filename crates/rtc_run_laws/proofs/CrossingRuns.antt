-- Crossed offers meet in each part of a run of formed peers.
use Rattle.std.proofs.Common.{◌≡◌, ◌∙◌, ◌<◌, ◌^◌, ◌++◌, ◌∷◌, ℕ, Bool, true, List, [], length, Option, Some, None, sym, subst, ap}
use Rattle.rtc_sdp_values.specs.declared.line_row.LineRow.{LineRow}
use Rattle.rtc_change.specs.declared.change.Change.{Change}
use Rattle.rtc_peer_core.specs.declared.peer.Peer.{Peer}
use Rattle.rtc_peer_core.specs.declared.rtc_error.RtcError.TheVariants.{Glare}
use Rattle.rtc_peer_core.specs.Meanings.{Meanings, PartsLaws}
use Rattle.rtc_peer_core.specs.Undo.{RowBefore}
use Rattle.rtc_peer_transport.specs.declared.polled_peer.PolledPeer.{PolledPeer}
use Rattle.rtc_peer_transport.specs.declared.transport.Transport.{Transport}
use Rattle.rtc_run_history.specs.declared.kept.Kept.{Kept}
use Rattle.rtc_run_history.specs.declared.outcome.Outcome.{Outcome}
use Rattle.rtc_run_history.specs.declared.outcome.Outcome.TheVariants.{Refused}
use Rattle.rtc_run_history.specs.declared.sent_packet.SentPacket.{SentPacket}
use Rattle.rtc_run_history.specs.declared.side.Side.{Side}
use Rattle.rtc_run_history.specs.declared.step.Step.{Step}
use Rattle.rtc_run_history.specs.declared.step.Step.TheVariants.{AcceptOffer}
use Rattle.rtc_run_history.specs.declared.table.Table.{Table}
use Rattle.rtc_run_history.specs.Fresh.{ArePeersFormed, IsFresh}
use Rattle.rtc_run_history.specs.PairState.{PairState, kept_remote_sdp, peer_at, rtc_at}
use Rattle.rtc_run_history.specs.Past.{Entry, added_by, before}
use Rattle.rtc_run_history.specs.Performs.{Enters, LeavesConnection, Performs, StepAcceptsOffer, lent}
use Rattle.rtc_run_history.specs.Runs.{Reached}
use Rattle.rtc_run_history.specs.Sides.{other_side}
use Rattle.rtc_run_history.specs.Signalled.{Signalled, NotMade, Unreadable, Readable}
use Rattle.rtc_run_laws.specs.Crossed.{AllMeet, CrossedNumbers, CrossedOffersMeet, EntryMeets, GoesOn, HaveMet}
use Rattle.rtc_run_laws.proofs.CrossingLaw.{stance_meets, stance_met}
use Rattle.rtc_run_laws.proofs.CrossingMeets.{StanceAllMeet, StanceGoes, StanceMeets, StanceMet}
use Rattle.rtc_run_laws.proofs.Knowns.{Known, stance_ran}
use Rattle.rtc_run_laws.proofs.EmptyStreams.{AreUnused, went_unused}
use Rattle.rtc_run_laws.proofs.Reaches.{small_before}
use Rattle.rtc_run_laws.proofs.StanceRuns.{fresh_stands, fresh_unused, reached_stands}
use Rattle.rtc_run_laws.proofs.StanceSteps.{PairStance, pair_stance}
use Rattle.rtc_run_laws.proofs.StandingSteps.{enters_stands}

-- a pair that goes on to a small one is small
goes_small : {E : Type 0} → (from pair : PairStance) (entries : List (Entry E)) → StanceGoes from entries pair → pair.size < 2 ^ 32 → from.size < 2 ^ 32
goes_small from pair [] goes small = subst (λ (p : PairStance). p.size < 2 ^ 32) goes small
goes_small from pair (last ∷ entries) goes small = goes_small from goes.0 entries goes.1 (small_before goes.0 pair last goes.2 small)

module _ {I D S M E X T W N : Type 0} (m : Meanings I D S M E X T W N) (stun : List ℕ → Bool) where
  -- ---- a refusal as glare, at a side at which nothing is staged

  lent_same : (p : Peer I D S M N) → p.staged ≡ [] → p.undo ≡ [] → lent p ≡ p
  lent_same p staged undo =
      ap (λ (changes : List Change). record p { staged = changes; undo = [] }) (sym staged)
      ∙ ap (λ (notes : List RowBefore). record p { staged = p.staged; undo = notes }) (sym undo)

  whole : (old new : PolledPeer I D S M N) → new.core ≡ old.core → new.transport ≡ old.transport → new ≡ old
  whole old new core transport =
      ap (λ (c : Peer I D S M N). record { core = c; transport = new.transport }) core ∙ ap (λ (t : Transport). record { core = old.core; transport = t }) transport

  glare_leaves : (at : Side) (offer : Signalled) (old new : PolledPeer I D S M N) (sdps sdps' : List Kept) (packets packets' : List SentPacket) (table : Option Table)
      → StepAcceptsOffer m at offer old.core sdps (Refused Glare) table new.core sdps' → LeavesConnection old packets new packets' → old.core.staged ≡ [] → old.core.undo ≡ [] → new ≡ old
  glare_leaves at NotMade old new sdps sdps' packets packets' table h leaves staged undo = absurd h
  glare_leaves at (Unreadable line) old new sdps sdps' packets packets' (Some table) h leaves staged undo = whole old new h.1.peer leaves.connection
  glare_leaves at (Readable sdp) old new sdps sdps' packets packets' (Some table) h leaves staged undo = whole old new (h.0.1 ∙ lent_same old.core staged undo) leaves.connection
  glare_leaves at (Unreadable line) old new sdps sdps' packets packets' None h leaves staged undo = absurd h
  glare_leaves at (Readable sdp) old new sdps sdps' packets packets' None h leaves staged undo = absurd h

  refusal_leaves : (old new : PairState I D S M N) (step : Step) (outcome : Outcome E) (table : Option Table) (at : Side) (k : ℕ) → Performs m stun old step outcome table new
      → step ≡ AcceptOffer at k → outcome ≡ Refused Glare → (peer_at at old).staged ≡ [] → (peer_at at old).undo ≡ [] → rtc_at at new ≡ rtc_at at old
  refusal_leaves old new step outcome table at k performs step_is outcome_is staged undo =
      let does : Performs m stun old (AcceptOffer at k) (Refused Glare) table new =
      subst (λ (o : Outcome E). Performs m stun old (AcceptOffer at k) o table new) outcome_is (subst (λ (s : Step). Performs m stun old s outcome table new) step_is performs) in
      glare_leaves at (kept_remote_sdp true old.sdps at k) (rtc_at at old) (rtc_at at new) old.sdps new.sdps old.packets new.packets table does.acts.0 does.acts.1 staged undo

  -- ---- what each entry owes

  entry_meets : (s : Side) (n : CrossedNumbers) (stood : List LineRow) (old new : PairState I D S M N) (entry : Entry E) → Enters m stun old entry new
      → StanceMeets s n stood (pair_stance m old) entry (pair_stance m new) → EntryMeets m stun s n stood old entry new
  entry_meets s n stood old new entry enters meets = record {
    refused = meets.refused;
    unchanged = λ is.
        refusal_leaves old new entry.step entry.outcome entry.table (other_side s) n.polite enters.performs is (meets.refused is) (meets.bare is).0 (meets.bare is).1;
    kept = meets.kept;
    rolled_back = meets.rolled_back;
    undone = meets.undone;
    answered = meets.answered;
    finished = meets.finished;
  }

  -- ---- pairs that go on

  reached_on : (start from pair : PairState I D S M N) (earlier crossing : List (Entry E)) → Reached m stun start earlier from → GoesOn m stun from crossing pair
      → Reached m stun start (crossing ++ earlier) pair
  reached_on start from pair earlier [] reached went = subst (λ (p : PairState I D S M N). Reached m stun start earlier p) (sym went) reached
  reached_on start from pair earlier (entry ∷ newer) reached went = (went.0, reached_on start from went.0 earlier newer reached went.1, went.2)

  module _ (laws : PartsLaws m) (start : PairState I D S M N) (fresh : IsFresh m start) where
    reached_unused : (past : List (Entry E)) (pair : PairState I D S M N) → Reached m stun start past pair → AreUnused m laws pair
    reached_unused past pair reached =
        went_unused m laws (λ earlier between entry after. Enters m stun between entry after) (λ earlier between entry after enters. (stun, enters)) start past pair
        (fresh_unused m laws start fresh) reached

    goes_stands : (from pair : PairState I D S M N) (earlier crossing : List (Entry E)) → Reached m stun start earlier from → GoesOn m stun from crossing pair
        → StanceGoes (pair_stance m from) crossing (pair_stance m pair)
    goes_stands from pair earlier [] reached went = ap (pair_stance m) went
    goes_stands from pair earlier (entry ∷ newer) reached went = (
      pair_stance m went.0,
      goes_stands from went.0 earlier newer reached went.1,
      enters_stands m laws went.0 entry pair (reached_unused (newer ++ earlier) went.0 (reached_on start from went.0 earlier newer reached went.1)) went.2,
    )

    all_meet : (s : Side) (n : CrossedNumbers) (stood : List LineRow) (from pair : PairState I D S M N) (earlier crossing : List (Entry E)) (reached : Reached m stun start earlier from)
        (went : GoesOn m stun from crossing pair)
        → StanceAllMeet s n stood (pair_stance m from) crossing (pair_stance m pair) (goes_stands from pair earlier crossing reached went) → AllMeet m stun s n stood from crossing pair went
    unfolding goes_stands
    all_meet s n stood from pair earlier [] reached went meets = tt
    all_meet s n stood from pair earlier (entry ∷ newer) reached went meets =
        (all_meet s n stood from went.0 earlier newer reached went.1 meets.0, entry_meets s n stood went.0 pair entry went.2 meets.1)

    known_from : (formed : ArePeersFormed m start) (from pair : PairState I D S M N) (earlier crossing : List (Entry E)) → Reached m stun start earlier from → GoesOn m stun from crossing pair
        → pair.size < 2 ^ 32 → Known (pair_stance m start) earlier (pair_stance m from)
    known_from formed from pair earlier crossing reached went small =
        let fewer : from.size < 2 ^ 32 = goes_small (pair_stance m from) (pair_stance m pair) crossing (goes_stands from pair earlier crossing reached went) small in
        record {
          fresh = fresh_stands m start fresh;
          formed = formed;
          ran = stance_ran (pair_stance m start) (pair_stance m from) earlier (fresh_stands m start fresh)
              (reached_stands m stun laws start earlier from (fresh_unused m laws start fresh) reached) fewer;
          small = fewer;
        }

    have_met : (s : Side) (stood added : List LineRow) (pair : PairState I D S M N) → StanceMet s stood added (pair_stance m pair) → HaveMet m stun s stood added pair
    have_met s stood added pair met = record { equal = met.equal; rows = met.rows; parted = met.parted }

    -- Two offers that cross bring a polite and an impolite peer together.
    pub crossed_meet : ArePeersFormed m start → CrossedOffersMeet m stun start
    crossed_meet formed = λ earlier crossing from pair reached went small. record {
      meets = λ s ops others n course may is begins offered enough.
          all_meet s n (before s earlier) from pair earlier crossing reached went
          (stance_meets (pair_stance m start) (pair_stance m from) (pair_stance m pair) earlier crossing s ops others n course (known_from formed from pair earlier crossing reached went small)
          (goes_stands from pair earlier crossing reached went) small may is begins offered enough);
      met = λ s ops others n may is offered enough.
          have_met s (before s earlier) (added_by (length (before (other_side s) earlier)) n.impolite (crossing ++ earlier)) pair
          (stance_met (pair_stance m start) (pair_stance m from) (pair_stance m pair) earlier crossing s ops others n (known_from formed from pair earlier crossing reached went small)
          (goes_stands from pair earlier crossing reached went) small may is offered enough);
    }
