-- What is owed where offers cross, as negotiation sees both sides.
use Rattle.std.proofs.Common.{◌≡◌, ◌&&◌, ◌++◌, false, List, [], ◌∷◌}
use Rattle.std.specs.List.{AllZip}
use Rattle.rtc_sdp_values.specs.declared.line_row.LineRow.{LineRow}
use Rattle.rtc_peer_core.specs.declared.rtc_error.RtcError.TheVariants.{Glare}
use Rattle.rtc_run_history.specs.Finished.{Equal}
use Rattle.rtc_run_history.specs.Past.{Entry}
use Rattle.rtc_run_history.specs.Sides.{other_side}
use Rattle.rtc_run_history.specs.declared.outcome.Outcome.TheVariants.{Answered, Done, Finished, Refused}
use Rattle.rtc_run_history.specs.declared.side.Side.{Side}
use Rattle.rtc_run_history.specs.declared.side.Side.TheVariants.{Left, Right}
use Rattle.rtc_run_laws.specs.Crossed.{AreSameRow, CrossedNumbers, answer_step, end_step, is_passive, refusal_step, rollback_step}
use Rattle.rtc_run_laws.proofs.StanceSteps.{PairStance, StanceEnters}

-- a pair goes on through further entries, newest first
abbrev pub StanceGoes : {E : Type 0} → PairStance → List (Entry E) → PairStance → Type 0
StanceGoes from [] pair = pair ≡ from
StanceGoes from (entry ∷ newer) pair = (between : PairStance) × StanceGoes from newer between × StanceEnters between entry pair

-- what each entry of the course owes; before a refusal nothing is staged at the impolite side, so that it changes nothing
pub record StanceMeets {E : Type 0} (s : Side) (n : CrossedNumbers) (stood : List LineRow) (old : PairStance) (entry : Entry E) (new : PairStance) : Type 0 where
  pub refused : entry.step ≡ refusal_step s n → entry.outcome ≡ Refused Glare
  pub bare : entry.step ≡ refusal_step s n → ((old.sides (other_side s)).staged ≡ []) × ((old.sides (other_side s)).undo ≡ [])
  pub kept : entry.step ≡ refusal_step s n → new.sdps ≡ old.sdps
  pub rolled_back : entry.step ≡ rollback_step s n → entry.outcome ≡ Done
  pub undone : entry.step ≡ rollback_step s n → (new.sides s).lines ≡ stood
  pub answered : entry.step ≡ answer_step s n → entry.outcome ≡ Answered n.answer
  pub finished : entry.step ≡ end_step s n → entry.outcome ≡ Finished

abbrev pub StanceAllMeet : {E : Type 0} → (s : Side) → CrossedNumbers → (stood : List LineRow) → (from : PairStance) → (entries : List (Entry E)) → (pair : PairStance) → StanceGoes from entries pair → Type 0
StanceAllMeet s n stood from [] pair went = Unit {0}
StanceAllMeet s n stood from (entry ∷ newer) pair went = StanceAllMeet s n stood from newer went.0 went.1 × StanceMeets s n stood went.0 entry pair

-- what the whole course leaves
pub record StanceMet (s : Side) (stood added : List LineRow) (pair : PairStance) : Type 0 where
  pub equal : Equal (pair.sides s).lines (pair.sides (other_side s)).lines
  pub rows : (at : Side) → AllZip AreSameRow (stood ++ added) (pair.sides at).lines
  pub parted : (is_passive (pair.sides Left).role && is_passive (pair.sides Right).role) ≡ false
