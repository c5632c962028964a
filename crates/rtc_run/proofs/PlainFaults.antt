-- The parts in memory count no fault, and so no reply of a run over them tells one.
use Rattle.std.proofs.Common.{◌≡◌, ◌≤◌, ◌+◌, ◌-◌, ◌^◌, List, false, arith}
use Rattle.std.specs.Prelude.{min}
use Rattle.rtc_run_history.specs.declared.reply.Reply.{Reply}
use Rattle.rtc_plain_ice.specs.Messages.{is_ice_message}
use Rattle.rtc_plain_media.specs.declared.plain_media_event.PlainMediaEvent.{PlainMediaEvent}
use Rattle.rtc_run_history.specs.declared.side.Side.{Side}
use Rattle.rtc_run_history.specs.declared.step.Step.{Step}
use Rattle.rtc_run_history.specs.Memory.{CountedPart, DtlsPart, AssociationPart, MediaPart, tell_fault}
use Rattle.rtc_run_history.specs.Runs.{Runs}
use Rattle.rtc_run_history.specs.SoundParts.{CountsFault}
use Rattle.rtc_run_laws.proofs.PartsSound.{runs_unfaulted}
use Rattle.rtc_run.specs.ProgramPair.{plain_parts, PlainPairState}

plain_uncounted : (start pair : PlainPairState) (part : CountedPart) (at : Side) → CountsFault plain_parts part at start pair → ⊥
plain_uncounted start pair DtlsPart at counts = let rose : min (0 + 1) (2 ^ 64 - 1) ≤ 0 = counts in absurd (omega arith)
plain_uncounted start pair MediaPart at counts = let rose : min (0 + 1) (2 ^ 64 - 1) ≤ 0 = counts in absurd (omega arith)
plain_uncounted start pair AssociationPart at counts = let rose : min (0 + 1) (2 ^ 64 - 1) ≤ 0 = counts in absurd (omega arith)

pub plain_unfaulted : (start pair : PlainPairState) (steps : List Step) (replies : List (Reply PlainMediaEvent)) → Runs plain_parts is_ice_message start steps replies pair → tell_fault replies ≡ false
plain_unfaulted start pair steps replies run = runs_unfaulted plain_parts is_ice_message start steps replies pair run (plain_uncounted start pair)
