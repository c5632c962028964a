-- A fault is reported only where a listed call failed.
use Rattle.std.proofs.Common.{◌≡◌, ◌≤◌, ◌+◌, ◌-◌, ◌^◌, ℕ, List, [], ◌∷◌, Result, Ok, Err, arith}
use Rattle.std.specs.Prelude.{min, IfOk, Vec}
use Rattle.std.specs.declared.alloc.AllocError.{AllocError}
use Rattle.std.specs.declared.alloc.Global.{Global}
use Rattle.rtc_assoc_state.proofs.PlainLaws.{plain_laws}
use Rattle.rtc_assoc_state.specs.PlainMeaning.{plain_meaning}
use Rattle.rtc_faulty.specs.FaultyAssociationLaws.{faulty_association_laws}
use Rattle.rtc_faulty.specs.FaultyDtlsLaws.{faulty_dtls_laws}
use Rattle.rtc_faulty.specs.FaultyMediaLaws.{faulty_media_laws}
use Rattle.rtc_io.specs.Faults.{Rose}
use Rattle.rtc_peer_core.specs.declared.rtc_error.RtcError.{RtcError}
use Rattle.rtc_peer_core.specs.Meanings.{PartsLaws}
use Rattle.rtc_plain_dtls.specs.PlainLaws.{plain_dtls_laws}
use Rattle.rtc_plain_dtls.specs.PlainMeaning.{plain_dtls}
use Rattle.rtc_plain_ice.specs.Messages.{is_ice_message}
use Rattle.rtc_plain_ice.specs.PlainLaws.{plain_ice_laws}
use Rattle.rtc_plain_media.specs.declared.plain_media_event.PlainMediaEvent.{PlainMediaEvent}
use Rattle.rtc_plain_media.specs.PlainMediaLaws.{plain_media_laws}
use Rattle.rtc_plain_media.specs.PlainMediaMeaning.{plain_media_meaning}
use Rattle.rtc_run_history.specs.declared.reply.Reply.{Reply}
use Rattle.rtc_run_history.specs.declared.step.Step.{Step}
use Rattle.rtc_run_history.specs.Memory.{CountedPart, DtlsPart, AssociationPart, MediaPart, is_fault_of}
use Rattle.rtc_run_history.specs.PairState.{peer_at}
use Rattle.rtc_run_history.specs.Past.{Entry}
use Rattle.rtc_run_history.specs.Runs.{Went, EntersSoundly, Runs}
use Rattle.rtc_run_history.specs.Sides.{side_of}
use Rattle.rtc_run_history.specs.SoundParts.{faults_of}
use Rattle.rtc_run_laws.proofs.GrowingCounts.{Counts}
use Rattle.rtc_run_faulty.specs.FaultyParts.{FaultyCore, FaultyPolled, FaultyPairState, faulty_parts}
use Rattle.rtc_run_faulty.specs.ListedFaults.{FailedListed, HasListedCause, TellListedFaults}

pub faulty_laws : PartsLaws faulty_parts
faulty_laws = record {
  ice = plain_ice_laws;
  dtls = faulty_dtls_laws plain_dtls plain_dtls_laws;
  association = faulty_association_laws plain_meaning plain_laws;
  media = faulty_media_laws plain_media_meaning plain_media_laws;
}

-- parts in memory count no fault, so that a count that rose is that of the listed calls that failed
rose_by : (a b : ℕ) → min (0 + a + 1) (2 ^ 64 - 1) ≤ 0 + b → min (a + 1) (2 ^ 64 - 1) ≤ b
rose_by a b rose = omega (arith, rose)

pub listed_rose : (part : CountedPart) (p q : FaultyCore) → Rose (faults_of faulty_parts part p) (faults_of faulty_parts part q) → FailedListed part p q
listed_rose DtlsPart p q rose = rose_by p.dtls.instance.numbers.faults q.dtls.instance.numbers.faults rose
listed_rose AssociationPart p q rose = rose_by p.sctp.association.numbers.faults q.sctp.association.numbers.faults rose
listed_rose MediaPart p q rose = rose_by p.media.numbers.faults q.media.numbers.faults rose

-- of a call
pub caused : (p q : FaultyPolled) (error : RtcError) → Counts faulty_parts p (λ part. is_fault_of error part) q → HasListedCause p.core error q.core
caused p q error counts DtlsPart told = listed_rose DtlsPart p.core q.core (counts.dtls.1 told)
caused p q error counts AssociationPart told = listed_rose AssociationPart p.core q.core (counts.association.1 told)
caused p q error counts MediaPart told = listed_rose MediaPart p.core q.core (counts.media.1 told)

-- of each step of a run
told_listed : (start : FaultyPairState) (past : List (Entry PlainMediaEvent)) (pair : FaultyPairState)
    (went : Went (EntersSoundly faulty_parts is_ice_message start) (λ fresh. fresh ≡ start) past pair) → TellListedFaults start past pair went
told_listed start [] pair went = tt
told_listed start (entry ∷ past) pair went = (
  told_listed start past went.0 went.1,
  λ part told. listed_rose part (peer_at (side_of entry.step) went.0) (peer_at (side_of entry.step) pair) (went.2.2.fault part told),
)

pub told_in_runs : (start pair : FaultyPairState) (steps : List Step) (r : Result (Vec (Reply PlainMediaEvent) Global) AllocError)
    → IfOk r (λ replies. (run : Runs faulty_parts is_ice_message start steps replies.items pair) → TellListedFaults start run.past pair run.went)
told_in_runs start pair steps (Ok replies) = λ run. told_listed start run.past pair run.went
told_in_runs start pair steps (Err error) = tt
