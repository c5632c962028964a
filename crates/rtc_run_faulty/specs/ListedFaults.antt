-- Faults that are reported, and the listed calls that failed.
use Rattle.std.specs.Prelude.{◌≡◌, ℕ, true, List, [], ◌∷◌}
use Rattle.rtc_io.specs.Faults.{Rose}
use Rattle.rtc_peer_core.specs.declared.rtc_error.RtcError.{RtcError}
use Rattle.rtc_plain_ice.specs.Messages.{is_ice_message}
use Rattle.rtc_plain_media.specs.declared.plain_media_event.PlainMediaEvent.{PlainMediaEvent}
use Rattle.rtc_run_history.specs.Memory.{CountedPart, DtlsPart, AssociationPart, MediaPart, is_fault_of, tells_fault_of}
use Rattle.rtc_run_history.specs.PairState.{peer_at}
use Rattle.rtc_run_history.specs.Past.{Entry}
use Rattle.rtc_run_history.specs.Runs.{Went, EntersSoundly}
use Rattle.rtc_run_history.specs.Sides.{side_of}
use Rattle.rtc_run_faulty.specs.FaultyParts.{FaultyCore, FaultyPairState, faulty_parts}

-- how many listed calls of this part of a peer failed
abbrev pub listed_faults : CountedPart → FaultyCore → ℕ
listed_faults DtlsPart p = p.dtls.instance.numbers.faults
listed_faults AssociationPart p = p.sctp.association.numbers.faults
listed_faults MediaPart p = p.media.numbers.faults

-- a listed call of this part failed between two states of a peer
abbrev pub FailedListed : CountedPart → FaultyCore → FaultyCore → Type 0
FailedListed part before after = Rose (listed_faults part before) (listed_faults part after)

-- an error reports a fault of a part only if a listed call of that part failed
abbrev pub HasListedCause : FaultyCore → RtcError → FaultyCore → Type 0
HasListedCause before error after = (part : CountedPart) → is_fault_of error part ≡ true → FailedListed part before after

-- an entry reports a fault of a part only if a listed call of that part of the acting side failed in its step
abbrev pub TellsListedFaults : FaultyPairState → Entry PlainMediaEvent → FaultyPairState → Type 0
TellsListedFaults before entry after =
    (part : CountedPart) → tells_fault_of entry.outcome part ≡ true
    → FailedListed part (peer_at (side_of entry.step) before) (peer_at (side_of entry.step) after)

-- so does each entry of a run
abbrev pub TellListedFaults : (start : FaultyPairState) (past : List (Entry PlainMediaEvent)) (pair : FaultyPairState)
    → Went (EntersSoundly faulty_parts is_ice_message start) (λ fresh. fresh ≡ start) past pair → Type 0
TellListedFaults start [] pair went = Unit {0}
TellListedFaults start (entry ∷ past) pair went = TellListedFaults start past went.0 went.1 × TellsListedFaults went.0 entry pair
