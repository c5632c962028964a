-- What the program does and returns.
use Rattle.std.specs.Prelude.{◌≡◌, ◌≤◌, ◌^◌, ◌⊎◌, ℕ, List, length, codes, Option, Some, None}
use Rattle.std.specs.Io.KnownBytes.{Appends}
use Rattle.std.specs.declared.alloc.Global.{Global}
use Rattle.rtc_io.specs.Faults.{Rose}
use Rattle.rtc_io.specs.Programs.{Program, ReadsInput}
use Rattle.rtc_run.specs.ProgramPair.{PlainPairState}
use Rattle.rtc_room_laws.specs.RoomRuns.{RoomRuns}
use Rattle.rtc_room_laws.specs.declared.room_reply.RoomReply.{RoomReply}
use Rattle.rtc_room_laws.specs.declared.room_step.RoomStep.{RoomStep}
use Rattle.rtc_room_laws.specs.RoomHandsOn.{RoomHandsOn}
use Rattle.rtc_room.specs.RoomReport.{room_report}
use Rattle.rtc_room.specs.RoomScript.{IsRoomScript, IsRefusedRoomScript}
use Rattle.rtc_room.specs.declared.room_script_error.RoomScriptError.TheVariants.{Line}

-- This text is the report of a room that was empty over these steps.
pub record IsRoomReport (alloc : Global) (steps : List RoomStep) (text : List ℕ) : Type 0 where
  pub replies : List RoomReply
  pub pairs : List PlainPairState
  pub runs : RoomRuns alloc steps replies pairs
  pub is : text ≡ room_report replies

-- the texts of the program: it reads scripts, and prints for each the report of its steps
abbrev pub room_program : Global → Program (List RoomStep)
room_program alloc = record {
  usage = codes "usage: rtc_room run\n";
  subject = codes "script";
  IsRead = IsRoomScript;
  IsRefusedAt = λ bytes line. IsRefusedRoomScript bytes (Line line);
  IsAnswer = IsRoomReport alloc;
}

-- A room that was empty took these steps, the report of its replies was written, and its members heard each other.
pub record WritesReport (alloc : Global) (steps : List RoomStep) (written written' : Option (List ℕ)) : Type 0 where
  pub replies : List RoomReply
  pub pairs : List PlainPairState
  pub runs : RoomRuns alloc steps replies pairs
  pub hands_on : RoomHandsOn alloc steps replies pairs runs
  pub told : Appends written written' (room_report replies)

-- A script was read to the end of the input, and its steps were taken.
pub record RunsRoomScript (alloc : Global) (left left' written written' : Option (List ℕ)) : Type 0 where
  pub steps : List RoomStep
  pub read : ReadsInput left left' (λ bytes. IsRoomScript bytes steps)
  pub writes : WritesReport alloc steps written written'

-- what is left of the input is known to be a script that is not too long
abbrev pub TellsRoomScript : Option (List ℕ) → Type 0
TellsRoomScript None = ⊥
TellsRoomScript (Some bytes) = (length bytes ≤ 2 ^ 20) × ((steps : List RoomStep) × IsRoomScript bytes steps)

-- Its steps are taken, unless memory runs out, if neither the source nor the sink fails.
abbrev pub CompletesRoom : Option (List ℕ) → (faults faults' taken taken' status : ℕ) → Type 0
CompletesRoom left faults faults' taken taken' status =
    TellsRoomScript left → (Rose faults faults' → ⊥) → (Rose taken taken' → ⊥) → (status ≡ 0) ⊎ (status ≡ 6)
