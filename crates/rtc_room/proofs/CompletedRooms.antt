-- The steps of a script are taken where nothing fails.
use Rattle.std.proofs.Common.{◌≡◌, ◌<◌, ◌≤◌, ◌^◌, ◌⊎◌, inl, inr, ℕ, List, length, Option, Some, None, arith}
use Rattle.rtc_io.specs.Faults.{Rose}
use Rattle.rtc_io.specs.Saying.{BreaksOff}
use Rattle.rtc_io.specs.Programs.{IsTooLong, ReadsInput}
use Rattle.rtc_room.specs.RoomScript.{IsRefusedRoomScript}
use Rattle.rtc_room.specs.declared.room_script_error.RoomScriptError.TheVariants.{Line}
use Rattle.rtc_room.specs.Answers.{TellsRoomScript, CompletesRoom}

short_enough : (left : Option (List ℕ)) → TellsRoomScript left → IsTooLong left → ⊥
short_enough None tells long = tells
short_enough (Some bytes) tells long = let short : length bytes ≤ 2 ^ 20 = tells.0 in let past : 2 ^ 20 < length bytes = long in absurd (omega arith)

-- the input was not read
pub completes_unread : (A B : Type 0) (D : List ℕ → Type 0) (left written written' : Option (List ℕ)) (faults faults' taken taken' status : ℕ)
    → (status ≡ 4) ⊎ (status ≡ 5) ⊎ (status ≡ 6) ⊎ (status ≡ 7) → (status ≡ 4 → Rose faults faults' × A) → (status ≡ 5 → BreaksOff D written written' taken taken')
    → (status ≡ 7 → IsTooLong left × B) → CompletesRoom left faults faults' taken taken' status
completes_unread A B D left written written' faults faults' taken taken' status (inl four) read write long tells source sink = absurd (source (read four).0)
completes_unread A B D left written written' faults faults' taken taken' status (inr (inl five)) read write long tells source sink = absurd (sink (write five).rose)
completes_unread A B D left written written' faults faults' taken taken' status (inr (inr (inl six))) read write long tells source sink = inr six
completes_unread A B D left written written' faults faults' taken taken' status (inr (inr (inr seven))) read write long tells source sink =
    absurd (short_enough left tells (long seven).0)

-- it was read, and is a script
pub completes_read : (D : List ℕ → Type 0) (left written written' : Option (List ℕ)) (faults faults' taken taken' status : ℕ)
    → (status ≡ 0) ⊎ (status ≡ 5) ⊎ (status ≡ 6) → (status ≡ 5 → BreaksOff D written written' taken taken') → CompletesRoom left faults faults' taken taken' status
completes_read D left written written' faults faults' taken taken' status (inl none) write tells source sink = inl none
completes_read D left written written' faults faults' taken taken' status (inr (inl five)) write tells source sink = absurd (sink (write five).rose)
completes_read D left written written' faults faults' taken taken' status (inr (inr six)) write tells source sink = inr six

no_script : (left left' : Option (List ℕ)) (line : ℕ) → TellsRoomScript left → ReadsInput left left' (λ bytes. IsRefusedRoomScript bytes (Line line)) → ⊥
no_script None left' line tells read = tells
no_script (Some bytes) left' line tells read = read.read.1.0 tells.1.0 tells.1.1

-- or it is none
pub completes_refused : (left left' : Option (List ℕ)) (faults faults' taken taken' status line : ℕ)
    → ReadsInput left left' (λ bytes. IsRefusedRoomScript bytes (Line line)) → CompletesRoom left faults faults' taken taken' status
completes_refused left left' faults faults' taken taken' status line read tells source sink = absurd (no_script left left' line tells read)
