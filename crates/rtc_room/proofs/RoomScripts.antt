-- What was read, said of what a source had left.
use Rattle.std.proofs.Common.{◌≡◌, ◌≤◌, ◌^◌, ℕ, List, length, Option, sym, subst}
use Rattle.std.specs.Io.KnownBytes.{Consumes, IsAtEnd}
use Rattle.rtc_io.proofs.Told.{reads_input}
use Rattle.rtc_io.specs.Programs.{ReadsInput}
use Rattle.rtc_room_laws.specs.declared.room_step.RoomStep.{RoomStep}
use Rattle.rtc_room.specs.RoomScript.{IsRoomScript, IsRefusedRoomScript}
use Rattle.rtc_room.specs.declared.room_script_error.RoomScriptError.{RoomScriptError}
use Rattle.rtc_room.specs.declared.room_script_error.RoomScriptError.TheVariants.{Line}

pub reads_steps : (a b : Option (List ℕ)) (bytes slice : List ℕ) (steps performed : List RoomStep) → Consumes a b bytes → IsAtEnd b → length bytes ≤ 2 ^ 20 → slice ≡ bytes → IsRoomScript slice steps → performed ≡ steps → ReadsInput a b (λ text. IsRoomScript text performed)
reads_steps a b bytes slice steps performed taken ended short same script calls_are =
    let Q : List ℕ → Type 0 = λ (text : List ℕ). IsRoomScript text performed in
    reads_input a b bytes Q taken ended short (subst Q same (subst (λ (cs : List RoomStep). IsRoomScript slice cs) (sym calls_are) script))

pub reads_no_steps : (a b : Option (List ℕ)) (bytes slice : List ℕ) (error : RoomScriptError) (line : ℕ) → Consumes a b bytes → IsAtEnd b → length bytes ≤ 2 ^ 20 → slice ≡ bytes → IsRefusedRoomScript slice error → error ≡ Line line → ReadsInput a b (λ text. IsRefusedRoomScript text (Line line))
reads_no_steps a b bytes slice error line taken ended short same refused error_is =
    let Q : List ℕ → Type 0 = λ (text : List ℕ). IsRefusedRoomScript text (Line line) in
    reads_input a b bytes Q taken ended short (subst Q same (subst (λ (e : RoomScriptError). IsRefusedRoomScript slice e) error_is refused))
