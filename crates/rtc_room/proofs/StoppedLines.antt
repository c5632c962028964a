-- The lines of steps, one line at a time.
use Rattle.std.proofs.Common.{◌<◌, ℕ, List, length, take, get_or, Bor}
use Rattle.std.proofs.lemmas.List.{length-map}
use Rattle.rtc_room.specs.RoomLines.{IsRoomLine}
use Rattle.rtc_room.specs.RoomScript.{HaveRoomLines}
use Rattle.rtc_room.specs.RoomScript.{StopsAtRoomLine}
use Rattle.rtc_room.proofs.ZipLemmas.{texts, no_zip_at}
use Rattle.rtc_room_laws.specs.declared.room_step.RoomStep.{RoomStep}

-- lines stop being lines of steps at the first that no step has
pub stops_at_no_step : (lines : List (Bor (List ℕ))) (i : ℕ) (d : Bor (List ℕ)) (steps : List RoomStep) → i < length lines → HaveRoomLines (take i (texts lines)) steps → ((step : RoomStep) → IsRoomLine (get_or lines i d).now step → ⊥) → StopsAtRoomLine (texts lines) i
stops_at_no_step lines i d steps within are none = (rw length-map within, (steps, are), no_zip_at IsRoomLine lines i d within none)
