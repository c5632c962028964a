use Rattle.std.proofs.Common.{◌<◌, ◌≤◌, ◌^◌, length, List, refl, sym, subst, rules}
use Rattle.rtc_io.proofs.Told.{answer_due, refusal_due}
use Rattle.rtc_room_laws.specs.RoomSizes.{room_size}
use Rattle.rtc_room_laws.specs.declared.room_step.RoomStep.{RoomStep}
use Rattle.rtc_room.specs.Answers.{room_program}
use Rattle.rtc_room.proofs.SmallRoomScripts.{script_small}
use Rattle.rtc_room.proofs.RoomScripts.{reads_steps, reads_no_steps}
use Rattle.rtc_room.proofs.CompletedRooms.{completes_unread, completes_read, completes_refused}
use Rattle.rtc_room.proofs.top.room_main.Goals as goal

pub perform_steps-requires : goal.perform_steps-requires
perform_steps-requires g c =
    let short : length c.as_slice.result.now ≤ 2 ^ 20 = search rules in
    subst (λ (steps : List RoomStep). room_size steps < 2 ^ 32) (sym c.as_slice-in-Ok-read_script.ensures) (script_small c.as_slice.result.now c.in-Ok-read_script.steps c.in-Ok-read_script.ensures.some short)

pub returns-in-Ok-read_script-clause-write : goal.returns-in-Ok-read_script-clause-write
returns-in-Ok-read_script-clause-write g c =
    let read = reads_steps _ _ c.in-Ok.bytes c.as_slice.result.now c.in-Ok-read_script.steps c.as_slice-in-Ok-read_script.result.now c.in-Ok.ensures.bytes c.in-Ok.ensures.end c.in-Ok.ensures.within (search rules) c.in-Ok-read_script.ensures.some c.as_slice-in-Ok-read_script.ensures in
    λ ended. answer_due (room_program _) _ _ _ _ _ _ _ _ _ _ _ (search rules) read (rw c.in-Ok.ensures.silent at (c.perform_steps.ensures.write ended))

pub returns-in-Err-Line-clause-refused : goal.returns-in-Err-Line-clause-refused
returns-in-Err-Line-clause-refused g c =
    let read = reads_no_steps _ _ c.in-Ok.bytes c.as_slice.result.now c.in-Err-Line.field-0 c.in-Err-Line.line c.in-Ok.ensures.bytes c.in-Ok.ensures.end c.in-Ok.ensures.within (search rules) c.in-Err-Line.ensures.none c.in-Err-Line.field-0-is in
    λ ended. record { line = _; read = read; told = rw c.in-Ok.ensures.silent at (c.refuse_input.ensures.told ended) }

pub returns-in-Err-Line-clause-write : goal.returns-in-Err-Line-clause-write
returns-in-Err-Line-clause-write g c =
    let read = reads_no_steps _ _ c.in-Ok.bytes c.as_slice.result.now c.in-Err-Line.field-0 c.in-Err-Line.line c.in-Ok.ensures.bytes c.in-Ok.ensures.end c.in-Ok.ensures.within (search rules) c.in-Err-Line.ensures.none c.in-Err-Line.field-0-is in
    λ ended. refusal_due (room_program _) _ _ _ _ _ _ _ _ _ _ _ (search rules) read (rw c.in-Ok.ensures.silent at (c.refuse_input.ensures.write ended))

pub returns-in-Ok-read_script-clause-complete : goal.returns-in-Ok-read_script-clause-complete
returns-in-Ok-read_script-clause-complete g c = λ asked.
    completes_read _ _ _ _ _ _ _ _ _ c.perform_steps.ensures.statuses (rw c.in-Ok.ensures.silent at c.perform_steps.ensures.write)

pub returns-in-Err-Line-clause-complete : goal.returns-in-Err-Line-clause-complete
returns-in-Err-Line-clause-complete g c =
    let read = reads_no_steps _ _ c.in-Ok.bytes c.as_slice.result.now c.in-Err-Line.field-0 c.in-Err-Line.line c.in-Ok.ensures.bytes c.in-Ok.ensures.end c.in-Ok.ensures.within (search rules) c.in-Err-Line.ensures.none c.in-Err-Line.field-0-is in
    λ asked. completes_refused _ _ _ _ _ _ _ _ read

pub returns-in-Err-clause-complete : goal.returns-in-Err-clause-complete
returns-in-Err-clause-complete g c = λ asked.
    completes_unread _ _ _ _ _ _ _ _ _ _ _ c.in-Err.ensures.statuses (λ is. c.in-Err.ensures.read (rw is refl)) (λ is. c.in-Err.ensures.write (rw is refl)) (λ is. c.in-Err.ensures.long (rw is refl))
