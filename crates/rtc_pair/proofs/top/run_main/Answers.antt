use Rattle.std.proofs.Common.{refl, ◌≤◌, ◌^◌, length, rules}
use Rattle.rtc_io.proofs.Told.{answer_due, refusal_due}
use Rattle.rtc_pair.specs.Answers.{script_program}
use Rattle.rtc_pair.proofs.Completes.{completes_unread, completes_read, completes_refused}
use Rattle.rtc_pair.proofs.Scripts.{reads_script, reads_no_script, runs_or}
use Rattle.rtc_pair.proofs.top.run_main.Goals as goal

pub perform_script-requires : goal.perform_script-requires
perform_script-requires g c =
    let short : length c.as_slice.result.now ≤ 2 ^ 20 = search rules in
    c.in-Ok-read_script.ensures.few short

pub returns-in-Ok-read_script-clause-done : goal.returns-in-Ok-read_script-clause-done
returns-in-Ok-read_script-clause-done g c =
    let read = reads_script _ _ c.in-Ok.bytes c.as_slice.result.now c.in-Ok-read_script.script c.in-Ok.ensures.bytes c.in-Ok.ensures.end c.in-Ok.ensures.within (search rules) c.in-Ok-read_script.ensures.some in
    λ ended. record { script = _; read = read; performs = rw c.in-Ok.ensures.silent at (c.perform_script.ensures.done ended) }

pub returns-in-Ok-read_script-clause-write : goal.returns-in-Ok-read_script-clause-write
returns-in-Ok-read_script-clause-write g c =
    let read = reads_script _ _ c.in-Ok.bytes c.as_slice.result.now c.in-Ok-read_script.script c.in-Ok.ensures.bytes c.in-Ok.ensures.end c.in-Ok.ensures.within (search rules) c.in-Ok-read_script.ensures.some in
    λ ended. answer_due (script_program c.args.alloc) _ _ _ _ _ _ _ _ _ _ _ tt read (rw c.in-Ok.ensures.silent at (c.perform_script.ensures.write ended))

pub returns-in-Ok-read_script-clause-memory : goal.returns-in-Ok-read_script-clause-memory
returns-in-Ok-read_script-clause-memory g c =
    let read = reads_script _ _ c.in-Ok.bytes c.as_slice.result.now c.in-Ok-read_script.script c.in-Ok.ensures.bytes c.in-Ok.ensures.end c.in-Ok.ensures.within (search rules) c.in-Ok-read_script.ensures.some in
    λ ended. runs_or _ _ _ _ _ _ _ _ read (rw c.in-Ok.ensures.silent at (c.perform_script.ensures.memory ended))

pub returns-in-Err-Line-clause-refused : goal.returns-in-Err-Line-clause-refused
returns-in-Err-Line-clause-refused g c =
    let read = reads_no_script _ _ c.in-Ok.bytes c.as_slice.result.now c.in-Err-Line.field-0 c.in-Err-Line.line c.in-Ok.ensures.bytes c.in-Ok.ensures.end c.in-Ok.ensures.within (search rules) c.in-Err-Line.ensures.none c.in-Err-Line.field-0-is in
    λ ended. record { line = _; read = read; told = rw c.in-Ok.ensures.silent at (c.refuse_input.ensures.told ended) }

pub returns-in-Err-Line-clause-write : goal.returns-in-Err-Line-clause-write
returns-in-Err-Line-clause-write g c =
    let read = reads_no_script _ _ c.in-Ok.bytes c.as_slice.result.now c.in-Err-Line.field-0 c.in-Err-Line.line c.in-Ok.ensures.bytes c.in-Ok.ensures.end c.in-Ok.ensures.within (search rules) c.in-Err-Line.ensures.none c.in-Err-Line.field-0-is in
    λ ended. refusal_due (script_program c.args.alloc) _ _ _ _ _ _ _ _ _ _ _ tt read (rw c.in-Ok.ensures.silent at (c.refuse_input.ensures.write ended))

pub returns-in-Ok-read_script-clause-complete : goal.returns-in-Ok-read_script-clause-complete
returns-in-Ok-read_script-clause-complete g c = completes_read _ _ _ _ _ _ _ _ _ c.perform_script.ensures.statuses (rw c.in-Ok.ensures.silent at c.perform_script.ensures.write)

pub returns-in-Err-Line-clause-complete : goal.returns-in-Err-Line-clause-complete
returns-in-Err-Line-clause-complete g c =
    completes_refused _ _ _ _ _ _ _ c.in-Err-Line.line (reads_no_script _ _ c.in-Ok.bytes c.as_slice.result.now c.in-Err-Line.field-0 c.in-Err-Line.line c.in-Ok.ensures.bytes c.in-Ok.ensures.end c.in-Ok.ensures.within (search rules) c.in-Err-Line.ensures.none c.in-Err-Line.field-0-is)

pub returns-in-Err-clause-complete : goal.returns-in-Err-clause-complete
returns-in-Err-clause-complete g c =
    completes_unread _ _ _ _ _ _ _ _ _ _ _ c.in-Err.ensures.statuses (λ is. c.in-Err.ensures.read (rw is refl)) (λ is. c.in-Err.ensures.write (rw is refl)) (λ is. c.in-Err.ensures.long (rw is refl))
