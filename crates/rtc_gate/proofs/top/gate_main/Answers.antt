use Rattle.std.proofs.Common.{◌<◌, ◌≤◌, ◌^◌, length, List, sym, subst, rules}
use Rattle.rtc_io.proofs.Told.{answer_due, refusal_due}
use Rattle.rtc_gate_calls.specs.Sizes.{calls_size}
use Rattle.rtc_gate_calls.specs.declared.gate_call.GateCall.{GateCall}
use Rattle.rtc_gate.specs.Answers.{gate_program}
use Rattle.rtc_gate.proofs.SmallScripts.{script_small}
use Rattle.rtc_gate.proofs.GateScripts.{reads_calls, reads_no_calls}
use Rattle.rtc_gate.proofs.top.gate_main.Goals as goal

pub perform_calls-requires : goal.perform_calls-requires
perform_calls-requires g c =
    let short : length c.as_slice.result.now ≤ 2 ^ 20 = search rules in
    subst (λ (calls : List GateCall). calls_size calls < 2 ^ 32) (sym c.as_slice-in-Ok-read_script.ensures) (script_small c.as_slice.result.now c.in-Ok-read_script.calls c.in-Ok-read_script.ensures.some short)

pub returns-in-Ok-read_script-clause-write : goal.returns-in-Ok-read_script-clause-write
returns-in-Ok-read_script-clause-write g c =
    let read = reads_calls _ _ c.in-Ok.bytes c.as_slice.result.now c.in-Ok-read_script.calls c.as_slice-in-Ok-read_script.result.now c.in-Ok.ensures.bytes c.in-Ok.ensures.end c.in-Ok.ensures.within (search rules) c.in-Ok-read_script.ensures.some c.as_slice-in-Ok-read_script.ensures in
    λ ended. answer_due gate_program _ _ _ _ _ _ _ _ _ _ _ (search rules) read (rw c.in-Ok.ensures.silent at (c.perform_calls.ensures.write ended))

pub returns-in-Err-Line-clause-refused : goal.returns-in-Err-Line-clause-refused
returns-in-Err-Line-clause-refused g c =
    let read = reads_no_calls _ _ c.in-Ok.bytes c.as_slice.result.now c.in-Err-Line.field-0 c.in-Err-Line.line c.in-Ok.ensures.bytes c.in-Ok.ensures.end c.in-Ok.ensures.within (search rules) c.in-Err-Line.ensures.none c.in-Err-Line.field-0-is in
    λ ended. record { line = _; read = read; told = rw c.in-Ok.ensures.silent at (c.refuse_input.ensures.told ended) }

pub returns-in-Err-Line-clause-write : goal.returns-in-Err-Line-clause-write
returns-in-Err-Line-clause-write g c =
    let read = reads_no_calls _ _ c.in-Ok.bytes c.as_slice.result.now c.in-Err-Line.field-0 c.in-Err-Line.line c.in-Ok.ensures.bytes c.in-Ok.ensures.end c.in-Ok.ensures.within (search rules) c.in-Err-Line.ensures.none c.in-Err-Line.field-0-is in
    λ ended. refusal_due gate_program _ _ _ _ _ _ _ _ _ _ _ (search rules) read (rw c.in-Ok.ensures.silent at (c.refuse_input.ensures.write ended))
