use Rattle.std.proofs.Common.{◌∙◌, sym, true, arith, rules}
use Rattle.rtc_sdp_text.proofs.DueSdp.{rows_due, rows_written}
use Rattle.rtc_sdp_text.proofs.answering.explain_input.Goals as goal

pub returns-then-explained-clause-write : goal.returns-then-explained-clause-write
returns-then-explained-clause-write g c =
    λ failed. rows_due _ _ _ _ _ _ _ _ 3 _ c.in-Ok.bytes c.as_slice.result.now c.as_bytes-rows.result.now c.in-Ok.ensures.bytes c.in-Ok.ensures.end c.in-Ok.ensures.within (search rules) (search rules) (λ e. omega (arith, e)) (rw c.in-Ok.ensures.silent at c.say.ensures) failed

pub returns-clause-write : goal.returns-clause-write
returns-clause-write g c =
    λ failed. rows_due _ _ _ _ _ _ _ _ 0 _ c.in-Ok.bytes c.as_slice.result.now c.as_bytes-rows.result.now c.in-Ok.ensures.bytes c.in-Ok.ensures.end c.in-Ok.ensures.within (search rules) (search rules) (λ e. omega (arith, e)) (rw c.in-Ok.ensures.silent at c.say-else-explained.ensures) failed

pub returns-then-explained-clause-refused : goal.returns-then-explained-clause-refused
returns-then-explained-clause-refused g c =
    λ done. rows_written true _ _ _ _ _ _ 3 _ c.in-Ok.bytes c.as_slice.result.now c.as_bytes-rows.result.now c.in-Ok.ensures.bytes c.in-Ok.ensures.end c.in-Ok.ensures.within (search rules) (sym c.in-Ok-explain.ensures.is_refused ∙ c.if-explained.true) (search rules) (λ e. omega (arith, e)) (rw c.in-Ok.ensures.silent at c.say.ensures) done
