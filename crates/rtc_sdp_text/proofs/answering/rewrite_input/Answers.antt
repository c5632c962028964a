use Rattle.std.proofs.Common.{rules}
use Rattle.rtc_sdp_text.proofs.DueSdp.{sdp_due}
use Rattle.rtc_sdp_text.proofs.answering.rewrite_input.Goals as goal

pub returns-in-Ok-rewrite-clause-write : goal.returns-in-Ok-rewrite-clause-write
returns-in-Ok-rewrite-clause-write g c =
    let read = c.in-Ok-rewrite.ensures in
    λ failed. sdp_due _ _ _ _ _ _ _ _ _ c.in-Ok.bytes c.as_slice.result.now c.as_bytes.result.now read.0 c.in-Ok.ensures.bytes c.in-Ok.ensures.end c.in-Ok.ensures.within (search rules) read.1 (search rules) (rw c.in-Ok.ensures.silent at c.say.ensures) failed
