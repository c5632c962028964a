use Rattle.std.proofs.Common.{◌∙◌, [], ap}
use Rattle.rtc_script.proofs.SixParts.{no_six}
use Rattle.rtc_script.proofs.ZipLemmas.{texts}
use Rattle.rtc_script.proofs.ops.read_op.Goals as goal

pub returns-in-len6-clause-none : goal.returns-in-len6-clause-none
returns-in-len6-clause-none c =
    no_six (λ part. part.now) c.as_slice.result.now (record { ref_ptr = (0, 0); now = [] }) _ c.read_six_parts.result c.in-len6.len_at_least
    c.in-len6.len_below (ap texts c.as_slice.ensures.value ∙ c.in_ok-parts.ensures) c.read_six_parts.ensures.none
