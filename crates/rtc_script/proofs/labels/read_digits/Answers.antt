use Rattle.std.proofs.Common.{◌≡◌, ◌≢◌, rules}
use Rattle.hex.specs.Hex.{encode_lower}
use Rattle.hex.proofs.HexLemmas.{decode_of-ok}
use Rattle.rtc_script.proofs.LabelLemmas.{failed_digits, other_digits}
use Rattle.rtc_script.proofs.labels.read_digits.Goals as goal

pub returns-in-Err-clause-none : goal.returns-in-Err-clause-none
returns-in-Err-clause-none c = failed_digits c.args.word.now c.in-Err.error c.is_no_memory.result c.in-Err.ensures.err c.is_no_memory.ensures c.if-is_no_memory.false

pub returns-then-eq-clause-some : goal.returns-then-eq-clause-some
returns-then-eq-clause-some c =
    let same : c.args.word.now ≡ encode_lower c.in-Ok.bytes.items = search rules in
    (same, (decode_of-ok c.args.word.now c.in-Ok.bytes.items c.in-Ok.ensures.ok).3)

pub returns-else-eq-clause-none : goal.returns-else-eq-clause-none
returns-else-eq-clause-none c =
    let other : encode_lower c.in-Ok.bytes.items ≢ c.args.word.now = search rules in
    other_digits c.args.word.now c.in-Ok.bytes.items c.in-Ok.ensures.ok other
