use Rattle.std.proofs.Common.{arith}
use Rattle.std.proofs.lemmas.Str.{IsUtf8-from_ascii}
use Rattle.std.proofs.lemmas.Fmt.{IsAscii-decimal}
use Rattle.rtc_script.proofs.numbers.read_u64.Goals as goal

pub returns-in_default-clause-none : goal.returns-in_default-clause-none
returns-in_default-clause-none c = λ n small is. c.in_default.ensures.cases.0 (rw is (IsUtf8-from_ascii _ (IsAscii-decimal n (omega arith))))
