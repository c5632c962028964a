use Rattle.std.proofs.Common.{rules, arith}
use Rattle.rtc_files.proofs.SizeWords.{other_decimal}
use Rattle.rtc_files.proofs.asking.session_size.Goals as goal

pub returns-then-size-gt4294967295-clause-none : goal.returns-then-size-gt4294967295-clause-none
returns-then-size-gt4294967295-clause-none c = other_decimal c.args.word.now c.in_ok-size.size c.in_ok-size.ensures.some (search rules) (omega (arith, c.if-size-gt4294967295.true))
