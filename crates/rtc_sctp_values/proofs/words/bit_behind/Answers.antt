use Rattle.std.proofs.Common.{◌<◌, ◌^◌, ◌/◌, get_or, arith, rules}
use Rattle.rtc_sctp_values.proofs.BitLemmas.{none_behind, some_behind}
use Rattle.rtc_sctp_values.proofs.words.bit_behind.Goals as goal

pub returns-then-behind-eq0 : goal.returns-then-behind-eq0
returns-then-behind-eq0 c = none_behind c.args.words.now c.args.from c.if-behind-eq0.true

pub returns : goal.returns
returns c =
    let fits : get_or c.args.words.now (c.args.from / 64) 0 < 2 ^ 64 = search rules in
    some_behind c.args.words.now c.args.from (omega (arith, c.if-behind-eq0.false)) fits
