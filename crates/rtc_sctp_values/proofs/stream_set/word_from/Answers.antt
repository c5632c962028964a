use Rattle.std.proofs.Common.{◌<◌, ◌^◌, get_or, arith, rules}
use Rattle.rtc_sctp_values.proofs.BitLemmas.{none_past, none_below, some_below}
use Rattle.rtc_sctp_values.proofs.stream_set.word_from.Goals as goal

pub returns-then-from-ge65536 : goal.returns-then-from-ge65536
returns-then-from-ge65536 c = none_past c.args.words.now c.args.from 1024 c.requires.words (omega arith)

pub returns-in_default-group_from : goal.returns-in_default-group_from
returns-in_default-group_from c = none_below c.args.groups.now c.args.words.now c.args.from c.requires.lower c.in_default.ensures c.in_default-group_from.ensures

pub returns : goal.returns
returns c =
    let fits : get_or c.args.words.now c.in-Some-group_from.at 0 < 2 ^ 64 = search rules in
    some_below c.args.groups.now c.args.words.now c.args.from c.in-Some-group_from.at _ c.requires.lower c.in_default.ensures c.in-Some-group_from.ensures fits c.bit_behind-2.ensures
