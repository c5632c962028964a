use Rattle.std.proofs.Common.{◌<◌, ◌^◌, get_or, arith, rules}
use Rattle.rtc_sctp_values.proofs.BitLemmas.{none_past, none_below, some_below}
use Rattle.rtc_sctp_values.proofs.stream_set.group_from.Goals as goal

pub returns-then-from-ge1024 : goal.returns-then-from-ge1024
returns-then-from-ge1024 c = none_past c.args.groups.now c.args.from 16 c.requires.groups (omega arith)

pub returns-in_default-top_from : goal.returns-in_default-top_from
returns-in_default-top_from c = none_below c.args.top.now c.args.groups.now c.args.from c.requires.summary c.in_default.ensures c.in_default-top_from.ensures

pub returns : goal.returns
returns c =
    let fits : get_or c.args.groups.now c.in-Some-top_from.at 0 < 2 ^ 64 = search rules in
    some_below c.args.top.now c.args.groups.now c.args.from c.in-Some-top_from.at _ c.requires.summary c.in_default.ensures c.in-Some-top_from.ensures fits c.bit_behind-2.ensures
