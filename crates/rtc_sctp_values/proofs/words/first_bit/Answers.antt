use Rattle.std.proofs.Common.{◌<◌, ◌^◌, get_or, w64, arith, rules}
use Rattle.std.proofs.lemmas.Nat.Bits.{bit_at-trailing_zeros}
use Rattle.rtc_sctp_values.proofs.WordLemmas.{used_within, first_place}
use Rattle.rtc_sctp_values.proofs.words.first_bit.Goals as goal

pub overflow_mul-result : goal.overflow_mul-result
overflow_mul-result c = let within = used_within c.args.words.now c.args.at c.requires.word.used in omega arith

pub overflow_add-result : goal.overflow_add-result
overflow_add-result c =
    let within = used_within c.args.words.now c.args.at c.requires.word.used in
    let fits : get_or c.args.words.now c.args.at 0 < 2 ^ 64 = search rules in
    let lowest = bit_at-trailing_zeros w64 (get_or c.args.words.now c.args.at 0) c.requires.word.used fits in
    omega (arith, lowest.0)

pub returns-clause-first : goal.returns-clause-first
returns-clause-first c = first_place c.args.words.now c.args.at c.requires.word (search rules)
