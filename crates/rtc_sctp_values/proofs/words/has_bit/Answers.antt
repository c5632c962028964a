use Rattle.std.proofs.Common.{◌/◌, ◌%◌, get_or, ap, eqb}
use Rattle.std.proofs.lemmas.Nat.Bits.{shr_and_one}
use Rattle.rtc_sctp_values.specs.Words.{has_bit}
use Rattle.rtc_sctp_values.proofs.words.has_bit.Goals as goal

pub returns : goal.returns
unfolding has_bit
returns c = ap (λ n. eqb n 1) (shr_and_one (get_or c.args.words.now (c.args.place / 64) 0) (c.args.place % 64))
