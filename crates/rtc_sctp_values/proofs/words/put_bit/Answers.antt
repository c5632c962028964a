use Rattle.std.proofs.Common.{◌/◌, ◌%◌, ◌∙◌, get_or, ap, eqb, sym, w64, arith}
use Rattle.std.proofs.lemmas.Nat.Bits.{bit_at_set_same, bit_at_set_other, bit_at_clear_same, bit_at_clear_other}
use Rattle.rtc_sctp_values.proofs.WordLemmas.{bit_put, bit_kept}
use Rattle.rtc_sctp_values.proofs.words.put_bit.Goals as goal

pub returns-then-value-clause-here : goal.returns-then-value-clause-here
returns-then-value-clause-here c =
    bit_put c.args.words.now c.args.place _ c.args.value c.requires
    (ap (λ n. eqb n 1) (bit_at_set_same w64 (get_or c.args.words.now (c.args.place / 64) 0) (c.args.place % 64) (omega arith)) ∙ sym c.if-value.true)

pub returns-then-value-clause-others : goal.returns-then-value-clause-others
returns-then-value-clause-others c =
    bit_kept c.args.words.now c.args.place _ c.requires
    (λ i below differs. bit_at_set_other w64 (get_or c.args.words.now (c.args.place / 64) 0) (c.args.place % 64) (omega arith) i differs)

pub returns-else-value-clause-here : goal.returns-else-value-clause-here
returns-else-value-clause-here c =
    bit_put c.args.words.now c.args.place _ c.args.value c.requires
    (ap (λ n. eqb n 1) (bit_at_clear_same w64 (get_or c.args.words.now (c.args.place / 64) 0) (c.args.place % 64) (omega arith)) ∙ sym c.if-value.false)

pub returns-else-value-clause-others : goal.returns-else-value-clause-others
returns-else-value-clause-others c =
    bit_kept c.args.words.now c.args.place _ c.requires
    (λ i below differs. bit_at_clear_other w64 (get_or c.args.words.now (c.args.place / 64) 0) (c.args.place % 64) (omega arith) i below differs)
