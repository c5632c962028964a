use Rattle.std.proofs.Common.{◌≡◌, sym, ◌∙◌, true, false}
use Rattle.rtc_wire_text.specs.Numbers.{is_plain_numeral}
use Rattle.rtc_wire_text.proofs.NumberLemmas.{plain_numeral_parts, parsed_decimal, unparsed_decimal, is_plain_numeral-decimal}
use Rattle.rtc_wire_text.proofs.decimal.read_decimal.Goals as goal

pub returns-then-not-is_plain_numeral-clause-none : goal.returns-then-not-is_plain_numeral-clause-none
returns-then-not-is_plain_numeral-clause-none c = λ n small is.
    let plain : is_plain_numeral c.args.text.now ≡ true = rw is (is_plain_numeral-decimal n small) in
    let bad : true ≡ false = sym plain ∙ sym c.is_plain_numeral.ensures ∙ c.if-not-is_plain_numeral.true in
    cc

pub returns-in-Ok-clause-some : goal.returns-in-Ok-clause-some
returns-in-Ok-clause-some c =
    let parts = plain_numeral_parts c.args.text.now (sym c.is_plain_numeral.ensures ∙ c.if-not-is_plain_numeral.false) in
    parsed_decimal c.args.text.now c.in-Ok.n c.parse.result c.in-Ok.is parts.0 parts.1 c.parse.ensures.value.0

pub returns-in-Err-clause-none : goal.returns-in-Err-clause-none
returns-in-Err-clause-none c = λ n small is.
    let parts = plain_numeral_parts c.args.text.now (sym c.is_plain_numeral.ensures ∙ c.if-not-is_plain_numeral.false) in
    unparsed_decimal c.args.text.now c.in-Err.field-0 c.parse.result n c.in-Err.is parts.0 c.parse.ensures.value.0 small is
