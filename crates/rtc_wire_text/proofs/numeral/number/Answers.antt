use Rattle.std.proofs.Common.{sym, ◌∙◌, ap, Some}
use Rattle.rtc_wire_text.proofs.NumberLemmas.{number_is}
use Rattle.rtc_wire_text.proofs.numeral.number.Goals as goal

pub returns : goal.returns
returns c = ap Some c.unwrap_or.ensures ∙ number_is c.args.text.now c.parse.result (sym c.is_numeral.ensures ∙ c.if-not-is_numeral.false) c.parse.ensures.value.0
