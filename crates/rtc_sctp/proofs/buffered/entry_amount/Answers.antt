use Rattle.std.proofs.Common.{◌∙◌, sym}
use Rattle.rtc_sctp.proofs.SumLemmas.{none_amount, one_amount}
use Rattle.rtc_sctp.proofs.buffered.entry_amount.Goals as goal

pub returns-in-None : goal.returns-in-None
returns-in-None g c = sym (none_amount g.S.Association.association c.args.association.now c.args.id c.args.entries.now (sym c.place_of.ensures ∙ c.in-None.is))

pub returns-in-Some : goal.returns-in-Some
returns-in-Some g c =
    c.buffered_amount.ensures
    ∙ sym (one_amount g.S.Association.association c.args.association.now c.args.id _ c.args.entries.now c.requires (sym c.place_of.ensures ∙ c.in-Some.is))
