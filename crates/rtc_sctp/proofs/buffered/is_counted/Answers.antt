use Rattle.std.proofs.Common.{◌∙◌, true≢false, sym}
use Rattle.rtc_sctp.proofs.CountLemmas.{no_entry, none_counted}
use Rattle.rtc_sctp.proofs.buffered.is_counted.Goals as goal

pub returns-in-None : goal.returns-in-None
returns-in-None g c = λ none has. absurd (true≢false (sym has ∙ no_entry c.args.id c.args.entries.now (sym c.place_of.ensures ∙ c.in-None.is)))

pub returns-in-Some : goal.returns-in-Some
returns-in-Some g c = λ none has.
    none_counted g.S.Association.association g.met.S.Association.laws c.args.association.now c.args.id (sym c.may_buffer.ensures ∙ none)
