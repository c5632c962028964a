use Rattle.std.proofs.Common.{◌%◌, ◌∙◌, sym, refl, rules}
use Rattle.std.proofs.lemmas.Bool.{eq-eqb, ne_eqb}
use Rattle.rtc_channels.proofs.IdLemmas.{contains_id-ids_of}
use Rattle.rtc_channels.proofs.free_ids.FreeIds.is_free.Goals as goal

pub returns-then-id-self-clause-free : goal.returns-then-id-self-clause-free
returns-then-id-self-clause-free c =
    rw (← c.self.view_is)
    (c.has_bit.ensures
    ∙ sym (contains_id-ids_of c.self.inside.parity c.args.id c.self.inside.words c.self.invariant.bit (search rules) ∙ rw (eq-eqb (c.args.id % 2) c.self.inside.parity c.if-id-self.true) refl))

pub returns-else-id-self-clause-free : goal.returns-else-id-self-clause-free
returns-else-id-self-clause-free c =
    rw (← c.self.view_is)
    (sym (contains_id-ids_of c.self.inside.parity c.args.id c.self.inside.words c.self.invariant.bit (search rules) ∙ rw (ne_eqb (c.args.id % 2) c.self.inside.parity c.if-id-self.false) refl))
