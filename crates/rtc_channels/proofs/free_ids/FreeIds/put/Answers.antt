use Rattle.std.proofs.Common.{◌∙◌, sym, rules}
use Rattle.rtc_channels.proofs.IdLemmas.{with_present}
use Rattle.rtc_channels.proofs.free_ids.FreeIds.put.Goals as goal

pub returns-then-is_free-clause-returned : goal.returns-then-is_free-clause-returned
returns-then-is_free-clause-returned c =
    let free = sym c.is_free.ensures.free ∙ c.if-is_free.true in
    let same = c.is_free.ensures.parity c.if-is_free.true in
    rw (← c.self.view_is)
    (with_present c.self.inside.parity c.args.id c.self.inside.words c.self.invariant.bit (search rules) (rw (← c.self.view_is) at same) (rw (← c.self.view_is) at free))
