use Rattle.std.proofs.Common.{rules}
use Rattle.rtc_channels.proofs.IdLemmas.{pool_put}
use Rattle.rtc_channels.proofs.free_ids.FreeIds.mark.Goals as goal

pub returns : goal.returns
returns c =
    rw (← c.self.view_is)
    (pool_put c.self.inside.parity c.args.id c.self.inside.words c.put_bit.new.words c.self.invariant.bit (search rules)
    (rw (← c.self.view_is) at c.requires) c.put_bit.ensures.others c.args.free c.put_bit.ensures.here)
