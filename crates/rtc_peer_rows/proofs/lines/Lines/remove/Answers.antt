use Rattle.rtc_peer_rows.proofs.DeclaredLemmas.{table_take}
use Rattle.rtc_peer_rows.proofs.lines.Lines.remove.Goals as goal

pub invariant_of-self : goal.invariant_of-self
invariant_of-self c = rw c.truncate.ensures.items (record { table = table_take c.in-Some.place c.self.inside.rows.items c.self.invariant.table; served = tt })
