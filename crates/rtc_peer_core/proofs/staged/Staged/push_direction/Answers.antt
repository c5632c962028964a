use Rattle.rtc_peer_core.proofs.StagedLemmas.{direction_indexed}
use Rattle.rtc_peer_core.proofs.staged.Staged.push_direction.Goals as goal

pub invariant_of-self-2 : goal.invariant_of-self-2
invariant_of-self-2 c =
    rw c.in_ok-push.ensures.items
    (direction_indexed c.self.inside.changes.items c.self.inside.mids c.self.inside.app c.self.inside.count c.args.mid c.args.dir c.self.invariant)
