use Rattle.rtc_peer_core.proofs.StagedLemmas.{restart_indexed}
use Rattle.rtc_peer_core.proofs.staged.Staged.push_restart.Goals as goal

pub invariant_of-self : goal.invariant_of-self
invariant_of-self c =
    rw (c.push_reserved.ensures.items, c.move_kept.ensures.items, c.in_ok-changes.ensures.items, c.replace-before.ensures.value)
    (restart_indexed c.self.inside.changes.items c.self.inside.mids c.self.inside.app c.self.inside.count c.args.creds c.args.keeps c.self.invariant)
