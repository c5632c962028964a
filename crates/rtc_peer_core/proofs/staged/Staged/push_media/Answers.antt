use Rattle.std.proofs.Common.{◌≡◌, ◌+◌, arith}
use Rattle.rtc_peer_core.proofs.StagedLemmas.{media_indexed}
use Rattle.rtc_peer_core.proofs.staged.Staged.push_media.Goals as goal

pub invariant_of-self-2 : goal.invariant_of-self-2
invariant_of-self-2 c =
    let more : c.in-Some.count ≡ c.self.inside.count + 1 = omega (arith, c.in-Some.ensures) in
    rw (c.push_reserved.ensures.items, c.reserve.ensures.items, more)
    (media_indexed c.self.inside.changes.items c.self.inside.mids c.insert.new.self c.self.inside.app c.self.inside.count c.args.media c.self.invariant c.in_ok-insert.ensures.updates.0)
