use Rattle.rtc_peer_core.specs.Meanings.{meanings}
use Rattle.rtc_peer.specs.CachedPeer.{polled_of}
use Rattle.rtc_run.proofs.KeptCounts.{kept_few}
use Rattle.rtc_run.proofs.pair.Pair.act.Goals as goal

pub invariant_of-self : goal.invariant_of-self
invariant_of-self g c =
    kept_few (meanings g.I.IceAgent.ice g.D.DtlsInstance.dtls g.S.Association.association g.M.MediaSession.media g.N.Ids.ids) g.I.StunReader.stun c.self.inside.right_addr c.self.inside.left_addr c.args.step.now (polled_of c.self.inside.left) c.self.inside.sdps.items c.self.inside.packets.items
    c.perform_step.result.outcome c.perform_step.result.table (polled_of c.perform_step.new.rtc) c.perform_step.new.sdps.items c.perform_step.new.packets.items c.self.inside.size c.size.result
    c.perform_step.ensures c.self.invariant c.size.ensures

pub invariant_of-self-in-Right : goal.invariant_of-self-in-Right
invariant_of-self-in-Right g c =
    kept_few (meanings g.I.IceAgent.ice g.D.DtlsInstance.dtls g.S.Association.association g.M.MediaSession.media g.N.Ids.ids) g.I.StunReader.stun c.self.inside.left_addr c.self.inside.right_addr c.args.step.now (polled_of c.self.inside.right) c.self.inside.sdps.items c.self.inside.packets.items
    c.perform_step-in-Right.result.outcome c.perform_step-in-Right.result.table (polled_of c.perform_step-in-Right.new.rtc) c.perform_step-in-Right.new.sdps.items c.perform_step-in-Right.new.packets.items c.self.inside.size c.size.result
    c.perform_step-in-Right.ensures c.self.invariant c.size.ensures
