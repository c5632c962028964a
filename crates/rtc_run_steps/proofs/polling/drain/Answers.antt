use Rattle.std.proofs.Common.{◌∙◌}
use Rattle.rtc_run_history.specs.Performs.{DrainsPeer}
use Rattle.rtc_peer_core.specs.Meanings.{meanings}
use Rattle.rtc_peer.specs.CachedPeer.{polled_of}
use Rattle.rtc_run_steps.proofs.Drained.{told_polls}
use Rattle.rtc_run_steps.proofs.polling.drain.Goals as goal

pub returns : goal.returns
returns g c =
    told_polls (meanings g.I.IceAgent.ice g.D.DtlsInstance.dtls g.S.Association.association g.M.MediaSession.media g.N.Ids.ids) (DrainsPeer (meanings g.I.IceAgent.ice g.D.DtlsInstance.dtls g.S.Association.association g.M.MediaSession.media g.N.Ids.ids) c.args.at (polled_of c.args.rtc.now)) (polled_of c.args.rtc.now) c.args.packets.now.items c.make_first_room.new.packets.items c.drain_outputs-end.new.outputs.items c.drain_outputs-end.result c.reply_with.result.outcome c.reply_with.result.table (polled_of c.drain_outputs-end.new.rtc) c.drain_outputs-end.new.packets.items
    c.drain_outputs-end.ensures.drains c.make_first_room.ensures.packets (c.reply_with.ensures.outcome ∙ c.polled.ensures) c.reply_with.ensures.table
