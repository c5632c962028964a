use Rattle.std.proofs.Common.{◌∙◌, rules}
use Rattle.rtc_run_history.specs.Performs.{PollsOnce}
use Rattle.rtc_peer_core.specs.Meanings.{meanings}
use Rattle.rtc_peer.specs.CachedPeer.{polled_of}
use Rattle.rtc_run_steps.proofs.Drained.{one_turn, told_polls}
use Rattle.rtc_run_steps.proofs.polling.poll.Goals as goal

pub returns : goal.returns
returns g c =
    told_polls (meanings g.I.IceAgent.ice g.D.DtlsInstance.dtls g.S.Association.association g.M.MediaSession.media g.N.Ids.ids) (PollsOnce (meanings g.I.IceAgent.ice g.D.DtlsInstance.dtls g.S.Association.association g.M.MediaSession.media g.N.Ids.ids) c.args.at (polled_of c.args.rtc.now)) (polled_of c.args.rtc.now) c.args.packets.now.items c.make_first_room.new.packets.items c.take_turn-turn.new.outputs.items c.end_of.result c.reply_with.result.outcome c.reply_with.result.table (polled_of c.take_turn-turn.new.rtc) c.take_turn-turn.new.packets.items
    (one_turn (meanings g.I.IceAgent.ice g.D.DtlsInstance.dtls g.S.Association.association g.M.MediaSession.media g.N.Ids.ids) c.args.at (polled_of c.args.rtc.now) c.make_first_room.new.packets.items _ c.take_turn-turn.result (polled_of c.take_turn-turn.new.rtc) c.take_turn-turn.new.packets.items c.take_turn-turn.new.outputs.items c.end_of.result c.take_turn-turn.ensures.takes (search rules) c.end_of.ensures) c.make_first_room.ensures.packets (c.reply_with.ensures.outcome ∙ c.polled.ensures) c.reply_with.ensures.table
