use Rattle.std.proofs.Common.{◌∙◌, rules}
use Rattle.rtc_run_history.specs.PairState.{remote_packet}
use Rattle.rtc_peer_core.specs.Meanings.{meanings}
use Rattle.rtc_peer.specs.CachedPeer.{polled_of}
use Rattle.rtc_run_steps.proofs.Answered.{heard, unheard}
use Rattle.rtc_run_steps.proofs.hearing.take_datagram.Goals as goal

pub returns-in_default-room_for : goal.returns-in_default-room_for
returns-in_default-room_for g c =
    unheard (meanings g.I.IceAgent.ice g.D.DtlsInstance.dtls g.S.Association.association g.M.MediaSession.media g.N.Ids.ids) g.I.StunReader.stun (remote_packet c.args.packets.now c.args.at c.args.packet) c.args.now (polled_of c.args.rtc.now) c.reply_no_memory.result.outcome c.reply_no_memory.result.table c.reply_no_memory.ensures.outcome c.reply_no_memory.ensures.table

pub returns : goal.returns
returns g c =
    heard (meanings g.I.IceAgent.ice g.D.DtlsInstance.dtls g.S.Association.association g.M.MediaSession.media g.N.Ids.ids) g.I.StunReader.stun (remote_packet c.args.packets.now c.args.at c.args.packet) c.in-Some.transmit.now c.args.now (polled_of c.args.rtc.now) c.give_datagram-answer.result c.reply_with.result.outcome c.reply_with.result.table (polled_of c.give_datagram-answer.new.rtc) (search rules) c.give_datagram-answer.ensures.handles (c.reply_with.ensures.outcome ∙ c.outcome_of.ensures) c.reply_with.ensures.table
