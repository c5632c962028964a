use Rattle.std.proofs.Common.{◌∙◌}
use Rattle.rtc_peer_core.specs.Meanings.{meanings}
use Rattle.rtc_peer_transport.specs.ChannelCalls.{open_stream_under}
use Rattle.rtc_peer.specs.CachedPeer.{polled_of}
use Rattle.rtc_run_steps.proofs.AnsweredWrites.{answered_write, no_room_to_write}
use Rattle.rtc_run_steps.proofs.channels.write_message.Goals as goal

pub returns-in_default : goal.returns-in_default
returns-in_default g c =
    no_room_to_write (meanings g.I.IceAgent.ice g.D.DtlsInstance.dtls g.S.Association.association g.M.MediaSession.media g.N.Ids.ids) (open_stream_under c.args.id (polled_of c.args.rtc.now)) c.args.binary c.args.bytes.now (polled_of c.args.rtc.now) c.reply_no_memory.result.outcome c.reply_no_memory.result.table c.reply_no_memory.ensures.outcome c.reply_no_memory.ensures.table

pub returns : goal.returns
returns g c =
    answered_write (meanings g.I.IceAgent.ice g.D.DtlsInstance.dtls g.S.Association.association g.M.MediaSession.media g.N.Ids.ids) (open_stream_under c.args.id (polled_of c.args.rtc.now)) c.args.binary c.args.bytes.now
    (polled_of c.args.rtc.now) c.write_if_open-answer.result c.reply_with.result.outcome c.reply_with.result.table (polled_of c.write_if_open-answer.new.rtc) c.write_if_open-answer.ensures.writes (c.reply_with.ensures.outcome ∙ c.outcome_of_write.ensures) c.reply_with.ensures.table
