use Rattle.std.proofs.Common.{◌∙◌}
use Rattle.rtc_peer_core.specs.Meanings.{meanings}
use Rattle.rtc_run_history.specs.CallReplies.{ClosesOpenChannel}
use Rattle.rtc_peer.specs.CachedPeer.{polled_of}
use Rattle.rtc_run_steps.proofs.Answered.{answered_call}
use Rattle.rtc_run_steps.proofs.channels.close_open_channel.Goals as goal

pub returns : goal.returns
returns g c =
    answered_call (meanings g.I.IceAgent.ice g.D.DtlsInstance.dtls g.S.Association.association g.M.MediaSession.media g.N.Ids.ids)
    (ClosesOpenChannel (meanings g.I.IceAgent.ice g.D.DtlsInstance.dtls g.S.Association.association g.M.MediaSession.media g.N.Ids.ids) c.args.id)
    (polled_of c.args.rtc.now) c.shut_channel-answer.result c.reply_with.result.outcome c.reply_with.result.table (polled_of c.shut_channel-answer.new.rtc) c.shut_channel-answer.ensures.closes (c.reply_with.ensures.outcome ∙ c.outcome_of.ensures) c.reply_with.ensures.table
