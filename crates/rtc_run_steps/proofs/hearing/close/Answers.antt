use Rattle.std.proofs.Common.{◌∙◌, length, ap, arith}
use Rattle.rtc_peer_core.specs.Meanings.{meanings}
use Rattle.rtc_peer_transport.specs.Closing.{ClosesPeer}
use Rattle.rtc_peer.specs.CachedPeer.{polled_of}
use Rattle.rtc_run_steps.proofs.Answered.{answered_call}
use Rattle.rtc_run_steps.proofs.PollsKeep.{channels_after_close, lines_after_close}
use Rattle.rtc_run_steps.proofs.hearing.close.Goals as goal

pub reply_with-requires-clause-lines : goal.reply_with-requires-clause-lines
reply_with-requires-clause-lines g c =
    let same = lines_after_close (meanings g.I.IceAgent.ice g.D.DtlsInstance.dtls g.S.Association.association g.M.MediaSession.media g.N.Ids.ids) (polled_of c.args.rtc.now) c.close-answer.result (polled_of c.close-answer.new.self) c.close-answer.ensures in
    omega (arith, ap length same, c.in-Ok.ensures.lines)

pub reply_with-requires-clause-channels : goal.reply_with-requires-clause-channels
reply_with-requires-clause-channels g c =
    let few = channels_after_close (meanings g.I.IceAgent.ice g.D.DtlsInstance.dtls g.S.Association.association g.M.MediaSession.media g.N.Ids.ids) (polled_of c.args.rtc.now) c.close-answer.result (polled_of c.close-answer.new.self) c.close-answer.ensures in
    omega (arith, few, c.in-Ok.ensures.channels)

pub returns : goal.returns
returns g c =
    answered_call (meanings g.I.IceAgent.ice g.D.DtlsInstance.dtls g.S.Association.association g.M.MediaSession.media g.N.Ids.ids) (ClosesPeer (meanings g.I.IceAgent.ice g.D.DtlsInstance.dtls g.S.Association.association g.M.MediaSession.media g.N.Ids.ids))
    (polled_of c.args.rtc.now) c.close-answer.result c.reply_with.result.outcome c.reply_with.result.table (polled_of c.close-answer.new.self) c.close-answer.ensures (c.reply_with.ensures.outcome ∙ c.outcome_of.ensures) c.reply_with.ensures.table
