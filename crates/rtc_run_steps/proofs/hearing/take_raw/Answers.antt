use Rattle.std.proofs.Common.{◌∙◌}
use Rattle.rtc_wire.specs.DatagramRecv.{kind_by}
use Rattle.rtc_peer_core.specs.Meanings.{meanings}
use Rattle.rtc_run_history.specs.Performs.{HandlesRead, raw_datagram}
use Rattle.rtc_peer.specs.CachedPeer.{polled_of}
use Rattle.rtc_run_steps.proofs.Answered.{answered_call}
use Rattle.rtc_run_steps.proofs.hearing.take_raw.Goals as goal

pub returns : goal.returns
returns g c =
    answered_call (meanings g.I.IceAgent.ice g.D.DtlsInstance.dtls g.S.Association.association g.M.MediaSession.media g.N.Ids.ids)
    (HandlesRead (meanings g.I.IceAgent.ice g.D.DtlsInstance.dtls g.S.Association.association g.M.MediaSession.media g.N.Ids.ids) (kind_by g.I.StunReader.stun c.args.bytes.now) (raw_datagram c.args.other c.args.own c.args.bytes.now) c.args.now)
    (polled_of c.args.rtc.now) c.give_raw-answer.result c.reply_with.result.outcome c.reply_with.result.table (polled_of c.give_raw-answer.new.rtc) c.give_raw-answer.ensures.handles (c.reply_with.ensures.outcome ∙ c.outcome_of.ensures) c.reply_with.ensures.table
