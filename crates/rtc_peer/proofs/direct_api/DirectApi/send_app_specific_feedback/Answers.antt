use Rattle.rtc_peer_core.specs.Meanings.{meanings}
use Rattle.rtc_peer.proofs.SignalLemmas.{feedback_signals}
use Rattle.rtc_peer.proofs.direct_api.DirectApi.send_app_specific_feedback.Goals as goal

pub invariant_of-rtc : goal.invariant_of-rtc
invariant_of-rtc g c =
    feedback_signals (meanings g.I.IceAgent.ice g.D.DtlsInstance.dtls g.S.Association.association g.M.MediaSession.media g.N.Ids.ids) (record { ice = g.met.I.IceAgent.laws; dtls = g.met.D.DtlsInstance.laws; association = g.met.S.Association.laws; media = g.met.M.MediaSession.laws })
    c.args.sender c.args.media_source c.args.payload.now c.send_app_specific_feedback.result c.rtc.inside.polled c.send_app_specific_feedback.new.peer
    c.rtc.inside.readiness c.wake_events.new.readiness c.rtc.inside.kept c.send_app_specific_feedback.ensures c.wake_events.ensures c.rtc.invariant
