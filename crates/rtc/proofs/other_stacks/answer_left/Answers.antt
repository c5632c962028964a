use Rattle.rtc_peer_core.specs.Meanings.{meanings}
use Rattle.rtc.proofs.LeftOffers.{nothing_left, left_answered, left_refused}
use Rattle.rtc.proofs.other_stacks.answer_left.Goals as goal

pub returns-in_default-clause-answers : goal.returns-in_default-clause-answers
returns-in_default-clause-answers g c =
    nothing_left (meanings g.I.IceAgent.ice g.D.DtlsInstance.dtls g.S.Association.association g.M.MediaSession.media g.N.Ids.ids)
    c.args.peer.now.core c.args.offer.now.0 c.codec_config.result.now c.in_ok-left.left c.codec_config.ensures c.in_ok-left.ensures c.in_default.is

pub returns-in-Ok-clause-answers : goal.returns-in-Ok-clause-answers
returns-in-Ok-clause-answers g c =
    left_answered (meanings g.I.IceAgent.ice g.D.DtlsInstance.dtls g.S.Association.association g.M.MediaSession.media g.N.Ids.ids)
    c.args.peer.now.core c.args.offer.now.0 c.codec_config.result.now c.in_ok-left.left c.codec_config.ensures c.in_ok-left.ensures
    c.in-Some.left c.in-Ok.answer c.write_filled.result c.accept_offer.new.peer.core c.in-Some.is c.in-Ok.ensures.accepts c.write_filled.ensures

pub returns-in-Err-clause-answers : goal.returns-in-Err-clause-answers
returns-in-Err-clause-answers g c =
    left_refused (meanings g.I.IceAgent.ice g.D.DtlsInstance.dtls g.S.Association.association g.M.MediaSession.media g.N.Ids.ids)
    c.args.peer.now.core c.args.offer.now.0 c.codec_config.result.now c.in_ok-left.left c.codec_config.ensures c.in_ok-left.ensures
    c.in-Some.left c.in-Err.error c.accept_offer.new.peer.core c.in-Some.is c.in-Err.ensures.accepts
