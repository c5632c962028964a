use Rattle.std.proofs.Common.{Ok, Err, refl, rules}
use Rattle.rtc_peer_core.specs.Meanings.{meanings}
use Rattle.rtc.specs.Crossing.{OfferMet, OfferFailed}
use Rattle.rtc.proofs.Signalled.{offer_by_handle}
use Rattle.rtc.proofs.crossing.meet.Goals as goal

pub returns-in-Ok-clause-meets : goal.returns-in-Ok-clause-meets
returns-in-Ok-clause-meets g c =
    OfferMet c.in-Ok.answer
    (offer_by_handle (meanings g.I.IceAgent.ice g.D.DtlsInstance.dtls g.S.Association.association g.M.MediaSession.media g.N.Ids.ids) c.args.peer.now.core c.sdp_api.result.rtc.now.core c.accept_offer.new.self.0.core _ c.args.offer.0 (Ok c.in-Ok.answer.0) c.sdp_api.ensures.peer c.in-Ok.ensures.accepts (search rules))
    refl

pub returns-in-Err-2-clause-meets : goal.returns-in-Err-2-clause-meets
returns-in-Err-2-clause-meets g c =
    OfferFailed c.in-Err.error (rw c.if-is_glare.false at c.is_glare.ensures.other)
    (offer_by_handle (meanings g.I.IceAgent.ice g.D.DtlsInstance.dtls g.S.Association.association g.M.MediaSession.media g.N.Ids.ids) c.args.peer.now.core c.sdp_api.result.rtc.now.core c.accept_offer.new.self.0.core _ c.args.offer.0 (Err c.in-Err.error) c.sdp_api.ensures.peer c.in-Err.ensures.accepts (search rules))
    refl
