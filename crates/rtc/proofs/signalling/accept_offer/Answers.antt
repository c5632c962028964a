use Rattle.std.proofs.Common.{rules}
use Rattle.rtc_peer.specs.Described.{sdp_of_answer}
use Rattle.rtc_peer_core.specs.Meanings.{meanings}
use Rattle.rtc.proofs.Signalled.{offer_by_handle}
use Rattle.rtc.proofs.signalling.accept_offer.Goals as goal

pub returns-clause-accepts : goal.returns-clause-accepts
returns-clause-accepts g c = offer_by_handle (meanings g.I.IceAgent.ice g.D.DtlsInstance.dtls g.S.Association.association g.M.MediaSession.media g.N.Ids.ids) c.args.peer.now.core c.sdp_api.result.rtc.now.core c.accept_offer.new.self.0.core _ c.args.offer.0 (sdp_of_answer c.accept_offer.result) c.sdp_api.ensures.peer c.accept_offer.ensures.accepts (search rules)
