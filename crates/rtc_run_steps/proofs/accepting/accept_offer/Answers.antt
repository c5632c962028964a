use Rattle.std.proofs.Common.{rules}
use Rattle.rtc_peer.specs.Described.{sdp_of_answer}
use Rattle.rtc_run_steps.proofs.Lent.{accepted_offer, rows_of_offer, channels_of_offer}
use Rattle.rtc_peer_core.specs.Meanings.{meanings}
use Rattle.rtc_run_steps.proofs.accepting.accept_offer.Goals as goal

pub returns-clause-accepts : goal.returns-clause-accepts
returns-clause-accepts g c = accepted_offer (meanings g.I.IceAgent.ice g.D.DtlsInstance.dtls g.S.Association.association g.M.MediaSession.media g.N.Ids.ids) c.args.rtc.now.core c.sdp_api.result.rtc.now.core c.accept_offer.new.self.0.core _ c.args.offer.0 (sdp_of_answer c.accept_offer.result) c.sdp_api.ensures.peer c.accept_offer.ensures.accepts (search rules)

pub returns-clause-rows : goal.returns-clause-rows
returns-clause-rows g c = rows_of_offer (meanings g.I.IceAgent.ice g.D.DtlsInstance.dtls g.S.Association.association g.M.MediaSession.media g.N.Ids.ids) c.args.rtc.now.core c.sdp_api.result.rtc.now.core c.accept_offer.new.self.0.core c.args.offer.0 (sdp_of_answer c.accept_offer.result) _ c.sdp_api.ensures.peer c.accept_offer.ensures.accepts (search rules)

pub returns-clause-channels : goal.returns-clause-channels
returns-clause-channels g c = channels_of_offer (meanings g.I.IceAgent.ice g.D.DtlsInstance.dtls g.S.Association.association g.M.MediaSession.media g.N.Ids.ids) c.args.rtc.now.core c.sdp_api.result.rtc.now.core c.accept_offer.new.self.0.core c.args.offer.0 (sdp_of_answer c.accept_offer.result) _ c.sdp_api.ensures.peer c.accept_offer.ensures.accepts (search rules)
