use Rattle.rtc_sdp_reader.specs.Reading.{reading}
use Rattle.rtc_peer_core.specs.Meanings.{meanings}
use Rattle.rtc.proofs.LeftOffers.{foreign_read}
use Rattle.rtc.proofs.other_stacks.accept_foreign_offer_text.Goals as goal

pub returns-in-Ok-clause-accepts : goal.returns-in-Ok-clause-accepts
returns-in-Ok-clause-accepts g c =
    foreign_read (meanings g.I.IceAgent.ice g.D.DtlsInstance.dtls g.S.Association.association g.M.MediaSession.media g.N.Ids.ids)
    (reading c.args.text.now) c.args.peer.now.core c.answer_left-answered.new.peer.core c.in-Ok.offer.0 c.answer_left-answered.result c.release.result
    c.in-Ok.ensures c.answer_left-answered.ensures.answers c.release.ensures
