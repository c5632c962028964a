use Rattle.rtc_peer_core.specs.Meanings.{meanings}
use Rattle.rtc_peer_core.specs.Stance.{stance_of}
use Rattle.rtc_peer_negotiation.proofs.OfferLemmas.{offer_made}
use Rattle.rtc_peer_negotiation.proofs.applying.make_offer.Goals as goal

pub returns : goal.returns
returns g c =
    offer_made (stance_of (meanings g.I.IceAgent.ice g.D.DtlsInstance.dtls g.S.Association.association g.M.MediaSession.media g.N.Ids.ids) c.args.peer.now)
    c.args.init c.make_sdp.result c.in_ok-head.head c.in_ok-told.told.items c.make_sdp.ensures c.in_ok-head.ensures
    (rw (c.rows.ensures.value, c.as_slice.ensures) at c.in_ok-told.ensures)
