use Rattle.std.proofs.Common.{◌∙◌, Ok, Err, ap}
use Rattle.rtc_peer_rows.specs.declared.plan.Plan.{Plan}
use Rattle.rtc_peer_core.specs.Meanings.{meanings}
use Rattle.rtc_peer_negotiation.proofs.AcceptanceLemmas.{offer_refused, offer_unprepared, offer_moves, offer_fails, offer_accepted}
use Rattle.rtc_peer_negotiation.proofs.accepting.accept_lent_offer.Goals as goal

pub returns-in-Err : goal.returns-in-Err
returns-in-Err g c =
    offer_refused (meanings g.I.IceAgent.ice g.D.DtlsInstance.dtls g.S.Association.association g.M.MediaSession.media g.N.Ids.ids) c.args.peer.now c.refuse.new.peer c.args.offer.now c.in-Err.refusal
    c.refuse.result c.requires c.in-Err.ensures.plans c.refuse.ensures.error c.refuse.ensures.rest

pub returns-in-Err-grow_offer : goal.returns-in-Err-grow_offer
returns-in-Err-grow_offer g c =
    offer_unprepared (meanings g.I.IceAgent.ice g.D.DtlsInstance.dtls g.S.Association.association g.M.MediaSession.media g.N.Ids.ids) c.args.peer.now c.grow_offer.new.peer c.args.offer.now
    c.requires (c.in-Ok.ensures.plans.0) c.in-Err-grow_offer.ensures.grows

pub returns-in-Err-move_peer : goal.returns-in-Err-move_peer
returns-in-Err-move_peer g c =
    let moves = offer_moves (meanings g.I.IceAgent.ice g.D.DtlsInstance.dtls g.S.Association.association g.M.MediaSession.media g.N.Ids.ids) c.args.peer.now c.grow_offer.new.peer c.args.offer.now c.in-Ok-grow_offer.growth
    c.as_slice.result.now (Err c.in-Err-move_peer.error) c.move_peer.new.peer.ice c.move_peer.new.peer.dtls c.move_peer.new.peer.sctp c.in-Ok-grow_offer.ensures.grows
    (c.as_slice.ensures ∙ ap (λ (plan : Plan). plan.rows) c.in-Ok.ensures.plans.1) c.in-Err-move_peer.ensures.moves in
    offer_fails (meanings g.I.IceAgent.ice g.D.DtlsInstance.dtls g.S.Association.association g.M.MediaSession.media g.N.Ids.ids) c.args.peer.now c.grow_offer.new.peer c.move_peer.new.peer c.args.offer.now
    c.in-Ok-grow_offer.growth c.in-Err-move_peer.error c.requires c.in-Ok-grow_offer.ensures.grows (c.in-Ok.ensures.plans.0) moves c.in-Err-move_peer.ensures.rest

pub returns : goal.returns
returns g c =
    let moves = offer_moves (meanings g.I.IceAgent.ice g.D.DtlsInstance.dtls g.S.Association.association g.M.MediaSession.media g.N.Ids.ids) c.args.peer.now c.grow_offer.new.peer c.args.offer.now c.in-Ok-grow_offer.growth
    c.as_slice.result.now (Ok tt) c.move_peer.new.peer.ice c.move_peer.new.peer.dtls c.move_peer.new.peer.sctp c.in-Ok-grow_offer.ensures.grows
    (c.as_slice.ensures ∙ ap (λ (plan : Plan). plan.rows) c.in-Ok.ensures.plans.1) c.in-Ok-move_peer.ensures.moves in
    offer_accepted (meanings g.I.IceAgent.ice g.D.DtlsInstance.dtls g.S.Association.association g.M.MediaSession.media g.N.Ids.ids) c.args.peer.now c.grow_offer.new.peer c.move_peer.new.peer c.args.offer.now c.in-Some.answer
    c.in-Ok-grow_offer.growth c.commit.new.self c.commit-2.new.self c.requires c.in-Ok-grow_offer.ensures.grows c.in-Some.is (c.in-Ok.ensures.plans.0) moves
    c.in-Ok-move_peer.ensures.rest c.commit.ensures (c.commit-2.ensures ∙ ap (λ (plan : Plan). plan.rows) c.in-Ok.ensures.plans.1)
