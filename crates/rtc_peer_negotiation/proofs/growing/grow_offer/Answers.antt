use Rattle.std.proofs.Common.{[], true}
use Rattle.rtc_peer_core.specs.Acceptances.{answer_ids}
use Rattle.rtc_peer_core.specs.Meanings.{meanings}
use Rattle.rtc_peer_negotiation.proofs.GrowthLemmas.{offer_grown, drawn_creds_ids, stops_before_sources, stops_among_draws, stops_at_updates}
use Rattle.rtc_peer_negotiation.proofs.growing.grow_offer.Goals as goal

pub returns-in-Err-clause-grows : goal.returns-in-Err-clause-grows
returns-in-Err-clause-grows g c =
    let m = meanings g.I.IceAgent.ice g.D.DtlsInstance.dtls g.S.Association.association g.M.MediaSession.media g.N.Ids.ids in
    stops_before_sources m c.args.peer.now true true [] c.args.offer.now (answer_ids m c.args.peer.now c.args.offer.now) c.draw_restart.new.ids
    (drawn_creds_ids m c.args.peer.now c.args.offer.now c.args.plan.now.restart c.draw_restart.new.ids c.requires.restart c.in-Err.ensures.after)

pub returns-in-Err-draw_along-clause-grows : goal.returns-in-Err-draw_along-clause-grows
returns-in-Err-draw_along-clause-grows g c =
    let m = meanings g.I.IceAgent.ice g.D.DtlsInstance.dtls g.S.Association.association g.M.MediaSession.media g.N.Ids.ids in
    stops_among_draws m c.args.peer.now c.draw_along.new.peer true true [] c.args.offer.now (answer_ids m c.args.peer.now c.args.offer.now) c.draw_restart.new.ids
    (drawn_creds_ids m c.args.peer.now c.args.offer.now c.args.plan.now.restart c.draw_restart.new.ids c.requires.restart c.in-Ok.ensures.after) c.in-Err-draw_along.ensures.along

pub returns-in-Err-grow_followed-clause-grows : goal.returns-in-Err-grow_followed-clause-grows
returns-in-Err-grow_followed-clause-grows g c =
    let m = meanings g.I.IceAgent.ice g.D.DtlsInstance.dtls g.S.Association.association g.M.MediaSession.media g.N.Ids.ids in
    stops_among_draws m c.args.peer.now c.draw_along.new.peer true true [] c.args.offer.now (answer_ids m c.args.peer.now c.args.offer.now) c.draw_restart.new.ids
    (drawn_creds_ids m c.args.peer.now c.args.offer.now c.args.plan.now.restart c.draw_restart.new.ids c.requires.restart c.in-Ok.ensures.after) c.in-Ok-draw_along.ensures.along

pub returns-in-Err-prepare_media-clause-grows : goal.returns-in-Err-prepare_media-clause-grows
returns-in-Err-prepare_media-clause-grows g c =
    let m = meanings g.I.IceAgent.ice g.D.DtlsInstance.dtls g.S.Association.association g.M.MediaSession.media g.N.Ids.ids in
    stops_at_updates m c.args.peer.now c.draw_along.new.peer true true [] c.args.offer.now (answer_ids m c.args.peer.now c.args.offer.now) c.draw_restart.new.ids
    c.in-Ok-draw_along.drawn.updates.items c.in-Err-prepare_media.error c.prepare_media.new.media
    (drawn_creds_ids m c.args.peer.now c.args.offer.now c.args.plan.now.restart c.draw_restart.new.ids c.requires.restart c.in-Ok.ensures.after)
    c.in-Ok-draw_along.ensures.along.others c.in-Ok-draw_along.ensures.updates c.in-Ok-draw_along.ensures.after
    c.in-Err-prepare_media.ensures

pub returns-in-Ok-prepare_media-clause-grows : goal.returns-in-Ok-prepare_media-clause-grows
returns-in-Ok-prepare_media-clause-grows g c =
    offer_grown (meanings g.I.IceAgent.ice g.D.DtlsInstance.dtls g.S.Association.association g.M.MediaSession.media g.N.Ids.ids) c.args.peer.now
    c.draw_along.new.peer c.args.offer.now c.args.plan.now.restart c.in-Ok.restart c.draw_restart.new.ids c.in-Ok-grow_followed.growth
    c.in-Ok-draw_along.drawn.updates.items c.in-Ok-draw_along.drawn.halves c.prepare_media.new.media
    c.requires.restart c.in-Ok.ensures.restart c.in-Ok.ensures.after (rw c.as_slice.ensures.value at c.in-Ok-grow_followed.ensures)
    c.in-Ok-draw_along.ensures.along.others c.in-Ok-draw_along.ensures.updates c.in-Ok-draw_along.ensures.halves c.in-Ok-draw_along.ensures.after
    c.in-Ok-prepare_media.ensures
