use Rattle.std.proofs.Common.{false, refl}
use Rattle.rtc_peer_core.specs.Meanings.{meanings}
use Rattle.rtc_peer_negotiation.proofs.GrowthLemmas.{stops_among_draws, stops_at_updates}
use Rattle.rtc_peer_negotiation.proofs.growing.grow_answer.Goals as goal

pub returns-in-Err-clause-grows : goal.returns-in-Err-clause-grows
returns-in-Err-clause-grows g c =
    stops_among_draws (meanings g.I.IceAgent.ice g.D.DtlsInstance.dtls g.S.Association.association g.M.MediaSession.media g.N.Ids.ids) c.args.peer.now c.draw_along.new.peer false c.args.may c.args.changes.now.0 c.args.answer.now c.args.peer.now.ids
    c.args.peer.now.ids refl (rw c.as_slice.ensures at c.in-Err.ensures.along)

pub returns-in-Err-grow_answered-clause-grows : goal.returns-in-Err-grow_answered-clause-grows
returns-in-Err-grow_answered-clause-grows g c =
    stops_among_draws (meanings g.I.IceAgent.ice g.D.DtlsInstance.dtls g.S.Association.association g.M.MediaSession.media g.N.Ids.ids) c.args.peer.now c.draw_along.new.peer false c.args.may c.args.changes.now.0 c.args.answer.now c.args.peer.now.ids
    c.args.peer.now.ids refl (rw c.as_slice.ensures at c.in-Ok.ensures.along)

pub returns-in-Err-prepare_media-clause-grows : goal.returns-in-Err-prepare_media-clause-grows
returns-in-Err-prepare_media-clause-grows g c =
    stops_at_updates (meanings g.I.IceAgent.ice g.D.DtlsInstance.dtls g.S.Association.association g.M.MediaSession.media g.N.Ids.ids) c.args.peer.now c.draw_along.new.peer false c.args.may c.args.changes.now.0 c.args.answer.now c.args.peer.now.ids
    c.args.peer.now.ids c.in-Ok.drawn.updates.items c.in-Err-prepare_media.error c.prepare_media.new.media refl
    c.in-Ok.ensures.along.others (rw c.as_slice.ensures at c.in-Ok.ensures.updates)
    (rw c.as_slice.ensures at c.in-Ok.ensures.after) c.in-Err-prepare_media.ensures
