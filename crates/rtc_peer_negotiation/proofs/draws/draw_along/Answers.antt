use Rattle.rtc_peer_core.specs.Meanings.{meanings}
use Rattle.rtc_peer_negotiation.proofs.GrowthLemmas.{along_sources, along_all, joined_are, left_are, all_left, are_joined_whole, along_stopped}
use Rattle.rtc_peer_negotiation.proofs.draws.draw_along.Goals as goal

pub returns-in-Err-clause-along : goal.returns-in-Err-clause-along
returns-in-Err-clause-along g c =
    along_sources (meanings g.I.IceAgent.ice g.D.DtlsInstance.dtls g.S.Association.association g.M.MediaSession.media g.N.Ids.ids) c.args.peer.now c.list_line_updates.new.peer c.args.offer c.args.may c.args.changes.now c.args.sdp.now
    c.in-Err.ensures.later c.in-Err.ensures.most c.in-Err.ensures.others

pub returns-in-Err-join_halves-clause-along : goal.returns-in-Err-join_halves-clause-along
returns-in-Err-join_halves-clause-along g c =
    along_stopped (meanings g.I.IceAgent.ice g.D.DtlsInstance.dtls g.S.Association.association g.M.MediaSession.media g.N.Ids.ids) c.args.peer.now c.list_line_updates.new.peer c.join_halves.new.peer c.args.offer c.args.may c.args.changes.now c.args.sdp.now
    c.in-Ok.ensures.others c.in-Ok.ensures.after c.in-Ok.ensures.later c.in-Err-join_halves.ensures.others c.in-Err-join_halves.ensures.err

pub returns-in-Ok-join_halves-clause-along : goal.returns-in-Ok-join_halves-clause-along
returns-in-Ok-join_halves-clause-along g c =
    along_all (meanings g.I.IceAgent.ice g.D.DtlsInstance.dtls g.S.Association.association g.M.MediaSession.media g.N.Ids.ids) c.args.peer.now c.list_line_updates.new.peer c.join_halves.new.peer c.args.offer c.args.may c.args.changes.now c.args.sdp.now
    c.in-Ok.ensures.others c.in-Ok.ensures.after c.in-Ok.ensures.later c.in-Ok-join_halves.ensures.others
    (left_are (meanings g.I.IceAgent.ice g.D.DtlsInstance.dtls g.S.Association.association g.M.MediaSession.media g.N.Ids.ids) c.args.peer.now c.list_line_updates.new.peer c.join_halves.new.peer c.args.may c.args.sdp.now c.in-Ok.ensures.others
    c.in-Ok-join_halves.ensures.after)

pub returns-in-Ok-join_halves-clause-halves : goal.returns-in-Ok-join_halves-clause-halves
returns-in-Ok-join_halves-clause-halves g c =
    joined_are (meanings g.I.IceAgent.ice g.D.DtlsInstance.dtls g.S.Association.association g.M.MediaSession.media g.N.Ids.ids) c.args.peer.now c.list_line_updates.new.peer c.args.offer c.args.may c.args.changes.now c.args.sdp.now c.in-Ok-join_halves.halves
    c.in-Ok.ensures.others c.in-Ok.ensures.after c.in-Ok-join_halves.ensures.halves

pub returns-in-Ok-join_halves-clause-whole : goal.returns-in-Ok-join_halves-clause-whole
returns-in-Ok-join_halves-clause-whole g c =
    are_joined_whole (meanings g.I.IceAgent.ice g.D.DtlsInstance.dtls g.S.Association.association g.M.MediaSession.media g.N.Ids.ids) c.list_line_updates.new.peer c.args.may c.args.sdp.now c.in-Ok-join_halves.halves c.in-Ok-join_halves.ensures.halves

pub returns-in-Ok-join_halves-clause-after : goal.returns-in-Ok-join_halves-clause-after
returns-in-Ok-join_halves-clause-after g c =
    all_left (meanings g.I.IceAgent.ice g.D.DtlsInstance.dtls g.S.Association.association g.M.MediaSession.media g.N.Ids.ids) c.args.peer.now c.list_line_updates.new.peer c.join_halves.new.peer c.args.offer c.args.may c.args.changes.now c.args.sdp.now
    c.in-Ok.ensures.others c.in-Ok.ensures.after c.in-Ok-join_halves.ensures.after
