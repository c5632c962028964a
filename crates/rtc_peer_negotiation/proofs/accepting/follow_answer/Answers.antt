use Rattle.std.proofs.Common.{◌∙◌, Ok, Err, refl, ap}
use Rattle.rtc_channels.specs.Channels.{all_confirmed}
use Rattle.rtc_peer_rows.specs.declared.plan.Plan.{Plan}
use Rattle.rtc_peer_core.specs.Calls.{fitting_channels}
use Rattle.rtc_peer_core.specs.Meanings.{meanings}
use Rattle.rtc_peer_negotiation.proofs.AnswerLemmas.{latest_raised, answer_refused, answer_unprepared, answer_moves, answer_fails, answer_accepted}
use Rattle.rtc_peer_negotiation.proofs.accepting.follow_answer.Goals as goal

pub returns-in-Err : goal.returns-in-Err
returns-in-Err g c =
    let right = latest_raised c.is_latest.result c.args.peer.now.counter c.args.token.now.id c.is_latest.ensures c.if-not-is_latest.false in
    answer_refused (meanings g.I.IceAgent.ice g.D.DtlsInstance.dtls g.S.Association.association g.M.MediaSession.media g.N.Ids.ids) c.args.peer.now c.refuse.new.peer c.args.token.now c.args.answer.now
    c.in-Err.refusal c.refuse.result right c.in-Err.ensures.plans c.refuse.ensures.error c.refuse.ensures.rest

pub returns-in-Err-grow_answer : goal.returns-in-Err-grow_answer
returns-in-Err-grow_answer g c =
    let right = latest_raised c.is_latest.result c.args.peer.now.counter c.args.token.now.id c.is_latest.ensures c.if-not-is_latest.false in
    rw c.release.ensures (answer_unprepared (meanings g.I.IceAgent.ice g.D.DtlsInstance.dtls g.S.Association.association g.M.MediaSession.media g.N.Ids.ids) c.args.peer.now c.grow_answer.new.peer c.args.token.now c.args.answer.now right
    (c.in-Ok.ensures.plans.0) (rw (c.changes-staged.ensures, c.has_sctp_init-may.ensures) at c.in-Err-grow_answer.ensures.grows))

pub returns-in-Err-move_peer : goal.returns-in-Err-move_peer
returns-in-Err-move_peer g c =
    let right = latest_raised c.is_latest.result c.args.peer.now.counter c.args.token.now.id c.is_latest.ensures c.if-not-is_latest.false in
    let grown = rw (c.changes-staged.ensures, c.has_sctp_init-may.ensures) at c.in-Ok-grow_answer.ensures.grows in
    let moves = answer_moves (meanings g.I.IceAgent.ice g.D.DtlsInstance.dtls g.S.Association.association g.M.MediaSession.media g.N.Ids.ids) c.args.peer.now c.grow_answer.new.peer c.args.token.now.says_init c.args.token.now.changes c.args.answer.now c.in-Ok-grow_answer.growth
    c.as_slice.result.now (Err c.in-Err-move_peer.error) c.move_peer.new.peer.ice c.move_peer.new.peer.dtls c.move_peer.new.peer.sctp grown
    (c.as_slice.ensures ∙ ap (λ (plan : Plan). plan.rows) c.in-Ok.ensures.plans.1) c.in-Err-move_peer.ensures.moves in
    answer_fails (meanings g.I.IceAgent.ice g.D.DtlsInstance.dtls g.S.Association.association g.M.MediaSession.media g.N.Ids.ids) c.args.peer.now c.grow_answer.new.peer c.move_peer.new.peer c.args.token.now c.args.answer.now
    c.in-Ok-grow_answer.growth c.in-Err-move_peer.error right grown (c.in-Ok.ensures.plans.0) moves c.in-Err-move_peer.ensures.rest

pub returns : goal.returns
returns g c =
    let right = latest_raised c.is_latest.result c.args.peer.now.counter c.args.token.now.id c.is_latest.ensures c.if-not-is_latest.false in
    let grown = rw (c.changes-staged.ensures, c.has_sctp_init-may.ensures) at c.in-Ok-grow_answer.ensures.grows in
    let moves = answer_moves (meanings g.I.IceAgent.ice g.D.DtlsInstance.dtls g.S.Association.association g.M.MediaSession.media g.N.Ids.ids) c.args.peer.now c.grow_answer.new.peer c.args.token.now.says_init c.args.token.now.changes c.args.answer.now c.in-Ok-grow_answer.growth
    c.as_slice.result.now (Ok tt) c.move_peer.new.peer.ice c.move_peer.new.peer.dtls c.move_peer.new.peer.sctp grown
    (c.as_slice.ensures ∙ ap (λ (plan : Plan). plan.rows) c.in-Ok.ensures.plans.1) c.in-Ok-move_peer.ensures.moves in
    answer_accepted (meanings g.I.IceAgent.ice g.D.DtlsInstance.dtls g.S.Association.association g.M.MediaSession.media g.N.Ids.ids) c.args.peer.now c.grow_answer.new.peer c.move_peer.new.peer c.args.token.now c.args.answer.now
    c.in-Ok-grow_answer.growth c.commit.new.self c.commit-2.new.self (all_confirmed (fitting_channels c.args.token.now.changes) c.move_peer.new.peer.channels) right grown (c.in-Ok.ensures.plans.0) moves
    c.in-Ok-move_peer.ensures.rest c.commit.ensures (c.commit-2.ensures ∙ ap (λ (plan : Plan). plan.rows) c.in-Ok.ensures.plans.1) refl
