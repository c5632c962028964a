use Rattle.std.proofs.Common.{refl, sym, ◌∙◌}
use Rattle.rtc_sctp.specs.Polls.{book}
use Rattle.rtc_sctp.proofs.EventsTended.{tended_event}
use Rattle.rtc_sctp.proofs.StepLemmas.{event_taken}
use Rattle.rtc_sctp.proofs.polls.take_event.Goals as goal

pub returns-clause-takes : goal.returns-clause-takes
returns-clause-takes g c =
    event_taken g.S.Association.association c.in-Some.event c.poll.result _ _ _ _ _ _ (sym c.is_started.ensures ∙ c.if-not-is_started.false) c.in-Some.is c.poll.ensures
    (rw (c.make_room.ensures.entries, c.make_room.ensures.resets, c.make_room.ensures.completed) refl)
    c.apply_event_with_room.ensures.met c.apply_event_with_room.ensures.after

pub returns-clause-tended : goal.returns-clause-tended
returns-clause-tended g c =
    tended_event g.S.Association.association g.met.S.Association.laws c.in-Some.event c.args.association.now c.poll.new.self
    (book c.args.state.now c.make_room.new.entries.items c.make_room.new.resets.items c.make_room.new.completed.items)
    (book c.apply_event_with_room.new.state c.apply_event_with_room.new.entries.items c.apply_event_with_room.new.resets.items c.apply_event_with_room.new.completed.items)
    c.args.agenda.now c.apply_event_with_room.new.agenda c.in-Some.ensures (rw (← c.make_room.ensures.entries) at c.requires)
    c.apply_event_with_room.ensures.notes c.apply_event_with_room.ensures.keeps
    c.apply_event_with_room.ensures.counts c.apply_event_with_room.ensures.buffered c.apply_event_with_room.ensures.closed c.apply_event_with_room.ensures.after
