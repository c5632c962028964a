use Rattle.std.proofs.Common.{sym, ◌∙◌, arith}
use Rattle.rtc_assoc_state.proofs.InboxLemmas.{message_in-found, message_in-none, messages_behind-found, messages_behind-none}
use Rattle.rtc_assoc_state.specs.Inbox.{is_message_of}
use Rattle.rtc_assoc_state.proofs.Firsts.{found_position, at_within}
use Rattle.rtc_assoc_state.proofs.inbox.take_out.Goals as goal

pub returns-in-Some-clause-message : goal.returns-in-Some-clause-message
returns-in-Some-clause-message c =
    message_in-found c.args.stream c.args.generation c.args.unread.now.items c.in-Some.place c.remove.result (sym c.in-Some.ensures)
    (λ d h. c.remove.ensures.succeeds d (omega (arith, h)))

pub returns-in-Some-clause-rest : goal.returns-in-Some-clause-rest
returns-in-Some-clause-rest c =
    let w = found_position (is_message_of c.args.stream c.args.generation) c.args.unread.now.items c.in-Some.place (sym c.in-Some.ensures) in
    let h = at_within (is_message_of c.args.stream c.args.generation) c.args.unread.now.items c.in-Some.place w.0 w.1 in
    let kept = rw (c.remove.ensures.succeeds w.0 (omega (arith, h))) at c.remove.ensures.items in
    kept ∙ messages_behind-found c.args.stream c.args.generation c.args.unread.now.items c.in-Some.place (sym c.in-Some.ensures)

pub returns-in-None-clause-message : goal.returns-in-None-clause-message
returns-in-None-clause-message c = sym (message_in-none c.args.stream c.args.generation c.args.unread.now.items (sym c.in-None.ensures))

pub returns-in-None-clause-rest : goal.returns-in-None-clause-rest
returns-in-None-clause-rest c = messages_behind-none c.args.stream c.args.generation c.args.unread.now.items (sym c.in-None.ensures)
