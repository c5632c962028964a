use Rattle.std.proofs.Common.{ap, ◌∙◌}
use Rattle.std.specs.VecDeque.{deque_items}
use Rattle.rtc_assoc_state.specs.Headers.{item_with}
use Rattle.rtc_assoc_state.specs.Inbox.{message_of, with_message, bytes_so_far}
use Rattle.rtc_assoc_state.specs.Queued.{all_queued}
use Rattle.rtc_assoc_state.proofs.PartLemmas.{bytes_so_far-with}
use Rattle.rtc_assoc_state.proofs.unread.Unread.keep_last.Goals as goal

pub returns-clause-parts : goal.returns-clause-parts
returns-clause-parts c = c.take-bytes.ensures.rest ∙ c.in_ok-keep_more.ensures.left

pub returns-clause-unread : goal.returns-clause-unread
returns-clause-unread c =
    let bytes_is = c.take-bytes.ensures.bytes ∙ ap (bytes_so_far c.args.item.stream c.args.item.generation) c.in_ok-keep_more.ensures.ok
    ∙ bytes_so_far-with c.args.item.stream c.args.item.generation c.args.bytes.now c.args.parts.now in
    rw (← c.self.view_is) (
    c.put.ensures.messages
    ∙ ap (with_message (message_of (item_with c.args.item c.args.bytes.now) c.take-bytes.result)) c.in_ok-make_room.ensures.same
    ∙ ap (λ b. with_message (message_of (item_with c.args.item c.args.bytes.now) b) (all_queued deque_items c.self.inside.queues.entries)) bytes_is
    )
