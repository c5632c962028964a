use Rattle.std.proofs.Common.{sym}
use Rattle.rtc_assoc_state.proofs.InboxLemmas.{with_more-found, with_more-none}
use Rattle.rtc_assoc_state.proofs.inbox.keep_more.Goals as goal

pub returns-in_ok-extend-in-Some-clause-ok : goal.returns-in_ok-extend-in-Some-clause-ok
returns-in_ok-extend-in-Some-clause-ok c =
    with_more-found c.args.item.stream c.args.item.generation c.args.bytes.now c.args.parts.now.items c.in-Some.place _ _ _
    (sym (rw c.as_slice.ensures.value at c.in-Some.ensures)) c.index_mut-part.ensures.value
    c.in_ok-extend-in-Some.ensures.ok

pub returns-in_ok-push-in-None-clause-ok : goal.returns-in_ok-push-in-None-clause-ok
returns-in_ok-push-in-None-clause-ok c =
    rw (c.in_ok-push-in-None.ensures.items, c.in_ok-part-in-None.ensures)
    (with_more-none c.args.item.stream c.args.item.generation c.args.bytes.now c.args.parts.now.items (sym (rw c.as_slice.ensures.value at c.in-None.ensures)))
