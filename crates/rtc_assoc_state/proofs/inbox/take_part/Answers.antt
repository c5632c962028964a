use Rattle.std.proofs.Common.{sym, ap, ◌∙◌, rules}
use Rattle.std.proofs.lemmas.Fn.{filter_same}
use Rattle.rtc_assoc_state.specs.Inbox.{without_part}
use Rattle.rtc_assoc_state.proofs.InboxLemmas.{bytes_so_far-found, bytes_so_far-none, without_part-removed, without_part-none}
use Rattle.rtc_assoc_state.proofs.inbox.take_part.Goals as goal

pub returns-in-None-clause-bytes : goal.returns-in-None-clause-bytes
returns-in-None-clause-bytes c =
    c.new-in-None.ensures ∙ c.new.ensures.items
    ∙ sym (bytes_so_far-none c.args.stream c.args.generation c.args.parts.now.items (sym (rw c.as_slice.ensures.value at c.in-None.ensures)))

pub returns-in-None-clause-rest : goal.returns-in-None-clause-rest
returns-in-None-clause-rest c = without_part-none c.args.stream c.args.generation c.args.parts.now.items (sym (rw c.as_slice.ensures.value at c.in-None.ensures))

pub returns-in-Some-clause-bytes : goal.returns-in-Some-clause-bytes
returns-in-Some-clause-bytes c =
    c.into_bytes.ensures
    ∙ sym (bytes_so_far-found c.args.stream c.args.generation c.args.parts.now.items c.in-Some.place c.remove-part.result c.remove-part.result
    (sym (rw c.as_slice.ensures.value at c.in-Some.ensures)) c.remove-part.ensures.value)

pub returns-in-Some-clause-rest : goal.returns-in-Some-clause-rest
returns-in-Some-clause-rest c =
    filter_same _ _ _ (λ x b f' k. search rules) _ _ c.retain.ensures.filtered
    ∙ ap (without_part c.args.stream c.args.generation) c.remove-part.ensures.items
    ∙ without_part-removed c.args.stream c.args.generation c.args.parts.now.items c.in-Some.place (sym (rw c.as_slice.ensures.value at c.in-Some.ensures))
