use Rattle.std.proofs.Common.{◌≡◌, sym, ap, subst, ◌∙◌}
use Rattle.std.specs.List.{AllByRecursion}
use Rattle.std.specs.Vec.{vec_items}
use Rattle.rtc_assoc_state.specs.Inbox.{MessagePart}
use Rattle.rtc_assoc_state.specs.Queued.{all_queued, stream_of_part}
use Rattle.rtc_assoc_state.proofs.InboxLemmas.{fails-without_part}
use Rattle.rtc_assoc_state.proofs.PartLemmas.{absent-part, all_of-without_part, queue_without_part}
use Rattle.rtc_assoc_state.proofs.SplitLemmas.{split_of, sound_set}
use Rattle.rtc_assoc_state.proofs.part_queues.drop_joined.Goals as goal

pub returns-in-None-clause-rest : goal.returns-in-None-clause-rest
returns-in-None-clause-rest c =
    rw c.get_mut.follows.holds-at-none
    (fails-without_part c.args.stream c.args.generation _ (absent-part vec_items c.args.stream c.args.generation c.args.queues.now.entries c.requires.own (sym c.in-None.ensures.value)))

pub returns-in-Some-clause-rest : goal.returns-in-Some-clause-rest
returns-in-Some-clause-rest c =
    ap (all_queued vec_items) (c.get_mut.follows.holds c.drop_part.new.parts).0
    ∙ queue_without_part vec_items c.args.stream c.args.generation c.args.queues.now.entries c.in-Some.parts.now c.drop_part.new.parts
    (split_of vec_items stream_of_part c.args.stream c.args.queues.now c.in-Some.parts.now c.requires (sym c.in-Some.ensures.value)) c.drop_part.ensures

pub returns-in-Some-clause-sound : goal.returns-in-Some-clause-sound
returns-in-Some-clause-sound c =
    let w = split_of vec_items stream_of_part c.args.stream c.args.queues.now c.in-Some.parts.now c.requires (sym c.in-Some.ensures.value) in
    let written = c.get_mut.follows.holds c.drop_part.new.parts in
    sound_set vec_items stream_of_part c.args.stream c.args.queues.now (c.get_mut.follows.lender c.drop_part.new.parts) c.in-Some.parts.now c.drop_part.new.parts
    c.requires (sym c.in-Some.ensures.value) written.0 written.4
    (subst (AllByRecursion (λ (p : MessagePart). p.stream ≡ c.args.stream)) (sym c.drop_part.ensures) (all_of-without_part c.args.stream c.args.generation c.in-Some.parts.now.items w.own))
