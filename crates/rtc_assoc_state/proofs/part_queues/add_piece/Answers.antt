use Rattle.std.proofs.Common.{◌≡◌, sym, ap, subst, ◌∙◌}
use Rattle.std.specs.List.{AllByRecursion}
use Rattle.std.specs.Vec.{vec_items}
use Rattle.rtc_assoc_state.specs.Inbox.{MessagePart, with_more, with_bytes, without_part}
use Rattle.rtc_assoc_state.specs.Queued.{all_queued, stream_of_part}
use Rattle.rtc_assoc_state.proofs.PartLemmas.{all_of-more, queue_more, queue_left}
use Rattle.rtc_assoc_state.proofs.SplitLemmas.{either_answer, on_err, on_ok, queue_same, sound_set, split_of}
use Rattle.rtc_assoc_state.proofs.part_queues.add_piece.Goals as goal

pub returns-clause-ok : goal.returns-clause-ok
returns-clause-ok c =
    let s = c.args.item.stream in
    let g = c.args.item.generation in
    let new = c.keep_more.new.parts in
    let all = all_queued vec_items c.args.queues.now.entries in
    let w = split_of vec_items stream_of_part s c.args.queues.now c.in-Some.parts.now c.requires.sound (sym c.in-Some.ensures.value) in
    on_ok c.keep_more.result (new.items ≡ with_more s g c.args.bytes.now c.in-Some.parts.now.items) (all_queued vec_items (c.get_mut.follows.lender new).entries ≡ with_bytes s g c.args.bytes.now all)
    (λ e. ap (all_queued vec_items) (c.get_mut.follows.holds new).0 ∙ queue_more vec_items s g c.args.bytes.now c.args.queues.now.entries c.in-Some.parts.now new w e)
    c.keep_more.ensures.ok

pub returns-clause-left : goal.returns-clause-left
returns-clause-left c =
    let s = c.args.item.stream in
    let g = c.args.item.generation in
    let new = c.keep_more.new.parts in
    let all = all_queued vec_items c.args.queues.now.entries in
    let w = split_of vec_items stream_of_part s c.args.queues.now c.in-Some.parts.now c.requires.sound (sym c.in-Some.ensures.value) in
    on_ok c.keep_more.result (new.items ≡ with_more s g c.args.bytes.now c.in-Some.parts.now.items) (without_part s g (all_queued vec_items (c.get_mut.follows.lender new).entries) ≡ without_part s g all)
    (λ e. ap (λ l. without_part s g (all_queued vec_items l)) (c.get_mut.follows.holds new).0 ∙ queue_left vec_items s g c.args.bytes.now c.args.queues.now.entries c.in-Some.parts.now new w e)
    c.keep_more.ensures.ok

pub returns-clause-err : goal.returns-clause-err
returns-clause-err c =
    let s = c.args.item.stream in
    let new = c.keep_more.new.parts in
    let all = all_queued vec_items c.args.queues.now.entries in
    let w = split_of vec_items stream_of_part s c.args.queues.now c.in-Some.parts.now c.requires.sound (sym c.in-Some.ensures.value) in
    on_err c.keep_more.result (new.items ≡ c.in-Some.parts.now.items) (all_queued vec_items (c.get_mut.follows.lender new).entries ≡ all)
    (λ e. ap (all_queued vec_items) (c.get_mut.follows.holds new).0 ∙ queue_same vec_items stream_of_part s c.args.queues.now.entries c.in-Some.parts.now new w e)
    c.keep_more.ensures.err

pub returns-clause-sound : goal.returns-clause-sound
returns-clause-sound c =
    let s = c.args.item.stream in
    let g = c.args.item.generation in
    let old = c.in-Some.parts.now in
    let new = c.keep_more.new.parts in
    let w = split_of vec_items stream_of_part s c.args.queues.now old c.requires.sound (sym c.in-Some.ensures.value) in
    let written = c.get_mut.follows.holds new in
    let own : AllByRecursion (λ (p : MessagePart). p.stream ≡ s) new.items =
    either_answer c.keep_more.result (new.items ≡ with_more s g c.args.bytes.now old.items) (new.items ≡ old.items) (AllByRecursion (λ (p : MessagePart). p.stream ≡ s) new.items)
    c.keep_more.ensures.ok c.keep_more.ensures.err
    (λ e. subst (AllByRecursion (λ (p : MessagePart). p.stream ≡ s)) (sym e) (all_of-more s g c.args.bytes.now old.items w.own))
    (λ e. subst (AllByRecursion (λ (p : MessagePart). p.stream ≡ s)) (sym e) w.own) in
    sound_set vec_items stream_of_part s c.args.queues.now (c.get_mut.follows.lender new) old new c.requires.sound (sym c.in-Some.ensures.value) written.0 written.4 own
