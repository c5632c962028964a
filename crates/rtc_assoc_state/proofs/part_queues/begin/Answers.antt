use Rattle.std.proofs.Common.{ap, ◌∙◌}
use Rattle.std.specs.Vec.{vec_items}
use Rattle.rtc_assoc_state.specs.Queued.{all_queued, stream_of_part}
use Rattle.rtc_assoc_state.proofs.SplitLemmas.{insert_empty, sound_insert}
use Rattle.rtc_assoc_state.proofs.part_queues.begin.Goals as goal

pub returns-clause-same : goal.returns-clause-same
returns-clause-same c =
    ap (all_queued vec_items) c.in_ok-insert.ensures.entries
    ∙ insert_empty vec_items stream_of_part c.args.stream c.args.queues.now.entries c.new-queue.result c.new-queue.ensures.items c.requires.absent

pub returns-clause-sound : goal.returns-clause-sound
returns-clause-sound c =
    sound_insert vec_items stream_of_part c.args.stream c.args.queues.now c.insert.new.self c.new-queue.result c.requires.sound c.requires.absent c.in_ok-insert.ensures.entries c.in_ok-insert.ensures.ordered c.new-queue.ensures.items
