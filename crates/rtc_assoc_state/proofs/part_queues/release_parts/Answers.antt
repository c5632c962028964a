use Rattle.std.specs.Vec.{vec_items}
use Rattle.rtc_assoc_state.specs.Queued.{stream_of_part}
use Rattle.rtc_assoc_state.proofs.SplitLemmas.{release_same, release_sound}
use Rattle.rtc_assoc_state.proofs.part_queues.release_parts.Goals as goal

pub returns-then-has_no_parts-clause-same : goal.returns-then-has_no_parts-clause-same
returns-then-has_no_parts-clause-same c =
    release_same vec_items stream_of_part c.args.stream c.args.queues.now c.remove.new.self c.requires (rw c.if-has_no_parts.true at c.has_no_parts.ensures) c.remove.ensures.entries

pub returns-then-has_no_parts-clause-sound : goal.returns-then-has_no_parts-clause-sound
returns-then-has_no_parts-clause-sound c =
    release_sound vec_items stream_of_part c.args.stream c.args.queues.now c.remove.new.self c.requires (rw c.if-has_no_parts.true at c.has_no_parts.ensures) c.remove.ensures.entries c.remove.ensures.ordered
