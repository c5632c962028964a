use Rattle.std.proofs.Common.{◌∙◌}
use Rattle.rtc_peer.specs.CachedPeer.{polled_of}
use Rattle.rtc_room_hub.proofs.TakenSteps.{told_ok}
use Rattle.rtc_room_hub.proofs.performing.hear_step.Goals as goal

pub returns : goal.returns
returns c =
    told_ok c.queue_items.result c.args.k c.room-room.result c.line-line.result c.in_ok-told.told.line (polled_of c.args.peer.now) c.args.outputs.now c.as_slice.result.now
    c.index-members-k.result c.index-members-k-2.result c.args.members.now c.set_line.new.members c.queue_items.new.members c.line-line.ensures c.room-room.ensures
    c.in_ok-told.ensures.line (c.as_slice.ensures.value ∙ c.in_ok-told.ensures.heard) c.set_line.ensures c.queue_items.ensures
