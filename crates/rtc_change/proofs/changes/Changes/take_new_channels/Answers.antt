use Rattle.std.proofs.Common.{arith}
use Rattle.rtc_change.proofs.AddedLemmas.{channels_step, others_step}
use Rattle.rtc_change.proofs.changes.Changes.take_new_channels.Goals as goal

pub loop-change-preserved : goal.loop-change-preserved
loop-change-preserved c =
    let parted = rw c.in-Some.is at c.pop.ensures.items in
    let fewer = rw c.in-Some.is at c.pop.ensures.len in
    record {
      channels = channels_step c.loop-change.channels.items c.put_apart.new.channels.items _ c.loop-change.staged.items c.pop.new.self.items c.in-Some.change
          parted c.put_apart.ensures.channels c.loop-change.invariant.channels;
      others = others_step c.loop-change.others.items c.put_apart.new.others.items _ c.loop-change.staged.items c.pop.new.self.items c.in-Some.change
          parted c.put_apart.ensures.others c.loop-change.invariant.others;
      channels_room = omega (arith, fewer, c.put_apart.ensures.len, c.put_apart.ensures.channels_capacity, c.loop-change.invariant.channels_room);
      others_room = omega (arith, fewer, c.put_apart.ensures.len, c.put_apart.ensures.others_capacity, c.loop-change.invariant.others_room);
    }
