use Rattle.std.proofs.Common.{arith}
use Rattle.rtc_assoc_state.proofs.PieceLemmas.{packets_step, reads_step}
use Rattle.rtc_assoc_state.proofs.cut.packets_of.Goals as goal

pub loop-i-preserved : goal.loop-i-preserved
loop-i-preserved c = record {
  made = rw (c.in_ok-push_back.ensures.items, c.in_ok-packet.ensures.bytes)
      (packets_step c.args.acknowledged c.args.first c.loop-i.i c.args.items.now.items c.index.result.now c.loop-i.packets.items
      (omega arith) c.index.ensures c.loop-i.invariant.made);
  reads = reads_step c.args.acknowledged c.args.first c.loop-i.i c.args.items.now.items c.index.result.now
      (omega arith) c.index.ensures c.in_ok-packet.ensures.reads c.loop-i.invariant.reads;
}
