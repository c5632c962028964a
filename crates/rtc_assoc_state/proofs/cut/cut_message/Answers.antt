use Rattle.std.proofs.Common.{arith}
use Rattle.rtc_assoc_state.proofs.PieceLemmas.{cut_step, cut_end}
use Rattle.rtc_assoc_state.proofs.cut.cut_message.Goals as goal

pub loop-rest-preserved : goal.loop-rest-preserved
loop-rest-preserved c = record {
  cut = rw (c.in_ok-push_back.ensures.items, c.in_ok-item.ensures, c.split_at.ensures.front, c.split_at.ensures.back)
      (cut_step c.loop-rest.items.items c.args.size c.args.stream c.args.generation c.args.identifier c.args.bytes.now c.loop-rest.rest.now
      c.requires.least (omega arith) c.loop-rest.invariant.cut);
  few = omega (arith, c.loop-rest.invariant.few, c.in_ok-push_back.ensures.len, c.split_at.ensures.back_len);
}

pub returns-clause-items : goal.returns-clause-items
returns-clause-items c =
    rw (c.in_ok-push_back-2.ensures.items, c.in_ok-item-2.ensures)
    (cut_end c.loop-rest.items.items c.args.size c.args.stream c.args.generation c.args.identifier c.args.bytes.now c.loop-rest.rest.now
    (omega arith) c.loop-rest.invariant.cut)
