use Rattle.std.proofs.Common.{arith, rules}
use Rattle.rtc_io.proofs.Pieces.{appends_more}
use Rattle.rtc_io.proofs.writing.write_all.Goals as goal

pub loop-done-preserved : goal.loop-done-preserved
loop-done-preserved g c = record {
  written = appends_more _ _ _ c.args.text.now c.loop-done.done c.in-Ok.count c.loop-done.invariant.written c.in-Ok.ensures.bytes;
  within = search rules;
  later = omega (arith, c.loop-done.invariant.later, c.write.ensures.cause.later);
}
