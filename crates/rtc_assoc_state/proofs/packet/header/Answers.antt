use Rattle.std.proofs.Common.{arith}
use Rattle.rtc_assoc_state.proofs.packet.header.Goals as goal

pub returns-clause-fits : goal.returns-clause-fits
returns-clause-fits c = record {
  acknowledged_fits = omega arith;
  number_fits = omega arith;
  stream_fits = omega arith;
  generation_fits = omega arith;
  identifier_fits = omega arith;
}
