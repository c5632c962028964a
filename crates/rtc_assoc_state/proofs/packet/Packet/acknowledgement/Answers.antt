use Rattle.std.proofs.Common.{arith}
use Rattle.rtc_assoc_state.proofs.PacketLemmas.{acknowledgement_reads_back}
use Rattle.rtc_assoc_state.proofs.packet.Packet.acknowledgement.Goals as goal

pub returns-clause-reads : goal.returns-clause-reads
returns-clause-reads c = acknowledgement_reads_back c.args.number (omega arith)
