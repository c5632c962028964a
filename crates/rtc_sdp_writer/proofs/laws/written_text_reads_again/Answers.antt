use Rattle.rtc_sdp_writer.proofs.Law.{written_reads_again, filled_reads_again}
use Rattle.rtc_sdp_writer.proofs.laws.written_text_reads_again.Goals as goal

pub returns : goal.returns
returns c = record { written = written_reads_again; filled = filled_reads_again }
