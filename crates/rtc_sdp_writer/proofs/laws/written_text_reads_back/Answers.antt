use Rattle.rtc_sdp_writer.proofs.Law.{written_reads_back, filled_reads_back, plain_as_read}
use Rattle.rtc_sdp_writer.proofs.laws.written_text_reads_back.Goals as goal

pub returns : goal.returns
returns c = record { back = written_reads_back; filled = filled_reads_back; itself = plain_as_read }
