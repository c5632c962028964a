use Rattle.rtc_lines.specs.OfferedFormats.{answer_with_offered}
use Rattle.rtc_lines_laws.proofs.OfferedLines.{plain_still}
use Rattle.rtc_lines_laws.proofs.offered_formats.offered_formats_are_read_back.Goals as goal

pub returns : goal.returns
returns c = record {
  written = λ answer offer h plain.
      c.written_text_reads_back.ensures.back (answer_with_offered answer offer) (plain_still answer offer h plain);
  filled = λ answer offer h plain.
      c.written_text_reads_back.ensures.filled (answer_with_offered answer offer) (plain_still answer offer h plain);
}
