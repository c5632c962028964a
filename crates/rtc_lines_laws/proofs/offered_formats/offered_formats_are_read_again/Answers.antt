use Rattle.rtc_lines.specs.OfferedFormats.{answer_with_offered}
use Rattle.rtc_lines_laws.proofs.OfferedLines.{legible_still}
use Rattle.rtc_lines_laws.proofs.offered_formats.offered_formats_are_read_again.Goals as goal

pub returns : goal.returns
returns c = record {
  written = λ answer offer h plain.
      c.written_text_reads_again.ensures.written (answer_with_offered answer offer) (legible_still answer offer h plain);
  filled = λ answer offer h plain.
      c.written_text_reads_again.ensures.filled (answer_with_offered answer offer) (legible_still answer offer h plain);
}
