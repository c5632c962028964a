use Rattle.rtc_sdp_writer.proofs.ReadLines.{lines_of_texts}
use Rattle.rtc_sdp_writer.proofs.laws.read_lines_are_plain.Goals as goal

pub returns : goal.returns
returns c = lines_of_texts
