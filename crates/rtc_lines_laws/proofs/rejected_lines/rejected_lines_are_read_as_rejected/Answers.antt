use Rattle.rtc_lines_laws.proofs.LeftLines.{left_of}
use Rattle.rtc_lines_laws.proofs.rejected_lines.rejected_lines_are_read_as_rejected.Goals as goal

pub returns : goal.returns
returns c = left_of
