use Rattle.rtc_lines_laws.proofs.OfferedLines.{parsed_still}
use Rattle.rtc_lines_laws.proofs.offered_formats.offered_formats_are_ignored.Goals as goal

pub returns : goal.returns
returns c = parsed_still
