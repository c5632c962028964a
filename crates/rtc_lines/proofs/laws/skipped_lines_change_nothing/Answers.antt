use Rattle.rtc_lines.proofs.SkippedLaw.{skipped_line_changes_nothing}
use Rattle.rtc_lines.proofs.laws.skipped_lines_change_nothing.Goals as goal

pub returns : goal.returns
returns c = skipped_line_changes_nothing
