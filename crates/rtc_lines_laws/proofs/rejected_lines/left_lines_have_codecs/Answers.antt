use Rattle.rtc_lines_laws.proofs.LeftCodecs.{none_lacks}
use Rattle.rtc_lines_laws.proofs.rejected_lines.left_lines_have_codecs.Goals as goal

pub returns : goal.returns
returns c = none_lacks
