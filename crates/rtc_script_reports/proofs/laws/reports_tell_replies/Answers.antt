use Rattle.rtc_script_reports.proofs.ToldReplies.{reports_tell}
use Rattle.rtc_script_reports.proofs.laws.reports_tell_replies.Goals as goal

pub returns : goal.returns
returns c = reports_tell
