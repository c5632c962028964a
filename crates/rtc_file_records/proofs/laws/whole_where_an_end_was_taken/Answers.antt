use Rattle.rtc_file_records.proofs.ReceiverLaw.{whole_by_ends}
use Rattle.rtc_file_records.proofs.laws.whole_where_an_end_was_taken.Goals as goal

pub returns : goal.returns
returns c = whole_by_ends
