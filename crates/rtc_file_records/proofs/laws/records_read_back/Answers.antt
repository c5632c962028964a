use Rattle.rtc_file_records.proofs.RecordLemmas.{record_is_read}
use Rattle.rtc_file_records.proofs.laws.records_read_back.Goals as goal

pub returns : goal.returns
returns c = record_is_read
