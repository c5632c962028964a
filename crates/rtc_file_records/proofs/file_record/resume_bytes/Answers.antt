use Rattle.std.proofs.Common.{rules}
use Rattle.rtc_file_records.proofs.RecordLemmas.{resume_back}
use Rattle.rtc_file_records.proofs.file_record.resume_bytes.Goals as goal

pub returns-clause-again : goal.returns-clause-again
returns-clause-again c = resume_back c.args.offset (search rules)
