use Rattle.std.proofs.Common.{rules}
use Rattle.rtc_file_records.proofs.RecordLemmas.{end_back}
use Rattle.rtc_file_records.proofs.file_record.end_bytes.Goals as goal

pub returns-clause-again : goal.returns-clause-again
returns-clause-again c = end_back c.args.total c.args.digest.now (search rules) (search rules)
