use Rattle.std.proofs.Common.{rules}
use Rattle.std.proofs.lemmas.Str.{is_utf8-from_IsUtf8}
use Rattle.rtc_file_records.proofs.RecordLemmas.{begin_back}
use Rattle.rtc_file_records.proofs.file_record.begin_bytes.Goals as goal

pub returns-clause-again : goal.returns-clause-again
returns-clause-again c = begin_back c.args.name.now c.args.total c.requires (is_utf8-from_IsUtf8 c.args.name.now (rw (← c.as_bytes-text.ensures.value) c.as_bytes-text.ensures.utf8)) (search rules)
