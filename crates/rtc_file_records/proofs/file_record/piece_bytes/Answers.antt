use Rattle.std.proofs.Common.{rules}
use Rattle.rtc_file_records.proofs.RecordLemmas.{piece_back}
use Rattle.rtc_file_records.proofs.file_record.piece_bytes.Goals as goal

pub returns-clause-again : goal.returns-clause-again
returns-clause-again c = piece_back c.args.offset c.args.bytes.now c.requires.some c.requires.few (search rules)
