-- A sender, seen by its callers.
use Rattle.std.specs.Prelude.{ℕ, ◌≤◌, List, [], length}
use Rattle.rtc_file_records.specs.declared.file_record.FileRecord.{FileRecord}
use Rattle.rtc_file_records.specs.declared.file_sender.Stage.{Stage}
use Rattle.rtc_file_records.specs.declared.file_sender.Stage.TheVariants.{Begin, Pieces, Done}
use Rattle.rtc_file_records.specs.declared.file_sender.FileSender.TheInside.{Inside}
use Rattle.rtc_file_records.specs.Sending.{SentFile, session_from, rest_from}

-- the records that are left at each stage
abbrev pub left_at : Stage → List ℕ → ℕ → List ℕ → List FileRecord
left_at Begin name offset file = session_from name offset file
left_at Pieces name offset file = rest_from offset file
left_at Done name offset file = []

abbrev pub sent_of : Inside → SentFile
sent_of inside = record {
  name = inside.name;
  file = inside.file.now;
  left = left_at inside.stage inside.name inside.offset inside.file.now;
}

-- the name can be sent, and no piece begins behind the file
pub record IsSending (inside : Inside) : Type 0 where
  pub name : length inside.name ≤ 65535
  pub within : inside.offset ≤ length inside.file.now
