-- Records that a message lends.
use Rattle.rtc_file_records.specs.declared.file_record.FileRecord.{FileRecord}
use Rattle.rtc_file_records.specs.declared.file_record.FileRecord.TheVariants as records
use Rattle.rtc_file_records.specs.declared.record_view.RecordView.{RecordView}
use Rattle.rtc_file_records.specs.declared.record_view.RecordView.TheVariants as views

-- the record that is lent
abbrev pub record_of : RecordView → FileRecord
record_of (views.Begin name total) = records.Begin name.now total
record_of (views.Piece offset bytes) = records.Piece offset bytes.now
record_of (views.End total digest) = records.End total digest
record_of (views.Resume offset) = records.Resume offset
