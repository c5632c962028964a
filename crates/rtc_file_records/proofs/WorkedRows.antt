-- Rows worked by hand, computed.
use Rattle.std.proofs.Common.{◌≡◌, true, false, [], ◌∷◌, codes, Some, None, refl}
use Rattle.rtc_file_records.specs.declared.file_record.FileRecord.TheVariants.{Begin, Piece, Resume}
use Rattle.rtc_file_records.specs.declared.file_error.FileError.TheVariants.{Order, Gap, TooMuch, BadRecord}
use Rattle.rtc_file_records.specs.Receiving.{ReceivedFile, refusal_by}
use Rattle.rtc_file_records.specs.Records.{record_bytes}
use Rattle.rtc_file_records.specs.Sending.{piece_count}

-- a file of 40000 bytes is three pieces, and an empty one is none
three_pieces : piece_count 40000 ≡ 3
unfolding piece_count
three_pieces = refl

no_pieces : piece_count 0 ≡ 0
unfolding piece_count
no_pieces = refl

-- three bytes of a file of four are held, in a session that began
abbrev holding : ReceivedFile
holding = record { announced = Some (record { name = codes "file"; total = 4 }); begun = true; held = 97 ∷ 98 ∷ 99 ∷ []; whole = false }

piece_behind_a_gap : refusal_by holding (Some (Piece 5 (100 ∷ []))) ≡ Some (Gap 3 5)
piece_behind_a_gap = refl

piece_past_the_total : refusal_by holding (Some (Piece 3 (100 ∷ 101 ∷ []))) ≡ Some (TooMuch 4 5)
piece_past_the_total = refl

begin_again : refusal_by holding (Some (Begin (codes "file") 4)) ≡ Some Order
begin_again = refl

resume_to_a_receiver : refusal_by holding (Some (Resume 3)) ≡ Some Order
resume_to_a_receiver = refl

no_record : refusal_by holding None ≡ Some BadRecord
no_record = refl

-- a Begin of two letters and 256 bytes, byte for byte
begin_bytes : record_bytes (Begin (codes "ab") 256) ≡ 1 ∷ 0 ∷ 2 ∷ 97 ∷ 98 ∷ 0 ∷ 0 ∷ 0 ∷ 0 ∷ 0 ∷ 0 ∷ 1 ∷ 0 ∷ []
unfolding record_bytes
begin_bytes = refl
