-- The pieces that are left of a file.
use Rattle.std.proofs.Common.{ℕ, suc, ◌≡◌, ◌+◌, ◌-◌, ◌≤◌, ◌<◌, inl, inr, List, [], ◌∷◌, length, take, drop, min, refl, ap, sym, subst, arith}
use Rattle.std.proofs.lemmas.List.{take_min, length-take, length-drop}
use Rattle.rtc_file_records.specs.Records.{CanBeSent}
use Rattle.std.proofs.lemmas.Bool.Decides.{leb_tells}
use Rattle.sha2.specs.Sha256.{sha256}
use Rattle.rtc_file_records.specs.declared.file_record.FileRecord.{FileRecord}
use Rattle.rtc_file_records.specs.declared.file_record.FileRecord.TheVariants.{Piece, End}
use Rattle.rtc_file_records.specs.declared.file_sender.Stage.{Stage}
use Rattle.rtc_file_records.specs.declared.file_sender.Stage.TheVariants.{Pieces}
use Rattle.rtc_file_records.specs.Sending.{SentFile, piece_count, rest_from}
use Rattle.rtc_file_records.specs.FileSender.{left_at}

-- no bytes make no piece, and some make one more than those behind the first piece
pub no_piece : piece_count 0 ≡ 0
unfolding piece_count
no_piece = refl

pub one_piece_more : (size : ℕ) → 0 < size → piece_count size ≡ suc (piece_count (size - 16384))
unfolding piece_count
one_piece_more size some = omega arith

-- where no byte is left, the End is
pub end_left : (offset : ℕ) (file : List ℕ) → length file ≤ offset → rest_from offset file ≡ End (length file) (sha256 file) ∷ []
end_left offset file over = let none : length file - offset ≡ 0 = omega arith in rw (none, no_piece) refl

-- where bytes are left, a piece is, and the rest behind it
pub piece_left : (offset : ℕ) (file : List ℕ) → offset < length file → rest_from offset file ≡ Piece offset (take 16384 (drop offset file)) ∷ rest_from (offset + min (length file - offset) 16384) file
piece_left offset file within =
    let more : piece_count (length file - offset) ≡ suc (piece_count (length file - offset - 16384)) = one_piece_more (length file - offset) (omega arith) in
    elim (leb_tells 16384 (length file - offset)) [
      | inl whole ↦
          let place : offset + min (length file - offset) 16384 ≡ offset + 16384 = omega (arith, whole.1) in
          let behind : length file - offset - 16384 ≡ length file - (offset + 16384) = omega arith in
          rw (more, place, behind) refl
      | inr last ↦
          let place : length file - (offset + min (length file - offset) 16384) ≡ 0 = omega (arith, last.1) in
          let behind : length file - offset - 16384 ≡ 0 = omega (arith, last.1) in
          rw (more, place, behind, no_piece) refl
    ]

-- what is left at a stage
pub left_in_pieces : (stage : Stage) (name file : List ℕ) (offset : ℕ) → stage ≡ Pieces → left_at stage name offset file ≡ rest_from offset file
left_in_pieces stage name file offset is = ap (λ (s : Stage). left_at s name offset file) is

-- the bytes of a piece, as they are cut out of the file
pub piece_cut : (file : List ℕ) (offset count : ℕ) → count ≡ min (length file - offset) 16384 → take (offset + count - offset) (drop offset file) ≡ take 16384 (drop offset file)
piece_cut file offset count is =
    let size : offset + count - offset ≡ min 16384 (length (drop offset file)) = omega (arith, is, length-drop offset file) in
    rw size (take_min 16384 (drop offset file))

-- a piece can be sent
pub piece_sent : (file : List ℕ) (offset : ℕ) → offset < length file → CanBeSent (Piece offset (take 16384 (drop offset file)))
piece_sent file offset within = (omega (arith, length-take 16384 (drop offset file), length-drop offset file), omega (arith, length-take 16384 (drop offset file)))

-- a sender behind the first of the records that were left
pub sent_next : (sender : SentFile) (name file : List ℕ) (left rest : List FileRecord) (made : FileRecord)
    → (let is : SentFile = record { name = name; file = file; left = left } in is) ≡ sender → left ≡ made ∷ rest
    → (let is : SentFile = record { name = name; file = file; left = rest } in is) ≡ record sender { left = drop 1 sender.left }
sent_next sender name file left rest made is split =
    let now : SentFile = record { name = name; file = file; left = rest } in
    subst (λ (s : SentFile). now ≡ record s { left = drop 1 s.left }) is (ap (λ (l : List FileRecord). let s : SentFile = record { name = name; file = file; left = l } in s) (sym (ap (drop 1) split)))
