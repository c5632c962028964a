-- Bytes are a record exactly where they are read as that record.
use Rattle.std.proofs.Common.{ℕ, ◌≡◌, ◌+◌, ◌-◌, ◌≤◌, ◌<◌, ◌^◌, ◌==◌, nat_lt, true, false, List, ◌∷◌, ◌++◌, length, slice_range, Some, refl, ◌∙◌, ap, arith, length-append, eq-eqb}
use Rattle.std.specs.Int.{w16, w64, to_be_bytes}
use Rattle.std.specs.Str.{is_utf8}
use Rattle.std.proofs.lemmas.Bool.{le-ltb}
use Rattle.std.proofs.lemmas.Nat.{from_be_bytes-to_be_bytes_2, from_be_bytes-to_be_bytes_8}
use Rattle.std.proofs.Math.Seq.{drop-append_seam, take-append_seam, take-length}
use Rattle.rtc_file_records.specs.declared.file_record.FileRecord.{FileRecord}
use Rattle.rtc_file_records.specs.declared.file_record.FileRecord.TheVariants.{Begin, Piece, End, Resume}
use Rattle.rtc_file_records.specs.Records.{CanBeSent, HasFields, IsRecord, record_bytes, record_in, begin_record_in, piece_record_in, end_record_in, resume_record_in, number_at, name_len, name_in}

-- the part between two others
between : (front part back : List ℕ) → slice_range (front ++ (part ++ back)) (length front) (length front + length part) ≡ part
between front part back =
    let count : length front + length part - length front ≡ length part = omega arith in
    rw (count, drop-append_seam front (part ++ back)) (take-append_seam part back)

-- the last part
ending : (front part : List ℕ) → slice_range (front ++ part) (length front) (length front + length part) ≡ part
ending front part =
    let count : length front + length part - length front ≡ length part = omega arith in
    rw (count, drop-append_seam front part) (take-length part)

ending_at : (front part whole : List ℕ) (at count : ℕ) → whole ≡ front ++ part → length front ≡ at → length part ≡ count → slice_range whole at (at + count) ≡ part
ending_at front part whole at count split place size = rw (split, ← place, ← size) (ending front part)

-- a Begin is read by its length, the length of its name, and its name
begin_read : (bytes name : List ℕ) (total : ℕ) → length bytes ≡ 11 + length name → name_len bytes ≡ length name → name_in bytes ≡ name → number_at bytes (3 + name_len bytes) ≡ total → is_utf8 name ≡ true → begin_record_in bytes ≡ Some (Begin name total)
unfolding begin_record_in
begin_read bytes name total all named name_is total_is text =
    let long : (nat_lt (length bytes) 11) ≡ false = le-ltb (length bytes) 11 (omega arith) in
    let same : (length bytes == 3 + name_len bytes + 8) ≡ true = eq-eqb (length bytes) (3 + name_len bytes + 8) (omega arith) in
    rw (long, same, name_is, text, total_is) refl

pub begin_back : (name : List ℕ) (total : ℕ) → length name ≤ 65535 → is_utf8 name ≡ true → total < 2 ^ 64 → record_in (record_bytes (Begin name total)) ≡ Some (Begin name total)
unfolding record_bytes record_in
begin_back name total few text small =
    let front : List ℕ = 1 ∷ to_be_bytes w16 (length name) in
    let bytes : List ℕ = front ++ (name ++ to_be_bytes w64 total) in
    let named : name_len bytes ≡ length name = from_be_bytes-to_be_bytes_2 (length name) (omega arith) in
    let all : length bytes ≡ 11 + length name = omega (arith, length-append name (to_be_bytes w64 total)) in
    let name_is : name_in bytes ≡ name = rw named (between front name (to_be_bytes w64 total)) in
    let last_is : slice_range bytes (3 + length name) (3 + length name + 8) ≡ to_be_bytes w64 total = ending_at (front ++ name) (to_be_bytes w64 total) bytes (3 + length name) 8 refl (omega arith) refl in
    let total_is : number_at bytes (3 + name_len bytes) ≡ total = rw (named, last_is) (from_be_bytes-to_be_bytes_8 total small) in
    begin_read bytes name total all named name_is total_is text

pub piece_back : (offset : ℕ) (bytes : List ℕ) → 0 < length bytes → length bytes ≤ 16384 → offset < 2 ^ 64 → record_in (record_bytes (Piece offset bytes)) ≡ Some (Piece offset bytes)
unfolding record_bytes record_in piece_record_in
piece_back offset bytes some few small =
    let message : List ℕ = 2 ∷ to_be_bytes w64 offset ++ bytes in
    let all : length message ≡ 9 + length bytes = omega arith in
    let long : (nat_lt (length message) 10) ≡ false = le-ltb (length message) 10 (omega arith) in
    let short : (nat_lt (9 + 16384) (length message)) ≡ false = le-ltb (9 + 16384) (length message) (omega arith) in
    rw (long, short) (ap (λ n. Some (Piece n bytes)) (from_be_bytes-to_be_bytes_8 offset small))

pub end_back : (total : ℕ) (digest : List ℕ) → length digest ≡ 32 → total < 2 ^ 64 → record_in (record_bytes (End total digest)) ≡ Some (End total digest)
unfolding record_bytes record_in end_record_in
end_back total digest size small =
    let message : List ℕ = 3 ∷ to_be_bytes w64 total ++ digest in
    let same : (length message == 41) ≡ true = eq-eqb (length message) 41 (omega arith) in
    rw same (ap (λ n. Some (End n digest)) (from_be_bytes-to_be_bytes_8 total small))

pub resume_back : (offset : ℕ) → offset < 2 ^ 64 → record_in (record_bytes (Resume offset)) ≡ Some (Resume offset)
unfolding record_bytes record_in resume_record_in
resume_back offset small = ap (λ n. Some (Resume n)) (from_be_bytes-to_be_bytes_8 offset small)

-- what is written of a record is read as that record
pub written_record_reads_back : (made : FileRecord) → CanBeSent made → HasFields made → record_in (record_bytes made) ≡ Some made
written_record_reads_back (Begin name total) can has = begin_back name total can has.0 has.1
written_record_reads_back (Piece offset bytes) can has = piece_back offset bytes can.0 can.1 has
written_record_reads_back (End total digest) can has = end_back total digest has.1 has.0
written_record_reads_back (Resume offset) can has = resume_back offset has

-- bytes that are a record are read as that record
pub record_is_read : (bytes : List ℕ) (made : FileRecord) → IsRecord bytes made → record_in bytes ≡ Some made
record_is_read bytes made is = ap record_in is.written ∙ written_record_reads_back made is.sent is.fields
