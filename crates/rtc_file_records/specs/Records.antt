-- The records of a file, one a message: their bytes, and the record that bytes are. Numbers are big-endian.
use Rattle.std.specs.Prelude.{
  ℕ,
  ◌≡◌,
  ◌+◌,
  ◌≤◌,
  ◌<◌,
  ◌^◌,
  ◌==◌,
  not,
  nat_lt,
  if◌then◌else◌,
  true,
  List,
  ◌∷◌,
  ◌++◌,
  length,
  drop,
  slice_index,
  slice_range,
  Option,
  Some,
  None,
}
use Rattle.std.specs.Int.{w16, w64, to_be_bytes, from_be_bytes}
use Rattle.std.specs.Str.{is_utf8}
use Rattle.rtc_file_records.specs.declared.file_record.FileRecord.{FileRecord}
use Rattle.rtc_file_records.specs.declared.file_record.FileRecord.TheVariants.{Begin, Piece, End, Resume}

-- the bytes of a record
unfoldable pub record_bytes : FileRecord → List ℕ
record_bytes (Begin name total) = 1 ∷ to_be_bytes w16 (length name) ++ name ++ to_be_bytes w64 total
record_bytes (Piece offset bytes) = 2 ∷ to_be_bytes w64 offset ++ bytes
record_bytes (End total digest) = 3 ∷ to_be_bytes w64 total ++ digest
record_bytes (Resume offset) = 4 ∷ to_be_bytes w64 offset

-- a name has at most 65535 bytes, and a piece 1 to 16384
abbrev pub CanBeSent : FileRecord → Type 0
CanBeSent (Begin name total) = length name ≤ 65535
CanBeSent (Piece offset bytes) = (0 < length bytes) × (length bytes ≤ 16384)
CanBeSent (End total digest) = Unit {0}
CanBeSent (Resume offset) = Unit {0}

-- names are UTF-8, numbers fit 8 bytes, and a digest has 32
abbrev pub HasFields : FileRecord → Type 0
HasFields (Begin name total) = (is_utf8 name ≡ true) × (total < 2 ^ 64)
HasFields (Piece offset bytes) = offset < 2 ^ 64
HasFields (End total digest) = (total < 2 ^ 64) × (length digest ≡ 32)
HasFields (Resume offset) = offset < 2 ^ 64

-- these bytes are this record, and nothing else is
pub record IsRecord (bytes : List ℕ) (made : FileRecord) : Type 0 where
  pub written : bytes ≡ record_bytes made
  pub sent : CanBeSent made
  pub fields : HasFields made

-- the number in 8 bytes from a place on
abbrev pub number_at : List ℕ → ℕ → ℕ
number_at bytes at = from_be_bytes w64 (slice_range bytes at (at + 8))

abbrev pub name_len : List ℕ → ℕ
name_len bytes = from_be_bytes w16 (slice_range bytes 1 3)

abbrev pub name_in : List ℕ → List ℕ
name_in bytes = slice_range bytes 3 (3 + name_len bytes)

-- the record of each kind that bytes are, by their length
unfoldable pub begin_record_in : List ℕ → Option FileRecord
begin_record_in bytes =
    if nat_lt (length bytes) 11 then None
    else if not (length bytes == 3 + name_len bytes + 8) then None
    else if is_utf8 (name_in bytes) then Some (Begin (name_in bytes) (number_at bytes (3 + name_len bytes)))
    else None

unfoldable pub piece_record_in : List ℕ → Option FileRecord
piece_record_in bytes =
    if nat_lt (length bytes) 10 then None
    else if nat_lt (9 + 16384) (length bytes) then None
    else Some (Piece (number_at bytes 1) (drop 9 bytes))

unfoldable pub end_record_in : List ℕ → Option FileRecord
end_record_in bytes = if length bytes == 41 then Some (End (number_at bytes 1) (drop 9 bytes)) else None

unfoldable pub resume_record_in : List ℕ → Option FileRecord
resume_record_in bytes = if length bytes == 9 then Some (Resume (number_at bytes 1)) else None

-- the record that bytes are, by their first byte
unfoldable pub record_in : List ℕ → Option FileRecord
record_in bytes =
    if slice_index bytes 0 == 1 then begin_record_in bytes
    else if slice_index bytes 0 == 2 then piece_record_in bytes
    else if slice_index bytes 0 == 3 then end_record_in bytes
    else if slice_index bytes 0 == 4 then resume_record_in bytes
    else None
