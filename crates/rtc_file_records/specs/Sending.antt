-- What a sender of a file sends.
use Rattle.std.specs.Prelude.{ℕ, zero, suc, ◌+◌, ◌-◌, ◌/◌, List, [], ◌∷◌, ◌++◌, length, take, drop}
use Rattle.sha2.specs.Sha256.{sha256}
use Rattle.rtc_file_records.specs.declared.file_record.FileRecord.{FileRecord}
use Rattle.rtc_file_records.specs.declared.file_record.FileRecord.TheVariants.{Begin, Piece, End}

-- how many pieces so many bytes make: each has 16384, but for the last
unfoldable pub piece_count : ℕ → ℕ
piece_count size = (size + 16383) / 16384

-- so many pieces of a file, from a place on
abbrev pub pieces_from : ℕ → ℕ → List ℕ → List FileRecord
pieces_from zero offset file = []
pieces_from (suc more) offset file = Piece offset (take 16384 (drop offset file)) ∷ pieces_from more (offset + 16384) file

-- all pieces from a place on, and the End
abbrev pub rest_from : ℕ → List ℕ → List FileRecord
rest_from offset file = pieces_from (piece_count (length file - offset)) offset file ++ End (length file) (sha256 file) ∷ []

-- the records of a session that starts at a place
abbrev pub session_from : List ℕ → ℕ → List ℕ → List FileRecord
session_from name offset file = Begin name (length file) ∷ rest_from offset file

-- a file as it is sent
pub record SentFile : Type 0 where
  pub name : List ℕ
  pub file : List ℕ
  -- the records that are still to be sent in this session
  pub left : List FileRecord
