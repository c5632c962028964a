-- What a receiver of a file makes of a message: the causes of its refusals in their order, and what a message leaves.
use Rattle.std.specs.Prelude.{
  ℕ,
  ◌≡◌,
  ◌+◌,
  ◌==◌,
  ◌&&◌,
  ◌||◌,
  ◌⊎◌,
  not,
  nat_lt,
  Bool,
  true,
  false,
  List,
  [],
  ◌∷◌,
  ◌++◌,
  length,
  Option,
  Some,
  None,
  Result,
  Ok,
  Err,
}
use Rattle.std.specs.Option.{option_or}
use Rattle.std.specs.Str.{bytes_eq}
use Rattle.sha2.specs.Sha256.{sha256}
use Rattle.rtc_file_records.specs.declared.announced.Announced.{Announced}
use Rattle.rtc_file_records.specs.declared.file_record.FileRecord.{FileRecord}
use Rattle.rtc_file_records.specs.declared.file_record.FileRecord.TheVariants.{Begin, Piece, End, Resume}
use Rattle.rtc_file_records.specs.declared.file_error.FileError.{FileError}
use Rattle.rtc_file_records.specs.declared.file_error.FileError.TheVariants.{BadRecord, Order, OtherFile, Gap}
use Rattle.rtc_file_records.specs.declared.file_error.FileError.TheVariants.{TooMuch, Short, Mismatch, Alloc}

-- a file as it is received
pub record ReceivedFile : Type 0 where
  -- what the first Begin announced
  pub announced : Option Announced
  -- whether a Begin was received in this session
  pub begun : Bool
  -- the received bytes
  pub held : List ℕ
  -- whether an End was taken
  pub whole : Bool

abbrev pub nothing_received : ReceivedFile
nothing_received = record { announced = None; begun = false; held = []; whole = false }

abbrev pub is_announced : Announced → List ℕ → ℕ → Bool
is_announced announced name total = bytes_eq announced.name name && announced.total == total

-- a cause, if it holds
abbrev pub cause_if : Bool → FileError → Option FileError
cause_if true why = Some why
cause_if false why = None

-- The file is whole, or a Begin is received again in its session, or another record before it; a receiver never gets a Resume.
abbrev pub is_out_of_order : ReceivedFile → FileRecord → Bool
is_out_of_order file (Begin name total) = file.whole || file.begun
is_out_of_order file (Piece offset bytes) = file.whole || not file.begun
is_out_of_order file (End total digest) = file.whole || not file.begun
is_out_of_order file (Resume offset) = true

-- another name or total than the announced ones
abbrev pub is_other : Option Announced → FileRecord → Bool
is_other None made = false
is_other (Some announced) (Begin name total) = not (is_announced announced name total)
is_other (Some announced) (Piece offset bytes) = false
is_other (Some announced) (End total digest) = not (announced.total == total)
is_other (Some announced) (Resume offset) = false

-- a piece that does not begin behind what is held
abbrev pub gap : List ℕ → FileRecord → Option FileError
gap held (Begin name total) = None
gap held (Piece offset bytes) = cause_if (not (offset == length held)) (Gap (length held) offset)
gap held (End total digest) = None
gap held (Resume offset) = None

-- a piece that passes the total
abbrev pub too_much : Option Announced → List ℕ → FileRecord → Option FileError
too_much None held made = None
too_much (Some announced) held (Begin name total) = None
too_much (Some announced) held (Piece offset bytes) =
    cause_if (nat_lt announced.total (length held + length bytes)) (TooMuch announced.total (length held + length bytes))
too_much (Some announced) held (End total digest) = None
too_much (Some announced) held (Resume offset) = None

-- an End with fewer bytes held
abbrev pub short : List ℕ → FileRecord → Option FileError
short held (Begin name total) = None
short held (Piece offset bytes) = None
short held (End total digest) = cause_if (nat_lt (length held) total) (Short total (length held))
short held (Resume offset) = None

-- an End whose digest is not that of what is held
abbrev pub mismatch : List ℕ → FileRecord → Option FileError
mismatch held (Begin name total) = None
mismatch held (Piece offset bytes) = None
mismatch held (End total digest) = cause_if (not (bytes_eq digest (sha256 held))) (Mismatch (sha256 held) digest)
mismatch held (Resume offset) = None

-- the first of several causes that holds
abbrev pub first_file_error : List (Option FileError) → Option FileError
first_file_error [] = None
first_file_error (cause ∷ rest) = option_or cause (first_file_error rest)

-- why a message is refused, by the record that it is
abbrev pub refusal_by : ReceivedFile → Option FileRecord → Option FileError
refusal_by file None = Some BadRecord
refusal_by file (Some made) = first_file_error (
    cause_if (is_out_of_order file made) Order
    ∷ cause_if (is_other file.announced made) OtherFile
    ∷ gap file.held made
    ∷ too_much file.announced file.held made
    ∷ short file.held made
    ∷ mismatch file.held made
    ∷ [])

-- what a record leaves that is not refused
abbrev pub with_record : ReceivedFile → FileRecord → ReceivedFile
with_record file (Begin name total) = record file { announced = Some (record { name = name; total = total }); begun = true }
with_record file (Piece offset bytes) = record file { held = file.held ++ bytes }
with_record file (End total digest) = record file { whole = true }
with_record file (Resume offset) = file

abbrev pub is_end : FileRecord → Bool
is_end (Begin name total) = false
is_end (Piece offset bytes) = false
is_end (End total digest) = true
is_end (Resume offset) = false

-- A result for a message: a record that has no cause against it is taken, or memory runs out; a refusal changes nothing.
abbrev pub TakesMessage : Result Bool FileError → ReceivedFile → Option FileRecord → ReceivedFile → Type 0
TakesMessage (Ok ended) old None new = ⊥
TakesMessage (Ok ended) old (Some made) new = (refusal_by old (Some made) ≡ None) × (ended ≡ is_end made) × (new ≡ with_record old made)
TakesMessage (Err why) old read new = (new ≡ old) × ((refusal_by old read ≡ Some why) ⊎ ((refusal_by old read ≡ None) × (why ≡ Alloc)))
