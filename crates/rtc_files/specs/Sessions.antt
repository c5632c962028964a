-- What is received in sessions that end early.
use Rattle.std.specs.Prelude.{
  ℕ,
  ◌≡◌,
  ◌+◌,
  ◌-◌,
  ◌*◌,
  ◌≤◌,
  ◌<◌,
  ◌⊎◌,
  true,
  false,
  List,
  length,
  take,
  slice_index,
  slice_get,
  drop,
  IfSome,
  Some,
  [],
  Result,
  Ok,
  Err,
  Bool,
}
use Rattle.std.specs.List.{sum_by}
use Rattle.rtc_file_records.specs.declared.file_record.FileRecord.{FileRecord}
use Rattle.rtc_file_records.specs.declared.file_error.FileError.{FileError}
use Rattle.rtc_file_records.specs.declared.file_error.FileError.TheVariants.{Alloc}
use Rattle.rtc_file_records.specs.Receiving.{ReceivedFile, TakesMessage, refusal_by}
use Rattle.rtc_file_records.specs.Sending.{SentFile, piece_count}

-- how many pieces sessions of these sizes take, if none of them reaches the End: a Begin is before them in each
abbrev pub pieces_taken : List ℕ → ℕ
pieces_taken sizes = sum_by (λ size. size - 1) sizes

-- the front of a file that is received in sessions of these sizes
abbrev pub front_sent : List ℕ → List ℕ → List ℕ
front_sent file sizes = take (16384 * pieces_taken sizes) file

-- how many pieces of it are left then
abbrev pub pieces_left : List ℕ → List ℕ → ℕ
pieces_left file sizes = piece_count (length file - 16384 * pieces_taken sizes)

-- one of the sessions takes a Begin, all pieces that are left as it begins, and the End
abbrev pub EndIsTaken : List ℕ → List ℕ → Type 0
EndIsTaken file sizes = (k : ℕ) × (k < length sizes) × (2 + pieces_left file (take k sizes) ≤ slice_index sizes k)

-- a receiver that has a front of the file of this sender, and no more
pub record CanGoOn (sender : SentFile) (receiver : ReceivedFile) : Type 0 where
  pub announced : IfSome receiver.announced (λ announced. (announced.name ≡ sender.name) × (announced.total ≡ length sender.file))
  pub held : receiver.held ≡ take (length receiver.held) sender.file

-- One record is passed on, if one is left.
abbrev pub SendsRecord : Result Bool FileError → SentFile → ReceivedFile → SentFile → ReceivedFile → Type 0
SendsRecord (Ok true) sender receiver sender' receiver' =
    (made : FileRecord) × (ended : Bool) × (slice_get sender.left 0 ≡ Some made) × (sender' ≡ record sender { left = drop 1 sender.left })
    × TakesMessage (Ok ended) receiver (Some made) receiver'
SendsRecord (Ok false) sender receiver sender' receiver' = (sender.left ≡ []) × (sender' ≡ sender) × (receiver' ≡ receiver)
SendsRecord (Err why) sender receiver sender' receiver' =
    (why ≡ Alloc) ⊎ ((made : FileRecord) × (slice_get sender.left 0 ≡ Some made) × (refusal_by receiver (Some made) ≡ Some why))

-- what a session of a size leaves that started with so many bytes held
pub record HoldsSession (file : List ℕ) (start size : ℕ) (receiver : ReceivedFile) : Type 0 where
  pub held : receiver.held ≡ take (start + 16384 * (size - 1)) file
  pub ended : ((receiver.whole ≡ true) × (2 + piece_count (length file - start) ≤ size) × (receiver.held ≡ file))
      ⊎ ((receiver.whole ≡ false) × (size < 2 + piece_count (length file - start)))
