-- Everything that happens to a receiver, whoever sends to it.
use Rattle.std.specs.Prelude.{ℕ, ◌≡◌, ◌⊎◌, Bool, true, false, List, [], ◌∷◌, Some, Result, Ok}
use Rattle.sha2.specs.Sha256.{sha256}
use Rattle.rtc_file_records.specs.declared.file_record.FileRecord.TheVariants.{End}
use Rattle.rtc_file_records.specs.declared.file_error.FileError.{FileError}
use Rattle.rtc_file_records.specs.Records.{record_in}
use Rattle.rtc_file_records.specs.Receiving.{ReceivedFile, TakesMessage}

pub data ReceiverEvent : Type 0 where
  -- a session begins
  SessionBegins : ReceiverEvent
  -- a message is received and gets this result
  MessageComes : List ℕ → Result Bool FileError → ReceiverEvent

-- what an event makes of a receiver
abbrev pub Receives : ReceiverEvent → ReceivedFile → ReceivedFile → Type 0
Receives SessionBegins old new = new ≡ record old { begun = false }
Receives (MessageComes message answer) old new = TakesMessage answer old (record_in message) new

-- a receiver after all of these events in their order
abbrev pub ReceivesAll : List ReceiverEvent → ReceivedFile → ReceivedFile → Type 0
ReceivesAll [] old new = new ≡ old
ReceivesAll (event ∷ rest) old new = (between : ReceivedFile) × Receives event old between × ReceivesAll rest between new

-- an End with this digest was taken
abbrev pub IsEndTaken : List ℕ → ReceiverEvent → Type 0
IsEndTaken digest SessionBegins = ⊥
IsEndTaken digest (MessageComes message answer) = (answer ≡ Ok true) × ((total : ℕ) × (record_in message ≡ Some (End total digest)))

abbrev pub WasEndTaken : List ℕ → List ReceiverEvent → Type 0
WasEndTaken digest [] = ⊥
WasEndTaken digest (event ∷ rest) = IsEndTaken digest event ⊎ WasEndTaken digest rest

-- A receiver is whole exactly if an End was taken, and then the SHA-256 of what it holds is the digest in it.
pub record IsWholeByEnds (events : List ReceiverEvent) (file : ReceivedFile) : Type 0 where
  pub only : file.whole ≡ true → (digest : List ℕ) × WasEndTaken digest events
  pub then : (digest : List ℕ) → WasEndTaken digest events → (file.whole ≡ true) × (sha256 file.held ≡ digest)
