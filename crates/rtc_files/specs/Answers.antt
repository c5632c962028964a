-- What the program does and returns.
use Rattle.std.specs.Prelude.{◌≡◌, ◌≤◌, ◌<◌, ◌^◌, ◌⊎◌, ℕ, List, length, codes, Option, IfSome}
use Rattle.std.specs.Io.KnownBytes.{Appends, IsAtEnd}
use Rattle.rtc_io.specs.Faults.{Rose}
use Rattle.rtc_io.specs.Saying.{IfTold}
use Rattle.rtc_files.specs.Asking.{AskFor, AskForSessions}
use Rattle.rtc_files.specs.Sessions.{front_sent, EndIsTaken}

abbrev pub files_usage_line : List ℕ
files_usage_line = codes "usage: rtc_files run C C\n"

abbrev pub files_fault_line : List ℕ
files_fault_line = codes "read fault\n"

abbrev pub files_long_line : List ℕ
files_long_line = codes "script too long\n"

-- At most so many bytes were read, to the end of what was left, and they are this file.
pub record ReadsFile (left left' : Option (List ℕ)) (file : List ℕ) : Type 0 where
  pub at_end : IsAtEnd left'
  pub read : IfTold left (λ bytes. (length bytes ≤ 2 ^ 20) × (bytes ≡ file))

-- A file was received whole, with its End, and was written.
pub record WritesWhole (file sizes : List ℕ) (written written' : Option (List ℕ)) : Type 0 where
  pub ended : EndIsTaken file sizes
  pub all : front_sent file sizes ≡ file
  pub told : Appends written written' file

-- No End was received, and the received front of the file was written.
pub record WritesFront (file sizes : List ℕ) (written written' : Option (List ℕ)) : Type 0 where
  pub unended : ¬ (EndIsTaken file sizes)
  pub told : Appends written written' (front_sent file sizes)

-- The words ask for sessions of these sizes, and this file was read to be sent in them.
pub record ReadsToSend (words : List (List ℕ)) (left left' : Option (List ℕ)) (sizes file : List ℕ) : Type 0 where
  pub asked : AskFor words sizes
  pub read : ReadsFile left left' file

-- The file that was read was received whole.
pub record SendsWhole (words : List (List ℕ)) (left left' written written' : Option (List ℕ)) : Type 0 where
  pub sizes : List ℕ
  pub file : List ℕ
  pub reads : ReadsToSend words left left' sizes file
  pub writes : WritesWhole file sizes written written'

-- A front of the file that was read was received.
pub record SendsFront (words : List (List ℕ)) (left left' written written' : Option (List ℕ)) : Type 0 where
  pub sizes : List ℕ
  pub file : List ℕ
  pub reads : ReadsToSend words left left' sizes file
  pub writes : WritesFront file sizes written written'

-- Which text is due, whether the sink takes it or not: the usage if the words ask for no sessions; else the line of the source's fault,
-- that of the length, or what was received.
abbrev pub IsFileDue : List (List ℕ) → Option (List ℕ) → Option (List ℕ) → ℕ → ℕ → List ℕ → Type 0
IsFileDue words left left' faults faults' text =
    ((¬ (AskForSessions words)) × (text ≡ files_usage_line))
    ⊎ (AskForSessions words × Rose faults faults' × (text ≡ files_fault_line))
    ⊎ (AskForSessions words × IfSome left (λ bytes. 2 ^ 20 < length bytes) × (text ≡ files_long_line))
    ⊎ ((sizes : List ℕ) × (file : List ℕ) × ReadsToSend words left left' sizes file × (text ≡ front_sent file sizes))
