-- Programs that read one input of at most 1,048,576 bytes and write one text: what is due on each way, whether the sink takes it or not.
use Rattle.std.specs.Prelude.{◌≡◌, ◌<◌, ◌≤◌, ◌^◌, ◌⊎◌, ℕ, List, ◌++◌, length, codes, Option, IfSome}
use Rattle.std.specs.Fmt.{decimal}
use Rattle.std.specs.Io.KnownBytes.{Appends, IsAtEnd}
use Rattle.rtc_io.specs.Faults.{Rose}
use Rattle.rtc_io.specs.Saying.{IfTold}

-- the line of a source that failed
abbrev pub fault_line : List ℕ
fault_line = codes "read fault\n"

-- the line of an input that is too long; its subject says what the program reads, as "script"
abbrev pub long_line : List ℕ → List ℕ
long_line subject = subject ++ codes " too long\n"

-- the line of an input that is refused at a line
abbrev pub refused_line : List ℕ → ℕ → List ℕ
refused_line subject line = subject ++ (codes " refused at line " ++ decimal line ++ codes "\n")

-- A program by its texts: it reads bytes as values, refuses the others at a line, and writes a text for each value.
pub record Program (V : Type 0) : Type 1 where
  pub usage : List ℕ
  pub subject : List ℕ
  pub IsRead : List ℕ → V → Type 0
  pub IsRefusedAt : List ℕ → ℕ → Type 0
  pub IsAnswer : V → List ℕ → Type 0

-- more bytes are left than a program reads
abbrev pub IsTooLong : Option (List ℕ) → Type 0
IsTooLong left = IfSome left (λ bytes. 2 ^ 20 < length bytes)

-- The input was read to its end, was not too long, and this holds of its bytes.
pub record ReadsInput (left left' : Option (List ℕ)) (Holds : List ℕ → Type 0) : Type 0 where
  pub at_end : IsAtEnd left'
  pub read : IfTold left (λ bytes. (length bytes ≤ 2 ^ 20) × Holds bytes)

-- The input was read, is refused at a line, and the number of this line was written.
pub record RefusesInput {V : Type 0} (program : Program V) (left left' written written' : Option (List ℕ)) : Type 0 where
  pub line : ℕ
  pub read : ReadsInput left left' (λ bytes. program.IsRefusedAt bytes line)
  pub told : Appends written written' (refused_line program.subject line)

-- the line that is due if the input could not be read: the one of the source's fault, or the one of the length
abbrev pub IsDueUnread : List ℕ → Option (List ℕ) → ℕ → ℕ → List ℕ → Type 0
IsDueUnread long left faults faults' text = (Rose faults faults' × (text ≡ fault_line)) ⊎ (IsTooLong left × (text ≡ long))

-- the text that is due: the usage if the words ask for nothing that the program does; else the line of an input that could not be read, the
-- line of the refusal, or the text of the value
abbrev pub IsDue : {V : Type 0} → Program V → (Unasked Asked : Type 0) → Option (List ℕ) → Option (List ℕ) → ℕ → ℕ → List ℕ → Type 0
IsDue {V} program Unasked Asked left left' faults faults' text =
    (Unasked × (text ≡ program.usage))
    ⊎ (Asked × (
    IsDueUnread (long_line program.subject) left faults faults' text
    ⊎ ((line : ℕ) × ReadsInput left left' (λ bytes. program.IsRefusedAt bytes line) × (text ≡ refused_line program.subject line))
    ⊎ ((value : V) × ReadsInput left left' (λ bytes. program.IsRead bytes value) × program.IsAnswer value text)))
