-- What was read, said of what a source had left, and what is due of it.
use Rattle.std.proofs.Common.{◌≡◌, ◌≤◌, ◌^◌, ℕ, List, ◌++◌, length, Option, Some, None, sym, ap, ◌∙◌, subst, append-nil, inl, inr}
use Rattle.std.specs.Io.KnownBytes.{Consumes, IsAtEnd}
use Rattle.rtc_io.specs.Saying.{IfTold, BreaksOff}
use Rattle.rtc_io.specs.Programs.{Program, ReadsInput, IsDue, IsDueUnread, long_line, refused_line}

-- a source that is at its end gave all that it had
pub told : (a b : Option (List ℕ)) (bytes : List ℕ) (P : List ℕ → Type 0) → Consumes a b bytes → IsAtEnd b → P bytes → IfTold a P
told None b bytes P p q h = tt
told (Some x) None bytes P p q h = absurd p
told (Some x) (Some y) bytes P p q h = subst P (sym (p ∙ ap (λ (l : List ℕ). bytes ++ l) q ∙ append-nil bytes)) h

-- what holds of the bytes that were read holds of the input
pub reads_input : (a b : Option (List ℕ)) (bytes : List ℕ) (Holds : List ℕ → Type 0) → Consumes a b bytes → IsAtEnd b → length bytes ≤ 2 ^ 20 → Holds bytes → ReadsInput a b Holds
reads_input a b bytes Holds taken ended short holds =
    let P : List ℕ → Type 0 = λ (text : List ℕ). (length text ≤ 2 ^ 20) × Holds text in
    record { at_end = ended; read = told a b bytes P taken ended (short, holds) }

-- a text that is broken off was due, where it was due for a reason that suffices
pub breaks_off_as : (P Q : List ℕ → Type 0) (written written' : Option (List ℕ)) (faults faults' : ℕ) → ((text : List ℕ) → P text → Q text) → BreaksOff P written written' faults faults' → BreaksOff Q written written' faults faults'
breaks_off_as P Q written written' faults faults' due broken = record {
  text = broken.text;
  due = due broken.text broken.due;
  front = broken.front;
  rose = broken.rose;
}

-- the line of an input that could not be read
pub unread_due : {V : Type 0} (program : Program V) (Unasked Asked : Type 0) (a b written written' : Option (List ℕ)) (faults faults' broken broken' : ℕ) → Asked → BreaksOff (IsDueUnread (long_line program.subject) a faults faults') written written' broken broken' → BreaksOff (IsDue program Unasked Asked a b faults faults') written written' broken broken'
unread_due program Unasked Asked a b written written' faults faults' broken broken' asked off =
    let P : List ℕ → Type 0 = IsDueUnread (long_line program.subject) a faults faults' in
    let Q : List ℕ → Type 0 = IsDue program Unasked Asked a b faults faults' in
    breaks_off_as P Q written written' broken broken' (λ text due. inr (asked, inl due)) off

-- the line of a refusal
pub refusal_due : {V : Type 0} (program : Program V) (Unasked Asked : Type 0) (a b written written' : Option (List ℕ)) (faults faults' broken broken' line : ℕ) → Asked → ReadsInput a b (λ (bytes : List ℕ). program.IsRefusedAt bytes line) → BreaksOff (λ text. text ≡ refused_line program.subject line) written written' broken broken' → BreaksOff (IsDue program Unasked Asked a b faults faults') written written' broken broken'
refusal_due program Unasked Asked a b written written' faults faults' broken broken' line asked read off =
    let P : List ℕ → Type 0 = λ (text : List ℕ). text ≡ refused_line program.subject line in
    let Q : List ℕ → Type 0 = IsDue program Unasked Asked a b faults faults' in
    breaks_off_as P Q written written' broken broken' (λ text due. inr (asked, inr (inl (line, read, due)))) off

-- the answer to an input
pub answer_due : {V : Type 0} (program : Program V) (Unasked Asked : Type 0) (a b written written' : Option (List ℕ)) (faults faults' broken broken' : ℕ) (value : V) → Asked → ReadsInput a b (λ (bytes : List ℕ). program.IsRead bytes value) → BreaksOff (program.IsAnswer value) written written' broken broken' → BreaksOff (IsDue program Unasked Asked a b faults faults') written written' broken broken'
answer_due program Unasked Asked a b written written' faults faults' broken broken' value asked read off =
    let P : List ℕ → Type 0 = program.IsAnswer value in
    let Q : List ℕ → Type 0 = IsDue program Unasked Asked a b faults faults' in
    breaks_off_as P Q written written' broken broken' (λ text due. inr (asked, inr (inr (value, read, due)))) off
