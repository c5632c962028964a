-- What the program does and returns.
use Rattle.std.specs.Prelude.{◌≡◌, ℕ, Bool, true, false, List, codes, Option, Some, None, Ok, Err, is_err}
use Rattle.std.specs.Io.KnownBytes.{Appends}
use Rattle.rtc_io.specs.Programs.{Program, ReadsInput, RefusesInput, IsDue}
use Rattle.rtc_sdp_values.specs.declared.sdp.Sdp.{Sdp}
use Rattle.rtc_sdp_writer.specs.SessionRows.{written_sdp}
use Rattle.rtc_sdp_text.specs.declared.asking.Asked.{Asked}
use Rattle.rtc_sdp_text.specs.declared.asking.Asked.TheVariants.{Rewrite, Explain}
use Rattle.rtc_sdp_text.specs.Explanation.{bytes_explanation}
use Rattle.rtc_sdp_text.specs.Repair.{bytes_reading}

abbrev pub usage : List ℕ
usage = codes "usage: rtc_sdp_text offer | rtc_sdp_text answer | rtc_sdp_text explain\n"

-- it reads session descriptions, and writes each again
abbrev pub text_program : Program Sdp
text_program = record {
  usage = usage;
  subject = codes "text";
  IsRead = λ bytes sdp. bytes_reading bytes ≡ Ok sdp;
  IsRefusedAt = λ bytes line. bytes_reading bytes ≡ Err line;
  IsAnswer = λ sdp text. text ≡ written_sdp sdp;
}

-- or it writes for all bytes what becomes of their lines
abbrev pub explaining_program : Program (List ℕ)
explaining_program = record {
  usage = usage;
  subject = codes "text";
  IsRead = λ bytes rows. rows ≡ bytes_explanation bytes;
  IsRefusedAt = λ bytes line. ⊥;
  IsAnswer = λ rows text. text ≡ rows;
}

-- What was left is read as a session description, and this was written.
pub record WritesSdp (left left' written written' : Option (List ℕ)) : Type 0 where
  pub sdp : Sdp
  pub read : ReadsInput left left' (λ bytes. bytes_reading bytes ≡ Ok sdp)
  pub told : Appends written written' (written_sdp sdp)

-- What becomes of each line of what was left was written, and it is a session description or a line refuses it.
pub record WritesRows (is_refused : Bool) (left left' written written' : Option (List ℕ)) : Type 0 where
  pub rows : List ℕ
  pub read : ReadsInput left left' (λ bytes. (is_err (bytes_reading bytes) ≡ is_refused) × (rows ≡ bytes_explanation bytes))
  pub told : Appends written written' rows

-- ---- by what was asked for
abbrev pub IsDone : Option Asked → Option (List ℕ) → Option (List ℕ) → Option (List ℕ) → Option (List ℕ) → Type 0
IsDone None left left' written written' = ⊥
IsDone (Some (Rewrite kind)) left left' written written' = WritesSdp left left' written written'
IsDone (Some Explain) left left' written written' = WritesRows false left left' written written'

-- the number of the refused line was written, or the rows of the lines up to it
abbrev pub IsRefusedInput : Option Asked → Option (List ℕ) → Option (List ℕ) → Option (List ℕ) → Option (List ℕ) → Type 0
IsRefusedInput None left left' written written' = ⊥
IsRefusedInput (Some (Rewrite kind)) left left' written written' = RefusesInput text_program left left' written written'
IsRefusedInput (Some Explain) left left' written written' = WritesRows true left left' written written'

-- the text that is due
abbrev pub IsDueText : Option Asked → Option (List ℕ) → Option (List ℕ) → ℕ → ℕ → List ℕ → Type 0
IsDueText None left left' faults faults' text = text ≡ usage
IsDueText (Some (Rewrite kind)) left left' faults faults' text = IsDue text_program ⊥ (Unit {0}) left left' faults faults' text
IsDueText (Some Explain) left left' faults faults' text = IsDue explaining_program ⊥ (Unit {0}) left left' faults faults' text
