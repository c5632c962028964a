-- The text that was due where the sink failed.
use Rattle.std.proofs.Common.{◌≡◌, ◌≤◌, ◌^◌, ◌∙◌, inl, inr, ℕ, Bool, List, length, Option, Ok, refl, arith, sym, subst}
use Rattle.std.specs.Prelude.{is_err}
use Rattle.std.specs.Io.KnownBytes.{Consumes, IsAtEnd}
use Rattle.rtc_io.specs.Saying.{Says, BreaksOff}
use Rattle.rtc_io.specs.Programs.{IsDue}
use Rattle.rtc_io.proofs.Told.{reads_input}
use Rattle.rtc_sdp_values.specs.declared.sdp.Sdp.{Sdp}
use Rattle.rtc_sdp_writer.specs.SessionRows.{written_sdp}
use Rattle.rtc_sdp_text.specs.Answers.{text_program, explaining_program, WritesRows}
use Rattle.rtc_sdp_text.specs.Explanation.{bytes_explanation}
use Rattle.rtc_sdp_text.specs.Repair.{bytes_reading}

-- what was read was to be written, and a front of it was
pub sdp_due : (a b written written' : Option (List ℕ)) (faults faults' broken broken' status : ℕ) (bytes slice sent : List ℕ) (sdp : Sdp) → Consumes a b bytes → IsAtEnd b → length bytes ≤ 2 ^ 20 → slice ≡ bytes → bytes_reading slice ≡ Ok sdp → sent ≡ written_sdp sdp → Says 0 sent written written' broken broken' status → status ≡ 5 → BreaksOff (IsDue text_program ⊥ (Unit {0}) a b faults faults') written written' broken broken'
sdp_due a b written written' faults faults' broken broken' status bytes slice sent sdp taken ended short same reads sent_is (inl whole) failed =
    let apart : 0 ≡ 5 = sym whole.0 ∙ failed in
    absurd (omega (arith, apart))
sdp_due a b written written' faults faults' broken broken' status bytes slice sent sdp taken ended short same reads sent_is (inr off) failed =
    let Holds : List ℕ → Type 0 = λ (text : List ℕ). bytes_reading text ≡ Ok sdp in
    record {
      text = sent;
      due = inr (tt, inr (inr (sdp, reads_input a b bytes Holds taken ended short (subst Holds same reads), sent_is)));
      front = off.2;
      rose = off.1;
    }

-- the rows of the input were to be written, with this status, and a front of them was
pub rows_due : (a b written written' : Option (List ℕ)) (faults faults' broken broken' told status : ℕ) (bytes slice sent : List ℕ) → Consumes a b bytes → IsAtEnd b → length bytes ≤ 2 ^ 20 → slice ≡ bytes → sent ≡ bytes_explanation slice → (told ≡ 5 → ⊥) → Says told sent written written' broken broken' status → status ≡ 5 → BreaksOff (IsDue explaining_program ⊥ (Unit {0}) a b faults faults') written written' broken broken'
rows_due a b written written' faults faults' broken broken' told status bytes slice sent taken ended short same is other (inl whole) failed = absurd (other (sym whole.0 ∙ failed))
rows_due a b written written' faults faults' broken broken' told status bytes slice sent taken ended short same is other (inr off) failed =
    let Holds : List ℕ → Type 0 = λ (text : List ℕ). sent ≡ bytes_explanation text in
    record {
      text = sent;
      due = inr (tt, inr (inr (sent, reads_input a b bytes Holds taken ended short (subst Holds same is), refl)));
      front = off.2;
      rose = off.1;
    }

-- the rows of the input were written, with the status that says so
pub rows_written : (refused : Bool) (a b written written' : Option (List ℕ)) (broken broken' told status : ℕ) (bytes slice sent : List ℕ) → Consumes a b bytes → IsAtEnd b → length bytes ≤ 2 ^ 20 → slice ≡ bytes → is_err (bytes_reading slice) ≡ refused → sent ≡ bytes_explanation slice → (told ≡ 5 → ⊥) → Says told sent written written' broken broken' status → status ≡ told → WritesRows refused a b written written'
rows_written refused a b written written' broken broken' told status bytes slice sent taken ended short same judged is other (inl whole) done =
    let Holds : List ℕ → Type 0 = λ (text : List ℕ). (is_err (bytes_reading text) ≡ refused) × (sent ≡ bytes_explanation text) in
    record { rows = sent; read = reads_input a b bytes Holds taken ended short (subst Holds same (judged, is)); told = whole.1 }
rows_written refused a b written written' broken broken' told status bytes slice sent taken ended short same judged is other (inr off) done =
    absurd (other (sym done ∙ off.0))
