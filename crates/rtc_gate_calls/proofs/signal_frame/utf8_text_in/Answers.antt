use Rattle.std.proofs.Common.{ℕ, ◌≡◌, ◌∙◌, List, Bool, true, false, Some, None, cond, refl, sym, ap}
use Rattle.std.specs.Str.{IsUtf8, is_utf8}
use Rattle.std.proofs.lemmas.Str.{IsUtf8-from_is_utf8, is_utf8-from_IsUtf8}
use Rattle.rtc_gate_calls.proofs.signal_frame.utf8_text_in.Goals as goal

-- the test fails where the fact does
refuted : (bytes : List ℕ) → ¬ (IsUtf8 bytes) → (test : Bool) → is_utf8 bytes ≡ test → None ≡ cond test (Some bytes) None
refuted bytes broken true passed = absurd (broken (IsUtf8-from_is_utf8 bytes passed))
refuted bytes broken false _ = refl

pub returns-in-Ok : goal.returns-in-Ok
returns-in-Ok c =
    let holds : is_utf8 c.args.bytes.now ≡ true = is_utf8-from_IsUtf8 c.args.bytes.now c.in-Ok.ensures.cases.1 in
    ap Some c.in-Ok.ensures.cases.0 ∙ sym (ap (λ (b : Bool). cond b (Some c.args.bytes.now) None) holds)

pub returns-in-Err : goal.returns-in-Err
returns-in-Err c = refuted c.args.bytes.now c.in-Err.ensures.cases.0 (is_utf8 c.args.bytes.now) refl
