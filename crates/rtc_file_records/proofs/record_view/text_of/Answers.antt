use Rattle.std.proofs.Common.{ℕ, ◌≡◌, List, Bool, true, false, refl}
use Rattle.std.specs.Str.{IsUtf8, is_utf8}
use Rattle.std.proofs.lemmas.Str.{IsUtf8-from_is_utf8, is_utf8-from_IsUtf8}
use Rattle.rtc_file_records.proofs.record_view.text_of.Goals as goal

-- the test fails where the fact does
refuted : (bytes : List ℕ) → ¬ (IsUtf8 bytes) → (test : Bool) → is_utf8 bytes ≡ test → test ≡ false
refuted bytes broken true passed = absurd (broken (IsUtf8-from_is_utf8 bytes passed))
refuted bytes broken false _ = refl

pub returns-in-Ok : goal.returns-in-Ok
returns-in-Ok c = (is_utf8-from_IsUtf8 c.args.bytes.now c.in-Ok.ensures.cases.1, c.in-Ok.ensures.cases.0)

pub returns-in-Err : goal.returns-in-Err
returns-in-Err c = refuted c.args.bytes.now c.in-Err.ensures.cases.0 (is_utf8 c.args.bytes.now) refl
