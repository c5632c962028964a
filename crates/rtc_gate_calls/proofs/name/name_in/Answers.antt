use Rattle.std.proofs.Common.{◌≡◌, ℕ, Bool, true, false, List, Some, None, cond, refl}
use Rattle.std.specs.Str.{IsUtf8}
use Rattle.rtc_wire_text.specs.Tokens.{is_short_token}
use Rattle.rtc_wire_text.proofs.TokenLemmas.{token_bytes_utf8, short_token_bytes}
use Rattle.rtc_gate_calls.proofs.name.name_in.Goals as goal

-- what is no text is no name
no_name : (bytes : List ℕ) → ¬ (IsUtf8 bytes) → (test : Bool) → is_short_token bytes ≡ test → None ≡ cond test (Some bytes) None
no_name bytes broken true passed = absurd (broken (token_bytes_utf8 bytes (short_token_bytes bytes passed)))
no_name bytes broken false _ = refl

pub returns-in-Err : goal.returns-in-Err
returns-in-Err c = no_name c.args.bytes.now c.in-Err.ensures.cases.0 (is_short_token c.args.bytes.now) refl
