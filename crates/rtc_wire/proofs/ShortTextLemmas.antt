-- A short text at the front of zeros.
use Rattle.std.proofs.Common.{◌≡◌, ℕ, ◌≤◌, List, ◌++◌, length, take, refl}
use Rattle.std.proofs.lemmas.List.{take_at}
use Rattle.std.proofs.lemmas.Str.{is_utf8-from_IsUtf8}
use Rattle.std.specs.Str.{IsUtf8}
use Rattle.rtc_wire.specs.ShortText.{IsInside}

pub short_text_fits : (text zeros : List ℕ) → length text ≤ 38 → IsUtf8 text → IsInside (record { len = length text; bytes = text ++ zeros })
short_text_fits text zeros most utf8 =
    let front : take (length text) (text ++ zeros) ≡ text = take_at text zeros (length text) refl in
    record { most = most; text = rw front (is_utf8-from_IsUtf8 text utf8) }
