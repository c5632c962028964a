-- The bytes of a text, wherever they lie.
use Rattle.std.specs.Prelude.{ℕ, List, string_bytes}
use Rattle.rtc_wire.specs.declared.text.Kept.{Kept}
use Rattle.rtc_wire.specs.declared.text.Kept.TheVariants.{Short, Long}

abbrev pub kept_bytes : Kept → List ℕ
kept_bytes (Short text) = text
kept_bytes (Long text) = string_bytes text
