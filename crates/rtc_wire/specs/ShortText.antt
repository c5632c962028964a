-- How a short text lies in its array.
use Rattle.std.specs.Prelude.{◌≡◌, ◌≤◌, take, true}
use Rattle.std.specs.Str.{is_utf8}
use Rattle.rtc_wire.specs.declared.short_text.ShortText.TheInside.{Inside}

-- its bytes are at the front, and are UTF-8
pub record IsInside (inside : Inside) : Type 0 where
  pub most : inside.len ≤ 38
  pub text : is_utf8 (take inside.len inside.bytes) ≡ true
