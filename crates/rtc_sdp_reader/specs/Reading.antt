-- The reading of a session description: its value, or the number of the first line that refuses it.
use Rattle.std.specs.Prelude.{◌≡◌, ℕ, List, Option, Some, None, Result, Ok, Err}
use Rattle.rtc_sdp_values.specs.declared.sdp.Sdp.{Sdp}
use Rattle.rtc_sdp_values.specs.declared.sdp_error.SdpError.{SdpError}
use Rattle.rtc_sdp_values.specs.declared.sdp_error.SdpError.TheVariants.{Parse, Inconsistent, Alloc}
use Rattle.rtc_sdp_grammar.specs.declared.item.Item.{Item}
use Rattle.rtc_sdp_grammar.specs.ItemForm.{items_of}
use Rattle.rtc_sdp_reader.specs.Refusal.{refused}
use Rattle.rtc_sdp_reader.specs.SessionValue.{sdp_of}

abbrev pub judged : Option ℕ → Sdp → Result Sdp ℕ
judged (Some n) sdp = Err n
judged None sdp = Ok sdp

abbrev pub items_reading : List Item → Result Sdp ℕ
items_reading items = judged (refused items) (sdp_of items)

abbrev pub reading : List ℕ → Result Sdp ℕ
reading text = items_reading (items_of text)

-- the result is what is given, Parse with the number if there is none; or memory ran out
abbrev pub GivesReading : {A : Type 0} → Result A SdpError → Result A ℕ → Type 0
GivesReading (Ok value) given = given ≡ Ok value
GivesReading (Err (Parse n)) given = given ≡ Err n
GivesReading (Err (Inconsistent why)) given = ⊥
GivesReading (Err Alloc) given = Unit {0}

abbrev pub ReadsSdp : Result Sdp SdpError → Result Sdp ℕ → Type 0
ReadsSdp answer read = GivesReading answer read
