-- Which texts are session descriptions.
use Rattle.std.specs.Prelude.{ℕ, Bool, List, is_ok}
use Rattle.rtc_sdp_reader.specs.Reading.{reading}

-- the text is read as a session description in our profile
unfoldable pub is_description : List ℕ → Bool
is_description text = is_ok (reading text)
