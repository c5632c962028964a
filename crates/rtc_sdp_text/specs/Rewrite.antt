-- A session description, read and written again.
use Rattle.std.specs.Prelude.{◌≡◌, ℕ, List, Result, Ok, Err}
use Rattle.rtc_sdp_values.specs.declared.sdp.Sdp.{Sdp}
use Rattle.rtc_sdp_writer.specs.SessionRows.{written_sdp}
use Rattle.rtc_sdp_text.specs.declared.text_error.TextError.{TextError}
use Rattle.rtc_sdp_text.specs.declared.text_error.TextError.TheVariants.{Line, Alloc}

-- the text is that of the value of a reading, or the line is the one at which the reading refuses; any call that allocates may return
-- `Alloc`
abbrev pub Rewrites : Result (List ℕ) TextError → Result Sdp ℕ → Type 0
Rewrites (Ok text) read = (sdp : Sdp) × (read ≡ Ok sdp) × (text ≡ written_sdp sdp)
Rewrites (Err (Line n)) read = read ≡ Err n
Rewrites (Err Alloc) read = Unit {0}
