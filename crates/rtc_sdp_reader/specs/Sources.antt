-- The SSRCs of a media line, from its `ssrc` and `ssrc-group` attributes.
use Rattle.std.specs.Prelude.{ℕ, ◌==◌, eqb, Bool, List, Option, Some, None, if◌then◌else◌}
use Rattle.std.specs.List.{filter_map, list_any}
use Rattle.rtc_wire_text.specs.Fields.{first}
use Rattle.rtc_wire_text.specs.Once.{each_once}
use Rattle.rtc_sdp_values.specs.declared.ssrc.Ssrc.{Ssrc}

-- ---- pairs: an SSRC, and its RTX SSRC; the first pair of an SSRC counts
abbrev pub rtx_for : ℕ → Ssrc × Ssrc → Option Ssrc
rtx_for ssrc pair = if pair.0.0 == ssrc then Some pair.1 else None

abbrev pub rtx_of : List (Ssrc × Ssrc) → ℕ → Option Ssrc
rtx_of pairs ssrc = first (rtx_for ssrc) pairs

-- a pair names the SSRC as an RTX SSRC
abbrev pub is_rtx : List (Ssrc × Ssrc) → ℕ → Bool
is_rtx pairs ssrc = list_any (λ pair. pair.1.0 == ssrc) pairs

-- ---- the SSRCs: those that have a name, in order and each once, without RTX SSRCs
abbrev pub source_named : List (Ssrc × Ssrc) → ℕ → Option (Ssrc × Option Ssrc)
source_named pairs ssrc = if is_rtx pairs ssrc then None else Some (record { 0 = ssrc }, rtx_of pairs ssrc)

unfoldable pub sources : List ℕ → List (Ssrc × Ssrc) → List (Ssrc × Option Ssrc)
sources named pairs = filter_map (source_named pairs) (each_once eqb named)
