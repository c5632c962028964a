-- How often each SSRC is among those of lines, so that one in use is found without a walk over the lines.
use Rattle.std.specs.Prelude.{◌≡◌, ◌==◌, ◌+◌, ◌*◌, ◌^◌, ◌≤◌, ◌<◌, nat_eq, filter, ℕ, Bool}
use Rattle.std.specs.Prelude.{List, [], ◌∷◌, Option, Some, None, length, if◌then◌else◌}
use Rattle.std.specs.Map.{count_at}
use Rattle.indexmap.specs.IndexMap.{IndexMap, get, spare}
use Rattle.rtc_sdp_values.specs.declared.ssrc.Ssrc.{Ssrc}
use Rattle.rtc_parts.specs.declared.media_update.MediaUpdate.{MediaUpdate}
use Rattle.rtc_plain_media.specs.declared.held_line.HeldLine.{HeldLine}
use Rattle.rtc_plain_media.specs.Lines.{Lines}

-- 1 if two numbers are the same
abbrev pub same_once : ℕ → ℕ → ℕ
same_once number other = if other == number then 1 else 0

abbrev pub ssrc_count : ℕ → Option Ssrc → ℕ
ssrc_count number None = 0
ssrc_count number (Some ssrc) = same_once number ssrc.0

-- how often a number is that of an SSRC or of its RTX SSRC
abbrev pub source_count : ℕ → Ssrc × Option Ssrc → ℕ
source_count number source = same_once number source.0.0 + ssrc_count number source.1

abbrev pub sources_count : ℕ → List (Ssrc × Option Ssrc) → ℕ
sources_count number [] = 0
sources_count number (source ∷ sources) = source_count number source + sources_count number sources

abbrev pub update_count : ℕ → MediaUpdate → ℕ
update_count number update = sources_count number update.ssrcs_tx + sources_count number update.ssrcs_rx

abbrev pub lines_count : ℕ → Lines → ℕ
lines_count number [] = 0
lines_count number (e ∷ es) = update_count number e.1.update + lines_count number es

-- of the line that is held, if one is
abbrev pub held_count : ℕ → Option HeldLine → ℕ
held_count number None = 0
held_count number (Some line) = update_count number line.update

-- of the lines that are gone
abbrev pub gone_count : ℕ → (List ℕ → Bool) → Lines → ℕ
gone_count number gone lines = lines_count number (filter (λ e. gone e.0.mid) lines)

-- how many numbers an update can have at most
abbrev pub update_numbers : MediaUpdate → ℕ
update_numbers update = 2 * length update.ssrcs_tx + 2 * length update.ssrcs_rx

abbrev pub updates_numbers : List MediaUpdate → ℕ
updates_numbers [] = 0
updates_numbers (u ∷ us) = update_numbers u + updates_numbers us

-- what a map of counts has for a number
abbrev pub count_for : {S : Type 0} → IndexMap ℕ ℕ S → ℕ → ℕ
count_for counts number = count_at (get nat_eq counts) number

-- the counts are those of the lines
abbrev pub CountsLines : {S : Type 0} → IndexMap ℕ ℕ S → Lines → Type 0
CountsLines counts lines = (number : ℕ) → count_for counts number ≡ lines_count number lines

-- no count grew
abbrev pub CountsLess : {S : Type 0} → IndexMap ℕ ℕ S → IndexMap ℕ ℕ S → Type 0
CountsLess old new = (number : ℕ) → count_for new number ≤ count_for old number

-- what a part keeps of its counts: room for the SSRCs of what is prepared, a bound that no count will pass, and that they are those of the
-- lines
pub record KeepsCounts {S : Type 0} (counts : IndexMap ℕ ℕ S) (most : ℕ) (pending : List MediaUpdate) (lines : Lines) : Type 0 where
  pub room : updates_numbers pending ≤ spare counts
  pub bounded : most < 2 ^ 64
  pub fits : (number : ℕ) → count_for counts number + updates_numbers pending ≤ most
  pub exact : CountsLines counts lines
