-- What a map keeps of streams: the channel that each was given to, and its holds. No public clause cites this file.
use Rattle.std.specs.Prelude.{◌≡◌, true, ◌+◌, ◌≤◌, ℕ, zero, suc, Bool, List, [], ◌∷◌, length, Option, Some}
use Rattle.std.specs.Prelude.{None, is_some, slice_get, nat_lt, ◌||◌, if◌then◌else◌}
use Rattle.std.specs.BTreeMap.{BTreeMap, get}
use Rattle.std.specs.Ordering.{nat_cmp}
use Rattle.rtc_wire.specs.declared.channel_config.ChannelConfig.{ChannelConfig}
use Rattle.rtc_wire.specs.ChannelConfig.{fits_open_message}
use Rattle.rtc_channels.specs.declared.grants.Grant.{Grant}
use Rattle.rtc_channels.specs.declared.kept.Kept.{Kept}
use Rattle.rtc_channels.specs.Channels.{channel_of_stream}
use Rattle.rtc_channels.specs.Allocation.{AreUnshared}
use Rattle.rtc_channels.specs.Kept.{ArePaired}

abbrev pub grant_owner : Option Grant → Option ℕ
grant_owner None = None
grant_owner (Some grant) = grant.owner

abbrev pub grant_holds : Option Grant → ℕ
grant_holds None = 0
grant_holds (Some grant) = grant.holds

-- the channel that a stream was given to
abbrev pub owner_at : BTreeMap ℕ Grant → ℕ → Option ℕ
owner_at grants stream = grant_owner (get nat_cmp grants stream)

-- how often a stream is held
abbrev pub holds_at : BTreeMap ℕ Grant → ℕ → ℕ
holds_at grants stream = grant_holds (get nat_cmp grants stream)

-- whether a stream cannot be given
abbrev pub is_granted : BTreeMap ℕ Grant → ℕ → Bool
is_granted grants stream = is_some (owner_at grants stream) || nat_lt 0 (holds_at grants stream)

-- the stream for a channel, of these free ones unless it was negotiated out-of-band
abbrev pub stream_of_free : Option ℕ → BTreeMap ℕ Grant → List ℕ → Option ℕ
stream_of_free (Some stream) grants free = if is_granted grants stream then None else Some stream
stream_of_free None grants free = slice_get free 0

-- an entry without its holds
abbrev pub unheld_entry : ℕ × Grant → ℕ × Grant
unheld_entry entry = (entry.0, record entry.1 { holds = 0 })

abbrev pub is_owned_entry : ℕ × Grant → Bool
is_owned_entry entry = is_some entry.1.owner

-- a number so many times, in front of others
abbrev pub repeated : ℕ → ℕ → List ℕ → List ℕ
repeated zero stream rest = rest
repeated (suc count) stream rest = stream ∷ repeated count stream rest

-- so many streams from the first on, each as often as it is held
abbrev pub holds_from : (ℕ → ℕ) → (first count : ℕ) → List ℕ
holds_from holds first zero = []
holds_from holds first (suc count) = repeated (holds first) first (holds_from holds (first + 1) count)

-- every stream as often as it is held
unfoldable pub holds_of : BTreeMap ℕ Grant → List ℕ
holds_of grants = holds_from (holds_at grants) 0 65536

-- a config fits an open message
abbrev pub FitsOpenMessage : Option ChannelConfig → Type 0
FitsOpenMessage None = Unit {0}
FitsOpenMessage (Some config) = fits_open_message config ≡ true

abbrev pub FitOpenMessages : List Kept → Type 0
FitOpenMessages [] = Unit {0}
FitOpenMessages (own ∷ kept) = FitsOpenMessage own.config × FitOpenMessages kept

-- what a handler keeps fits together: each stream of a row is granted to it, and there are no more rows and holds than numbers
pub record AreHandled (given : ℕ) (rows : List (ℕ × Option ℕ)) (kept : List Kept) (grants : BTreeMap ℕ Grant) : Type 0 where
  pub paired : ArePaired given rows kept
  pub owners : (stream : ℕ) → owner_at grants stream ≡ channel_of_stream stream rows
  pub unshared : AreUnshared rows
  pub count : length (holds_of grants) + length rows ≤ given
  pub short : FitOpenMessages kept
