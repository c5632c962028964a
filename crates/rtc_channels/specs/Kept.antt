-- How a handler keeps channels: numbers with their streams, and beside them what else is kept of each.
use Rattle.std.specs.Prelude.{◌≡◌, ◌+◌, ◌<◌, ◌≤◌, ◌==◌, slice_index_or, ℕ, true, List, [], ◌∷◌, length, if◌then◌else◌, Option, Some, None}
use Rattle.rtc_wire.specs.declared.channel_config.ChannelConfig.{ChannelConfig}
use Rattle.rtc_channels.specs.declared.kept.Kept.{Kept}
use Rattle.rtc_channels.specs.Channels.{Channel, AreRising, AreBelow}

-- the channels of rows and of what is kept beside them
abbrev pub channels_of : List (ℕ × Option ℕ) → List Kept → List Channel
channels_of [] kept = []
channels_of (row ∷ rows) [] = []
channels_of (row ∷ rows) (own ∷ kept) =
    record { id = row.0; stream = row.1; negotiated = own.negotiated; config = own.config; confirmed = own.confirmed }
    ∷ channels_of rows kept

-- as many of both, with rising numbers below those not given yet
pub record ArePaired (given : ℕ) (rows : List (ℕ × Option ℕ)) (kept : List Kept) : Type 0 where
  pub same : length rows ≡ length kept
  pub rising : AreRising 0 (channels_of rows kept)
  pub below : AreBelow given (channels_of rows kept)

-- the place of the row of a channel, the rows being at places from this one on
abbrev pub place_of_channel : ℕ → ℕ → List (ℕ × Option ℕ) → Option ℕ
place_of_channel place id [] = None
place_of_channel place id (row ∷ rows) = if row.0 == id then Some place else place_of_channel (place + 1) id rows

-- numbers rise from each row to those behind it
abbrev pub AreAscending : List (ℕ × Option ℕ) → Type 0
AreAscending rows = (i j : ℕ) (d : ℕ × Option ℕ) → i < j → j < length rows → (slice_index_or rows i d).0 < (slice_index_or rows j d).0

-- the rows before a place have lesser numbers, and those from it on have none that is less
pub record IsLowerBound (id : ℕ) (rows : List (ℕ × Option ℕ)) (place : ℕ) : Type 0 where
  pub within : place ≤ length rows
  pub before : (k : ℕ) (d : ℕ × Option ℕ) → k < place → (slice_index_or rows k d).0 < id
  pub behind : (k : ℕ) (d : ℕ × Option ℕ) → place ≤ k → k < length rows → id ≤ (slice_index_or rows k d).0

abbrev pub kept_config : ChannelConfig → Kept → Kept
kept_config config own = record own { config = Some config; confirmed = true }

abbrev pub config_taken : Kept → Kept
config_taken own = record own { config = None }
