-- How a table of streams keeps their rows.
use Rattle.std.specs.Prelude.{ℕ, ◌≡◌, ◌==◌, Bool, List, Some, position}
use Rattle.rtc_assoc_state.specs.declared.stream_row.StreamRow.{StreamRow}
use Rattle.rtc_assoc_state.specs.declared.places.Places.{Places}
use Rattle.rtc_assoc_state.specs.Streams.{any_at_last_generation}
use Rattle.rtc_assoc_state.specs.Places.{place_at}
pub use Rattle.rtc_assoc_state.specs.Places.{HasPlaceRoom}

-- the place of each row is kept under its stream, and whether a generation is the last
pub record SoundTable (rows : List StreamRow) (places : Places) (at_last : Bool) : Type 0 where
  pub found : (id place : ℕ) → position (λ row. row.stream == id) rows ≡ Some place → place_at places id ≡ Some place
  pub last_is : at_last ≡ any_at_last_generation rows
