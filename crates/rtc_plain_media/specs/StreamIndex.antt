-- Streams that are found without a walk over them: by SSRC, by line and layer, and by each number that one has.
use Rattle.std.specs.Prelude.{◌≡◌, ◌==◌, ◌&&◌, ◌+◌, ◌*◌, ◌≤◌, nat_eq, ℕ, Bool, List, Option, Some, None, length, if◌then◌else◌}
use Rattle.std.specs.List.{list_any, position_from}
use Rattle.std.specs.Option.{option_eq}
use Rattle.indexmap.specs.IndexMap.{IndexMap, get, spare, index_map_len}
use Rattle.indexmap.specs.IndexSet as set
use Rattle.rtc_parts.specs.MediaUpdates.{same_mid}
use Rattle.rtc_plain_media.specs.declared.stream_row.StreamRow.{StreamRow}
use Rattle.rtc_plain_media.specs.declared.stream_name.LayerKey.{LayerKey}
use Rattle.rtc_plain_media.specs.declared.stream_name.StreamName.{StreamName}
use Rattle.rtc_plain_media.specs.declared.stream_index.StreamIndex.{StreamIndex}
use Rattle.rtc_plain_media.specs.Lines.{same_key}
use Rattle.rtc_plain_media.specs.Streams.{Streams, row_uses}

abbrev pub same_layer : LayerKey → LayerKey → Bool
same_layer a b = same_mid a.rid b.rid

abbrev pub same_name : StreamName → StreamName → Bool
same_name a b = same_key a.line b.line && option_eq same_layer a.layer b.layer

abbrev pub layer_key : Option (List ℕ) → Option LayerKey
layer_key None = None
layer_key (Some rid) = Some (record { rid = rid })

abbrev pub stream_name : List ℕ → Option (List ℕ) → StreamName
stream_name mid rid = record { line = record { mid = mid }; layer = layer_key rid }

-- a row is that of the SSRC with this number
abbrev pub is_numbered : ℕ → StreamRow → Bool
is_numbered number row = row.ssrc.0 == number

-- a row has this name
abbrev pub has_stream_name : StreamName → StreamRow → Bool
has_stream_name name row = same_name (stream_name row.mid row.rid) name

-- a stream or its retransmissions have this number
abbrev pub uses_number : ℕ → StreamRow → Bool
uses_number number row = row_uses (record { 0 = number }) row

-- how many entries there is memory for
abbrev pub room_of : {K X S : Type 0} → IndexMap K X S → ℕ
room_of map = index_map_len map + spare map

abbrev pub room_of_set : {K S : Type 0} → set.IndexSet K S → ℕ
room_of_set keys = set.index_set_len keys + set.spare keys

-- what is there, or else another
abbrev pub or_else : {X : Type 0} → Option X → Option X → Option X
or_else None other = other
or_else (Some x) other = Some x

-- a key that has no place gets this one
abbrev pub PutsPlace : {K S : Type 0} → (K → K → Bool) → K → ℕ → IndexMap K ℕ S → IndexMap K ℕ S → Type 0
PutsPlace {K} eq key at old new = (q : K) → get eq new q ≡ or_else (get eq old q) (if eq key q then Some at else None)

-- one entry more is there at most
abbrev pub UsesRoomOfOne : {K X S : Type 0} → IndexMap K X S → IndexMap K X S → Type 0
UsesRoomOfOne old new = (spare old ≤ spare new + 1) × (room_of old ≤ room_of new)

-- the same entries, and no less room
abbrev pub KeepsEntries : {K X S : Type 0} → IndexMap K X S → IndexMap K X S → Type 0
KeepsEntries old new = (new.entries ≡ old.entries) × (spare old ≤ spare new)

-- the place of the first row of each SSRC, that of the first of each name, and which numbers the rows have
pub record FindsStreams (index : StreamIndex) (rows : Streams) : Type 0 where
  pub places : (number : ℕ) → get nat_eq index.places number ≡ position_from (is_numbered number) 0 rows
  pub names : (name : StreamName) → get same_name index.names name ≡ position_from (has_stream_name name) 0 rows
  pub numbers : (number : ℕ) → set.contains nat_eq index.numbers number ≡ list_any (uses_number number) rows

-- there is memory for so many rows
pub record FitsStreams (index : StreamIndex) (count : ℕ) : Type 0 where
  pub places : count ≤ room_of index.places
  pub names : count ≤ room_of index.names
  pub numbers : 2 * count ≤ room_of_set index.numbers

-- so many more entries fit
pub record HasSpare (index : StreamIndex) (count : ℕ) : Type 0 where
  pub places : count ≤ spare index.places
  pub names : count ≤ spare index.names
  pub numbers : 2 * count ≤ set.spare index.numbers

-- one row was put into an index
pub record UsesRowOf (old new : StreamIndex) : Type 0 where
  pub spare : (count : ℕ) → HasSpare old (count + 1) → HasSpare new count
  pub fits : (count : ℕ) → FitsStreams old count → FitsStreams new count

-- the rows are found, and the index can be made anew without memory
abbrev pub IndexesStreams : StreamIndex → Streams → Type 0
IndexesStreams index rows = FindsStreams index rows × FitsStreams index (length rows)
