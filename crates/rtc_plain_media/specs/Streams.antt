-- Tables of streams: rows in the order in which they were added.
use Rattle.std.specs.Prelude.{ℕ, ◌==◌, ◌&&◌, ◌||◌, not, filter, Bool, true, false, List, [], ◌∷◌, Option, Some, None, if◌then◌else◌}
use Rattle.rtc_sdp_values.specs.declared.ssrc.Ssrc.{Ssrc}
use Rattle.rtc_parts.specs.MediaUpdates.{same_mid}
use Rattle.rtc_plain_media.specs.declared.plain_mark.PlainMark.{PlainMark}
use Rattle.rtc_plain_media.specs.declared.stream_row.StreamRow.{StreamRow}

abbrev pub Streams : Type 0
Streams = List StreamRow

-- a row is that of an SSRC
abbrev pub has_ssrc : Ssrc → StreamRow → Bool
has_ssrc ssrc row = row.ssrc.0 == ssrc.0

-- two layers are the same, by their bytes
abbrev pub same_rid : Option (List ℕ) → Option (List ℕ) → Bool
same_rid None None = true
same_rid None (Some b) = false
same_rid (Some a) None = false
same_rid (Some a) (Some b) = same_mid a b

-- a row is of a line and a layer
abbrev pub has_name : List ℕ → Option (List ℕ) → StreamRow → Bool
has_name mid rid row = same_mid row.mid mid && same_rid row.rid rid

abbrev pub is_of_line : List ℕ → StreamRow → Bool
is_of_line mid row = same_mid row.mid mid

abbrev pub is_ssrc : Option Ssrc → Ssrc → Bool
is_ssrc None ssrc = false
is_ssrc (Some other) ssrc = other.0 == ssrc.0

-- a stream or its retransmissions have an SSRC
abbrev pub row_uses : Ssrc → StreamRow → Bool
row_uses ssrc row = has_ssrc ssrc row || is_ssrc row.rtx ssrc

-- the mark of a stream that is new, or that got other numbers
abbrev pub new_mark : PlainMark
new_mark = record { count = 0 }

-- a stream as it is made
abbrev pub made_stream_row : Ssrc → Option Ssrc → List ℕ → Option (List ℕ) → StreamRow
made_stream_row ssrc rtx mid rid = record { ssrc = ssrc; rtx = rtx; mid = mid; rid = rid; mark = new_mark }

-- a row in the place of the first of its SSRC, or else as a last one
abbrev pub put_row : StreamRow → Streams → Streams
put_row r [] = r ∷ []
put_row r (x ∷ xs) = if has_ssrc r.ssrc x then r ∷ xs else x ∷ put_row r xs

-- the first row that fits is changed
abbrev pub change_first : (StreamRow → Bool) → (StreamRow → StreamRow) → Streams → Streams
change_first fits change [] = []
change_first fits change (row ∷ rows) = if fits row then change row ∷ rows else row ∷ change_first fits change rows

-- the first row that fits has this mark
abbrev pub marked : (StreamRow → Bool) → PlainMark → Streams → Streams
marked fits mark = change_first fits (λ row. record row { mark = mark })

-- the mark of the first row that fits
abbrev pub held_mark : (StreamRow → Bool) → Streams → Option PlainMark
held_mark fits [] = None
held_mark fits (row ∷ rows) = if fits row then Some row.mark else held_mark fits rows

-- the first row that fits is there and passes a test
abbrev pub first_passes : (StreamRow → Bool) → (StreamRow → Bool) → Streams → Bool
first_passes fits test [] = false
first_passes fits test (row ∷ rows) = if fits row then test row else first_passes fits test rows

-- an RTX SSRC is new to a row that has none, and else if it is another one
abbrev pub are_new : Option Ssrc → Option Ssrc → Bool
are_new None rtx = true
are_new (Some held) rtx = not (is_ssrc rtx held)

-- a row may take an SSRC and an RTX SSRC if both are new to it
abbrev pub row_can_renumber : Ssrc → Option Ssrc → StreamRow → Bool
row_can_renumber ssrc rtx row = if has_ssrc ssrc row then false else are_new row.rtx rtx

-- the first row of a line and a layer may
abbrev pub can_renumber : List ℕ → Option (List ℕ) → Ssrc → Option Ssrc → Streams → Bool
can_renumber mid rid ssrc rtx = first_passes (has_name mid rid) (row_can_renumber ssrc rtx)

-- a row with other numbers and a mark
abbrev pub numbered : Ssrc → Option Ssrc → PlainMark → StreamRow → StreamRow
numbered ssrc rtx mark row = record row { ssrc = ssrc; rtx = rtx; mark = mark }

-- the first row of a line and a layer has these numbers and this mark
abbrev pub renumbered : List ℕ → Option (List ℕ) → Ssrc → Option Ssrc → PlainMark → Streams → Streams
renumbered mid rid ssrc rtx mark = change_first (has_name mid rid) (numbered ssrc rtx mark)

-- the streams of lines that are not gone
abbrev pub without_streams : (List ℕ → Bool) → Streams → Streams
without_streams gone rows = filter (λ row. not (gone row.mid)) rows
