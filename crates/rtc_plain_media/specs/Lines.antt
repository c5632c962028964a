-- Lines of the plain media part, and what updates make of them.
use Rattle.std.specs.Prelude.{ℕ, Bool, true, false, not, filter, List, [], ◌∷◌, ◌++◌, Option, Some, None, if◌then◌else◌}
use Rattle.std.specs.Option.{is_some}
use Rattle.std.specs.Map.{lookup}
use Rattle.indexmap.specs.IndexMap.{insert_entry}
use Rattle.rtc_sdp_values.specs.Direction.{same_direction}
use Rattle.rtc_sdp_values.specs.declared.direction.Direction.{Direction}
use Rattle.rtc_sdp_values.specs.declared.line_row.LineRow.{LineRow}
use Rattle.rtc_sdp_values.specs.declared.line_row.LineRow.TheVariants.{Media, App}
use Rattle.rtc_parts.specs.declared.media_update.MediaUpdate.{MediaUpdate}
use Rattle.rtc_parts.specs.MediaUpdates.{same_mid, update_mid}
use Rattle.rtc_plain_media.specs.declared.plain_mark.PlainMark.{PlainMark}
use Rattle.rtc_plain_media.specs.declared.line_key.LineKey.{LineKey}
use Rattle.rtc_plain_media.specs.declared.held_line.HeldLine.{HeldLine}
use Rattle.rtc_plain_media.specs.declared.plain_media_event.PlainMediaEvent.{PlainMediaEvent}
use Rattle.rtc_plain_media.specs.declared.plain_media_event.PlainMediaEvent.TheVariants.{Added, Changed}

abbrev pub Lines : Type 0
Lines = List (LineKey × HeldLine)

abbrev pub same_key : LineKey → LineKey → Bool
same_key a b = same_mid a.mid b.mid

abbrev pub key_of : List ℕ → LineKey
key_of mid = record { mid = mid }

-- the line of a mid
abbrev pub held_line : List ℕ → Lines → Option HeldLine
held_line mid lines = lookup (same_key (key_of mid)) lines

-- the mark of a line's writer, which starts at 0
abbrev pub writer_mark : Option HeldLine → PlainMark
writer_mark None = record { count = 0 }
writer_mark (Some line) = line.mark

-- an update takes the place of the line of its mid, which keeps its writer, or else becomes the last one
abbrev pub set_line : MediaUpdate → Lines → Lines
set_line u lines = insert_entry same_key lines (key_of (update_mid u)) (record {
  update = u;
  mark = writer_mark (held_line (update_mid u) lines);
})

-- that a line has another direction than it had
abbrev pub tell_changed : List ℕ → Direction → LineRow → Option PlainMediaEvent
tell_changed mid dir (Media place _ kind before stopped remote_created) = if same_direction before dir then None else Some (Changed mid dir)
tell_changed mid dir (App place _) = None

-- what is reported of a row, from the line of its mid before: that it is new, or that its direction changed
abbrev pub tell_row : LineRow → (announce : Bool) → Option HeldLine → Option PlainMediaEvent
tell_row (Media place mid kind dir stopped remote_created) true before = Some (Added mid kind dir)
tell_row (Media place mid kind dir stopped remote_created) false None = None
tell_row (Media place mid kind dir stopped remote_created) false (Some line) = tell_changed mid dir line.update.row
tell_row (App place mid) announce before = None

abbrev pub some_event : Option PlainMediaEvent → List PlainMediaEvent
some_event None = []
some_event (Some event) = event ∷ []

abbrev pub events_of : MediaUpdate → Lines → List PlainMediaEvent
events_of u lines = some_event (tell_row u.row u.announce (held_line (update_mid u) lines))

-- the lines after some updates in turn, and what is reported of them
abbrev pub lines_after : List MediaUpdate → Lines → Lines
lines_after [] lines = lines
lines_after (u ∷ us) lines = lines_after us (set_line u lines)

abbrev pub events_after : List MediaUpdate → Lines → List PlainMediaEvent
events_after [] lines = []
events_after (u ∷ us) lines = events_of u lines ++ events_after us (set_line u lines)

-- the lines whose mids are not gone
abbrev pub without_lines : (List ℕ → Bool) → Lines → Lines
without_lines gone lines = filter (λ e. not (gone e.0.mid)) lines

-- an update removes a line
abbrev pub removes_some : MediaUpdate → Bool
removes_some update = is_some update.removed
