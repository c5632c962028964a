-- The value of a session description.
use Rattle.std.specs.Prelude.{ℕ, false, List, Option, Some, None}
use Rattle.rtc_wire_text.specs.Fields.{first}
use Rattle.rtc_sdp_values.specs.declared.media_line.MediaLine.{MediaLine}
use Rattle.rtc_sdp_values.specs.declared.sdp.Sdp.{Sdp}
use Rattle.rtc_sdp_grammar.specs.declared.item.Item.{Item}
use Rattle.rtc_sdp_grammar.specs.declared.item.Item.TheVariants.{Origin}
use Rattle.rtc_sdp_reader.specs.declared.part.Part.{Part}
use Rattle.rtc_sdp_reader.specs.Parting.{attributes}
use Rattle.rtc_sdp_reader.specs.Said.{value_or, part_said}
use Rattle.rtc_sdp_reader.specs.LineValue.{creds_made, lines_of}

abbrev pub origin_of : Item → Option ℕ
origin_of (Origin id) = Some id
origin_of _ = None

abbrev pub sdp_made : Option ℕ → Part → List MediaLine → Sdp
sdp_made id session lines = record {
  id = value_or 0 id;
  groups = session.groups;
  ice_lite = session.lite;
  creds = creds_made session.ufrag session.pass;
  fingerprint = session.fingerprint;
  setup = session.setup;
  lines = lines;
}

-- the value that lines give: attributes in front of the first `m=` line are those of the session
unfoldable pub sdp_of : List Item → Sdp
sdp_of items = sdp_made (first origin_of items) (part_said (attributes false items)) (lines_of items)
