-- The value of a line part, from its `m=` line and its attributes.
use Rattle.std.specs.Prelude.{ℕ, true, List, [], ◌∷◌, Option, Some, None, option_map}
use Rattle.std.specs.List.{cons_option}
use Rattle.rtc_sdp_values.specs.declared.direction.Direction.TheVariants.{SendRecv}
use Rattle.rtc_sdp_values.specs.declared.ice_creds.IceCreds.{IceCreds}
use Rattle.rtc_sdp_values.specs.declared.media_line.MediaLine.{MediaLine}
use Rattle.rtc_sdp_grammar.specs.declared.item.Item.{Item}
use Rattle.rtc_sdp_grammar.specs.declared.item.Item.TheVariants.{Media}
use Rattle.rtc_sdp_grammar.specs.declared.media_head.MediaHead.{MediaHead}
use Rattle.rtc_sdp_reader.specs.declared.part.Part.{Part}
use Rattle.rtc_sdp_reader.specs.Layers.{simulcast_value}
use Rattle.rtc_sdp_reader.specs.Payloads.{payload_rows}
use Rattle.rtc_sdp_reader.specs.Sources.{sources as source_rows}
use Rattle.rtc_sdp_reader.specs.Parting.{attributes}
use Rattle.rtc_sdp_reader.specs.Said.{value_or, part_said}

-- credentials are there if both of them are (RFC 8839, section 5.4)
abbrev pub creds_made : Option (List ℕ) → Option (List ℕ) → Option IceCreds
creds_made (Some ufrag) (Some pass) = Some (record { ufrag = ufrag; pass = pass })
creds_made _ _ = None

abbrev pub line_named : MediaHead → Part → List ℕ → MediaLine
line_named head part mid = record {
  kind = head.kind;
  disabled = head.disabled;
  mid = mid;
  dir = value_or SendRecv part.dir;
  candidates = part.candidates;
  creds = creds_made part.ufrag part.pass;
  fingerprint = part.fingerprint;
  setup = part.setup;
  payloads = payload_rows head.formats part.codecs part.parameters;
  exts = part.exts;
  simulcast = option_map (simulcast_value part.layers) part.layer_list;
  msid = part.msid;
  cname = part.cname;
  ssrcs = source_rows part.sources part.pairs;
  max_message_size = part.max_message_size;
  sctp_init = part.sctp_init;
}

-- one without a mid is refused
abbrev pub line_of : MediaHead → Part → Option MediaLine
line_of head part = option_map (line_named head part) part.mid

-- the line parts, in order
abbrev pub lines_of : List Item → List MediaLine
lines_of [] = []
lines_of (Media head ∷ rest) = cons_option (line_of head (part_said (attributes true rest))) (lines_of rest)
lines_of (item ∷ rest) = lines_of rest
