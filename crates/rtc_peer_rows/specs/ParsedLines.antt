-- What negotiation reads of the m-lines of a session description.
use Rattle.std.specs.Prelude.{ℕ, ◌&&◌, not, List, map}
use Rattle.rtc_sdp_values.specs.Mids.{is_bundled}
use Rattle.rtc_sdp_values.specs.declared.media_line.MediaLine.{MediaLine}
use Rattle.rtc_sdp_values.specs.declared.sdp.Sdp.{Sdp}
use Rattle.rtc_peer_rows.specs.declared.parsed_line.ParsedLine.{ParsedLine}

-- a line whose port is 0 is rejected if no group names it; else it is live (RFC 8843, section 7)
abbrev pub parsed_line : List (List (List ℕ)) → MediaLine → ParsedLine
parsed_line groups line = record {
  kind = line.kind;
  mid = line.mid;
  dir = line.dir;
  rejected = line.disabled && not (is_bundled groups line.mid);
}

abbrev pub parsed_lines : Sdp → List ParsedLine
parsed_lines sdp = map (parsed_line sdp.groups) sdp.lines
