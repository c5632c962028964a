-- M-lines.
use Rattle.std.specs.Prelude.{ℕ, false, List, [], None}
use Rattle.rtc_sdp_values.specs.declared.direction.Direction.{Direction}
use Rattle.rtc_sdp_values.specs.declared.line_kind.LineKind.{LineKind}
use Rattle.rtc_sdp_values.specs.declared.media_line.MediaLine.{MediaLine}

-- a line with a port and no attributes but its mid and its direction
abbrev pub bare_line : LineKind → List ℕ → Direction → MediaLine
bare_line kind mid dir = record {
  kind = kind;
  disabled = false;
  mid = mid;
  dir = dir;
  candidates = [];
  creds = None;
  fingerprint = None;
  setup = None;
  payloads = [];
  exts = [];
  simulcast = None;
  msid = None;
  cname = None;
  ssrcs = [];
  max_message_size = None;
  sctp_init = None;
}
