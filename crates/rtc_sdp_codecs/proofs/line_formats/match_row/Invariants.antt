use Rattle.std.proofs.Common.{◌≡◌, drop}
use Rattle.rtc_sdp_codecs.specs.LineFormats as spec
use Rattle.rtc_sdp_codecs.proofs.line_formats.match_row.Given as goal

abbrev pub invariant-loop-theirs : goal.invariant-loop-theirs
invariant-loop-theirs l = spec.matched_row (drop l.theirs-index l.remote) l.row ≡ spec.matched_row l.remote l.row
