use Rattle.std.proofs.Common.{◌≡◌, ◌++◌, drop}
use Rattle.rtc_sdp_codecs.specs.LineFormats as spec
use Rattle.rtc_sdp_codecs.proofs.line_formats.match_rows.Given as goal

abbrev pub invariant-loop-row : goal.invariant-loop-row
invariant-loop-row l =
    l.found.items ++ spec.matched_rows l.kind (drop l.row-index l.rows) l.remote ≡ spec.matched_rows l.kind l.rows l.remote
