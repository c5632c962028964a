use Rattle.std.proofs.Common.{◌≡◌, ◌++◌, drop, map}
use Rattle.rtc_peer_rows.specs.ParsedLines.{parsed_line}
use Rattle.rtc_peer_rows.proofs.parsed_line.ParsedLine.all_of.Given as goal

abbrev pub invariant-loop-line : goal.invariant-loop-line
invariant-loop-line l = l.lines.items ++ map (parsed_line l.sdp.groups) (drop l.line-index l.line-items) ≡ map (parsed_line l.sdp.groups) l.line-items
