use Rattle.std.proofs.Common.{◌≡◌, ◌++◌, drop, codes}
use Rattle.std.specs.Prelude.{string_bytes}
use Rattle.rtc_wire_text.specs.Words.{spaced}
use Rattle.rtc_sdp_writer.specs.SessionRows.{enabled_mids}
use Rattle.rtc_sdp_writer.proofs.line_text.put_group.Given as goal

abbrev pub invariant-loop-line : goal.invariant-loop-line
invariant-loop-line l = string_bytes l.out ++ spaced (enabled_mids (drop l.line-index l.lines)) ≡ (string_bytes l.fn.out ++ codes "a=group:BUNDLE") ++ spaced (enabled_mids l.lines)
