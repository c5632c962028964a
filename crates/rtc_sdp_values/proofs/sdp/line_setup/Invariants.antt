use Rattle.std.proofs.Common.{◌≡◌, drop}
use Rattle.rtc_wire_text.specs.Fields.{first}
use Rattle.rtc_sdp_values.proofs.sdp.line_setup.Given as goal

abbrev pub invariant-loop-line : goal.invariant-loop-line
invariant-loop-line l = first (λ line. line.setup) (drop l.line-index l.lines) ≡ first (λ line. line.setup) l.lines
