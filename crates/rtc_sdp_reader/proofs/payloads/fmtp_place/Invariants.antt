use Rattle.std.proofs.Common.{◌≡◌, drop}
use Rattle.rtc_wire_text.specs.Fields.{first}
use Rattle.rtc_sdp_reader.specs.Payloads as spec
use Rattle.rtc_sdp_reader.proofs.payloads.fmtp_place.Given as goal

abbrev pub invariant-loop-i : goal.invariant-loop-i
invariant-loop-i l = first (spec.parameters_for l.pt) (drop l.i l.fmtps) ≡ first (spec.parameters_for l.pt) l.fmtps
