use Rattle.std.proofs.Common.{◌≡◌, drop}
use Rattle.rtc_sdp_reader.specs.Payloads as spec
use Rattle.rtc_sdp_reader.proofs.payloads.fmtp_for.Given as goal

abbrev pub invariant-loop-fmtp : goal.invariant-loop-fmtp
invariant-loop-fmtp l = spec.fmtp_for (drop l.fmtp-index l.fmtps) l.pt ≡ spec.fmtp_for l.fmtps l.pt
