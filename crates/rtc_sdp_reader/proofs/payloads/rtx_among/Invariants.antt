use Rattle.std.proofs.Common.{◌≡◌, drop}
use Rattle.rtc_sdp_reader.specs.Payloads as spec
use Rattle.rtc_sdp_reader.proofs.payloads.rtx_among.Given as goal

abbrev pub invariant-loop-link : goal.invariant-loop-link
invariant-loop-link l = spec.rtx_among l.pt (drop l.link-index l.links) ≡ spec.rtx_among l.pt l.links
