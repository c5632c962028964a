use Rattle.std.proofs.Common.{◌≡◌, ◌++◌, map, drop}
use Rattle.rtc_sdp_reader.specs.Payloads as spec
use Rattle.rtc_sdp_reader.proofs.payloads.links_of.Given as goal

abbrev pub invariant-loop-format : goal.invariant-loop-format
invariant-loop-format l = l.links.items ++ map spec.link_of (spec.entries (drop l.format-index l.formats) l.codecs l.fmtps) ≡ map spec.link_of (spec.entries l.formats l.codecs l.fmtps)
