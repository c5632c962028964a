use Rattle.std.proofs.Common.{◌≡◌, drop}
use Rattle.rtc_wire_text.specs.Fields.{first}
use Rattle.rtc_sdp_reader.specs.Payloads as spec
use Rattle.rtc_sdp_reader.proofs.payloads.codec_for.Given as goal

abbrev pub invariant-loop-codec : goal.invariant-loop-codec
invariant-loop-codec l = first (spec.codec_for l.pt) (drop l.codec-index l.codecs) ≡ first (spec.codec_for l.pt) l.codecs
