use Rattle.std.proofs.Common.{◌≡◌, ◌++◌, drop}
use Rattle.rtc_sdp_codecs.specs.CodecRows as spec
use Rattle.rtc_sdp_codecs.proofs.codec_rows.push_listed.Given as goal

abbrev pub invariant-loop-distance : goal.invariant-loop-distance
invariant-loop-distance l =
    l.found.items ++ spec.listed_distances l.listed (drop l.distance-index l.distances)
    ≡ l.fn.found.items ++ spec.listed_distances l.listed l.distances
