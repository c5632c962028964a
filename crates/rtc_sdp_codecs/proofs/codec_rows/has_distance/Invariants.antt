use Rattle.std.proofs.Common.{◌≡◌, ◌==◌, drop}
use Rattle.std.specs.List.{list_any}
use Rattle.rtc_sdp_codecs.proofs.codec_rows.has_distance.Given as goal

abbrev pub invariant-loop-other : goal.invariant-loop-other
invariant-loop-other l =
    list_any (λ other. other == l.distance) (drop l.other-index l.listed) ≡ list_any (λ other. other == l.distance) l.listed
