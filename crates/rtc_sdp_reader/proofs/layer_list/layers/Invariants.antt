use Rattle.std.proofs.Common.{◌≡◌, ◌++◌, drop}
use Rattle.rtc_sdp_reader.specs.Layers as spec
use Rattle.rtc_sdp_reader.proofs.layer_list.layers.Given as goal

abbrev pub invariant-loop-rid : goal.invariant-loop-rid
invariant-loop-rid l = l.made ++ spec.layers l.lines l.direction (drop l.rid-index l.rids) ≡ spec.layers l.lines l.direction l.rids
