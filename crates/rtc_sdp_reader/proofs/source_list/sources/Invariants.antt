use Rattle.std.proofs.Common.{◌≡◌, ◌++◌, drop}
use Rattle.std.specs.List.{filter_map}
use Rattle.rtc_sdp_reader.specs.Sources.{source_named}
use Rattle.rtc_sdp_reader.proofs.source_list.sources.Given as goal

abbrev pub invariant-loop-number : goal.invariant-loop-number
invariant-loop-number l = l.rows ++ filter_map (source_named l.pairs) (drop l.number-index l.number-items) ≡ filter_map (source_named l.pairs) l.number-items
