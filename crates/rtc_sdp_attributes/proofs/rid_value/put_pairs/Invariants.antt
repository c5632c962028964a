use Rattle.std.proofs.Common.{◌≡◌, ◌++◌, map, drop}
use Rattle.std.specs.Prelude.{string_bytes}
use Rattle.rtc_wire_text.specs.Words.{after_each}
use Rattle.rtc_sdp_attributes.specs.AttributeTexts.{pair_text, pairs_text}
use Rattle.rtc_sdp_attributes.proofs.rid_value.put_pairs.Given as goal

abbrev pub invariant-loop-pair : goal.invariant-loop-pair
invariant-loop-pair l = string_bytes l.out ++ after_each 59 (map pair_text (drop l.pair-index l.rest)) ≡ string_bytes l.fn.out ++ pairs_text l.fn.pairs
