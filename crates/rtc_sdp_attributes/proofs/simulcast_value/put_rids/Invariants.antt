use Rattle.std.proofs.Common.{◌≡◌, ◌++◌, drop}
use Rattle.std.specs.Prelude.{string_bytes}
use Rattle.rtc_wire_text.specs.Words.{after_each, joined}
use Rattle.rtc_sdp_attributes.specs.AttributeTexts.{rids_in}
use Rattle.rtc_sdp_attributes.proofs.simulcast_value.put_rids.Given as goal

abbrev pub invariant-loop-layer : goal.invariant-loop-layer
invariant-loop-layer l = string_bytes l.out ++ after_each 59 (rids_in (drop l.layer-index l.rest)) ≡ string_bytes l.fn.out ++ joined 59 (rids_in l.fn.layers)
