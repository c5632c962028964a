use Rattle.std.proofs.Common.{◌≡◌, drop}
use Rattle.rtc_wire_text.specs.Fields.{each}
use Rattle.rtc_wire_text.proofs.FieldLemmas.{so_far, shown}
use Rattle.rtc_sdp_attributes.specs.AttributeForms.{layer_name}
use Rattle.rtc_sdp_attributes.proofs.simulcast_value.layer_rids.Given as goal

abbrev pub invariant-loop-part : goal.invariant-loop-part
invariant-loop-part l = so_far l.rids.items (each layer_name (drop l.part-index (shown l.parts))) ≡ each layer_name (shown l.parts)
