use Rattle.std.proofs.Common.{◌≡◌, drop}
use Rattle.std.specs.Prelude.{filter, option_map}
use Rattle.rtc_wire_text.specs.Fields.{each}
use Rattle.rtc_wire_text.proofs.FieldLemmas.{shown}
use Rattle.rtc_sdp_attributes.specs.AttributeForms.{is_kept, rid_pair}
use Rattle.rtc_sdp_attributes.proofs.PairLemmas.{kept_so_far}
use Rattle.rtc_sdp_attributes.proofs.rid_value.kept_pairs.Given as goal

abbrev pub invariant-loop-part : goal.invariant-loop-part
invariant-loop-part l = kept_so_far l.pairs.items (each rid_pair (drop l.part-index (shown l.parts))) ≡ option_map (filter is_kept) (each rid_pair (shown l.parts))
