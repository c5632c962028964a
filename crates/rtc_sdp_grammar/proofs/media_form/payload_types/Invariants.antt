use Rattle.std.proofs.Common.{◌≡◌, drop}
use Rattle.rtc_wire_text.specs.Fields.{each}
use Rattle.rtc_wire_text.specs.Numbers.{number_up_to}
use Rattle.rtc_wire_text.proofs.FieldLemmas.{so_far, shown}
use Rattle.rtc_sdp_grammar.proofs.media_form.payload_types.Given as goal

abbrev pub invariant-loop-word : goal.invariant-loop-word
invariant-loop-word l = so_far l.numbers.items (each (number_up_to 127) (drop l.word-index (shown l.words))) ≡ each (number_up_to 127) (shown l.words)
