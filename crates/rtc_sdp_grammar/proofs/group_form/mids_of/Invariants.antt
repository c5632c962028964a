use Rattle.std.proofs.Common.{◌≡◌, drop}
use Rattle.rtc_wire_text.specs.Fields.{each}
use Rattle.rtc_wire_text.proofs.FieldLemmas.{so_far, shown}
use Rattle.rtc_sdp_attributes.specs.Forms.{short_token}
use Rattle.rtc_sdp_grammar.proofs.group_form.mids_of.Given as goal

abbrev pub invariant-loop-word : goal.invariant-loop-word
invariant-loop-word l = so_far l.mids.items (each short_token (drop l.word-index (shown l.words))) ≡ each short_token (shown l.words)
