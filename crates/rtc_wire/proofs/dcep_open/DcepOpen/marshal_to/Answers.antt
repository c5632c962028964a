use Rattle.std.proofs.lemmas.Str.{is_utf8-from_IsUtf8}
use Rattle.rtc_wire.proofs.DcepOpenLemmas.{written_message_reads_back}
use Rattle.rtc_wire.proofs.dcep_open.DcepOpen.marshal_to.Goals as goal

pub returns-clause-again : goal.returns-clause-again
returns-clause-again c = λ more. written_message_reads_back c.args.self.now more record {
  priority = c.header-header.ensures.priority;
  parameter = c.header-header.ensures.parameter;
  label = c.requires.label;
  protocol = c.requires.protocol;
  label_text = rw (← c.as_str.ensures) (is_utf8-from_IsUtf8 c.as_str.result.now c.as_str.utf8);
  protocol_text = rw (← c.as_str-2.ensures) (is_utf8-from_IsUtf8 c.as_str-2.result.now c.as_str-2.utf8);
}
