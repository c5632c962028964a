use Rattle.rtc_sctp_entries.specs.declared.asked.Asked.TheVariants.{Refused}
use Rattle.rtc_sctp_entries.proofs.message.acknowledge.Goals as goal

pub returns-in-Refused : goal.returns-in-Refused
returns-in-Refused g c = record {
  answer = Refused;
  between = c.write.new.association;
  asks = rw c.marshal_to.ensures.written at c.in-Refused.ensures.asks;
  then = c.close_entry.ensures;
}
