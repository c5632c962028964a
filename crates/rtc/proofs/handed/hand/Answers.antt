use Rattle.rtc_peer_transport.specs.declared.output.Output.TheVariants.{Transmit, Event}
use Rattle.rtc.proofs.Driven.{hands_taken}
use Rattle.rtc.proofs.handed.hand.Goals as goal

pub returns-in-Transmit : goal.returns-in-Transmit
returns-in-Transmit g c = rw c.in-Transmit.is (hands_taken g.K.Sink.sink (Transmit c.in-Transmit.datagram) c.args.sink.now c.send.result c.send.new.self c.became.result c.became.ensures c.send.ensures)

pub returns-in-Event : goal.returns-in-Event
returns-in-Event g c = rw c.in-Event.is (hands_taken g.K.Sink.sink (Event c.in-Event.event) c.args.sink.now c.report.result c.report.new.self c.became-in-Event.result c.became-in-Event.ensures c.report.ensures)
