use Rattle.std.proofs.Common.{refl}
use Rattle.rtc_peer_transport.specs.Stages.{Stopped, WentOn}
use Rattle.rtc_peer_polling.specs.StreamStages.{TellsStreams}
use Rattle.rtc_peer_polling.specs.Walk.{SendsDatagrams, VisitsParts}
use Rattle.rtc_peer_polling.proofs.walking.visit_parts.Goals as goal

pub returns-in_default : goal.returns-in_default
unfolding VisitsParts
returns-in_default g c = Stopped c.in_default.not-Nothing c.tell_connection.ensures

pub returns-in_default-poll_stream_events : goal.returns-in_default-poll_stream_events
unfolding VisitsParts TellsStreams
returns-in_default-poll_stream_events g c =
    WentOn _ c.in-Nothing.ensures (Stopped c.in_default-poll_stream_events.not-Nothing (Stopped c.in_default-poll_stream_events.not-Nothing c.poll_stream_events.ensures))

pub returns-in_default-send_kept_packets : goal.returns-in_default-send_kept_packets
unfolding VisitsParts TellsStreams
returns-in_default-send_kept_packets g c =
    WentOn _ c.in-Nothing.ensures (Stopped c.in_default-send_kept_packets.not-Nothing (WentOn _ c.in-Nothing-poll_stream_events.ensures c.send_kept_packets.ensures))

pub returns-in_default-tell_arrivals : goal.returns-in_default-tell_arrivals
unfolding VisitsParts TellsStreams
returns-in_default-tell_arrivals g c =
    WentOn _ c.in-Nothing.ensures (WentOn _ (WentOn _ c.in-Nothing-poll_stream_events.ensures c.in-Nothing-send_kept_packets.ensures)
    (Stopped c.in_default-tell_arrivals.not-Nothing c.tell_arrivals.ensures))

pub returns-in_default-send_checks : goal.returns-in_default-send_checks
unfolding VisitsParts TellsStreams SendsDatagrams
returns-in_default-send_checks g c =
    WentOn _ c.in-Nothing.ensures (WentOn _ (WentOn _ c.in-Nothing-poll_stream_events.ensures c.in-Nothing-send_kept_packets.ensures)
    (WentOn _ c.in-Nothing-tell_arrivals.ensures
    (Stopped c.in_default-send_checks.not-Nothing (Stopped c.in_default-send_checks.not-Nothing c.send_checks.ensures))))

pub returns-in_default-send_by_pair : goal.returns-in_default-send_by_pair
unfolding VisitsParts TellsStreams SendsDatagrams
returns-in_default-send_by_pair g c =
    WentOn _ c.in-Nothing.ensures (WentOn _ (WentOn _ c.in-Nothing-poll_stream_events.ensures c.in-Nothing-send_kept_packets.ensures)
    (WentOn _ c.in-Nothing-tell_arrivals.ensures
    (Stopped c.in_default-send_by_pair.not-Nothing (WentOn _ c.in-Nothing-send_checks.ensures c.send_by_pair.ensures))))

pub returns : goal.returns
unfolding VisitsParts TellsStreams SendsDatagrams
returns g c =
    WentOn _ c.in-Nothing.ensures (WentOn _ (WentOn _ c.in-Nothing-poll_stream_events.ensures c.in-Nothing-send_kept_packets.ensures)
    (WentOn _ c.in-Nothing-tell_arrivals.ensures (WentOn _ (WentOn _ c.in-Nothing-send_checks.ensures c.in-Nothing-send_by_pair.ensures)
    (rw c.has_come.ensures at c.again_when.ensures, refl))))
