use Rattle.rtc_peer_transport.specs.Stages.{Stopped, WentOn}
use Rattle.rtc_peer_polling.specs.Walk.{TellsArrivals}
use Rattle.rtc_peer_polling.proofs.walking.tell_arrivals.Goals as goal

pub returns-in_default : goal.returns-in_default
unfolding TellsArrivals
returns-in_default g c = Stopped c.in_default.not-Nothing c.tell_media.ensures

pub returns-in_default-tell_fallible_media : goal.returns-in_default-tell_fallible_media
unfolding TellsArrivals
returns-in_default-tell_fallible_media g c =
    WentOn _ c.in-Nothing.ensures (Stopped c.in_default-tell_fallible_media.not-Nothing c.tell_fallible_media.ensures)

pub returns : goal.returns
unfolding TellsArrivals
returns g c = WentOn _ c.in-Nothing.ensures (WentOn _ c.in-Nothing-tell_fallible_media.ensures c.tell_statistics.ensures)
