use Rattle.std.proofs.Common.{◌≡◌, ◌⊎◌, inl, inr, refl}
use Rattle.rtc_peer_transport.specs.declared.event.Event.TheVariants.{Connected}
use Rattle.rtc_peer_transport.specs.declared.handshake.Handshake.{Handshake}
use Rattle.rtc_peer_transport.specs.declared.handshake.Handshake.TheVariants.{Pending, Finished, Told}
use Rattle.rtc_peer_transport.specs.declared.met.Met.TheVariants.{Nothing, Event}
use Rattle.rtc_peer_transport.specs.declared.polled_peer.PolledPeer.{PolledPeer}
use Rattle.rtc_peer_polling.specs.DtlsStages.{TellsConnectedFrom, with_handshake}
use Rattle.rtc_peer_transport.specs.Stages.{Stopped, WentOn}
use Rattle.rtc_peer_polling.specs.Walk.{TellsConnection}
use Rattle.rtc_peer_polling.proofs.walking.tell_connection.Goals as goal

-- that the handshake is finished is told
told_now : {I D S M N : Type 0} (E : Type 0) (handshake : Handshake) (p : PolledPeer I D S M N) → handshake ≡ Finished
    → TellsConnectedFrom {E = E} handshake p (Event Connected) (with_handshake Told p)
told_now E Pending p is = cc (is)
told_now E Finished p is = (refl, refl)
told_now E Told p is = cc (is)

-- a handshake that is not finished, or was told, is not
untold : {I D S M N : Type 0} (E : Type 0) (handshake : Handshake) (p : PolledPeer I D S M N) → (handshake ≡ Pending) ⊎ (handshake ≡ Told)
    → TellsConnectedFrom {E = E} handshake p Nothing p
untold E Pending p is = (refl, refl)
untold E Finished p (inl is) = cc (is)
untold E Finished p (inr is) = cc (is)
untold E Told p is = (refl, refl)

pub returns-in_default : goal.returns-in_default
unfolding TellsConnection
returns-in_default g c = Stopped c.in_default.not-Nothing c.poll_ice_events.ensures

pub returns-in_default-time_dtls : goal.returns-in_default-time_dtls
unfolding TellsConnection
returns-in_default-time_dtls g c = WentOn _ c.in-Nothing.ensures (Stopped c.in_default-time_dtls.not-Nothing c.time_dtls.ensures)

pub returns-in_default-poll_dtls_outputs : goal.returns-in_default-poll_dtls_outputs
unfolding TellsConnection
returns-in_default-poll_dtls_outputs g c = WentOn _ c.in-Nothing.ensures (WentOn _ c.in-Nothing-time_dtls.ensures (Stopped c.in_default-poll_dtls_outputs.not-Nothing c.poll_dtls_outputs.ensures))

pub returns-in-Finished : goal.returns-in-Finished
unfolding TellsConnection
returns-in-Finished g c = WentOn _ c.in-Nothing.ensures (WentOn _ c.in-Nothing-time_dtls.ensures (WentOn _ c.in-Nothing-poll_dtls_outputs.ensures (told_now _ _ _ c.in-Finished.is)))

pub returns-in-Pending : goal.returns-in-Pending
unfolding TellsConnection
returns-in-Pending g c = WentOn _ c.in-Nothing.ensures (WentOn _ c.in-Nothing-time_dtls.ensures (WentOn _ c.in-Nothing-poll_dtls_outputs.ensures (untold _ _ _ c.in-Pending.is)))
