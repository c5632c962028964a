use Rattle.std.proofs.Common.{◌≡◌, ◌⊎◌, ℕ, Result, Err, inl, inr, refl}
use Rattle.rtc_wire.specs.declared.receive.Receive.{Receive}
use Rattle.rtc_peer_core.specs.declared.phase.Phase.{Phase}
use Rattle.rtc_peer_core.specs.declared.phase.Phase.TheVariants.{Alive, Closing, Closed}
use Rattle.rtc_peer_core.specs.Meanings.{Meanings, meanings}
use Rattle.rtc_peer_transport.specs.declared.input.Input.TheVariants.{Receive as Datagram}
use Rattle.rtc_peer_transport.specs.declared.polled_peer.PolledPeer.{PolledPeer}
use Rattle.rtc_peer_core.specs.declared.rtc_error.RtcError.{RtcError}
use Rattle.rtc_peer_polling.specs.Inputs.{Hears, Heard, PartFailed, HandlesInputIn}
use Rattle.rtc_peer_polling.proofs.hearing.handle_input.Goals as goal

module _ {I D S M E X T W N : Type 0} (m : Meanings I D S M E X T W N) where
  -- a peer that is not closed hears a datagram
  hears_in : (phase : Phase) (now : ℕ) (datagram : Receive) (p : PolledPeer I D S M N) (r : Result (Unit {0}) RtcError) (q : PolledPeer I D S M N)
      → (phase ≡ Alive) ⊎ (phase ≡ Closing) → Hears m now datagram p r q → HandlesInputIn m phase (Datagram now datagram) p r q
  hears_in Alive now datagram p r q running h = h
  hears_in Closing now datagram p r q running h = h
  hears_in Closed now datagram p r q (inl is) h = cc (is)
  hears_in Closed now datagram p r q (inr is) h = cc (is)

pub returns-in-Err : goal.returns-in-Err
returns-in-Err g c =
    let m = meanings g.I.IceAgent.ice g.D.DtlsInstance.dtls g.S.Association.association g.M.MediaSession.media g.N.Ids.ids in
    let p = c.args.peer.now in
    rw c.in-Receive.is (hears_in m p.core.phase c.in-Receive.now c.in-Receive.datagram p (Err c.in-Err.error) c.hear_kind.new.peer c.in-Alive.is
    (PartFailed c.in-Err.error refl c.in-Err.ensures))

pub returns-in-Ok : goal.returns-in-Ok
returns-in-Ok g c =
    let m = meanings g.I.IceAgent.ice g.D.DtlsInstance.dtls g.S.Association.association g.M.MediaSession.media g.N.Ids.ids in
    let p = c.args.peer.now in
    rw c.in-Receive.is (hears_in m p.core.phase c.in-Receive.now c.in-Receive.datagram p c.take_time-in-Receive.result c.take_time-in-Receive.new.peer c.in-Alive.is
    (Heard c.hear_kind.new.peer c.in-Ok.ensures c.take_time-in-Receive.ensures))
