use Rattle.std.proofs.Common.{◌≡◌, ◌≤◌, ℕ, Bool, true, false, nat_lt, Result, refl, arith}
use Rattle.rtc_peer_core.specs.declared.rtc_error.RtcError.{RtcError}
use Rattle.rtc_peer_core.specs.Meanings.{Meanings, meanings}
use Rattle.rtc_peer_transport.specs.declared.polled_peer.PolledPeer.{PolledPeer}
use Rattle.rtc_peer_polling.specs.Inputs.{GivesTime, TakesTimeIf, TimesStreams, TimesChannels}
use Rattle.rtc_peer_transport.specs.Connection.{with_sctp, with_channels}
use Rattle.rtc_peer_core.specs.declared.rtc_error.RtcError.TheVariants.{Alloc}
use Rattle.rtc_peer_transport.specs.Stages.{Failed, Passed}
use Rattle.rtc_peer_polling.proofs.hearing.take_time.Goals as goal

-- a moment that is not earlier is given
takes : {I D S M E X T W N : Type 0} (m : Meanings I D S M E X T W N) (earlier : Bool) (now : ℕ) (p : PolledPeer I D S M N) (r : Result (Unit {0}) RtcError)
    (q : PolledPeer I D S M N) → earlier ≡ false → GivesTime m now p r q → TakesTimeIf m earlier now p r q
takes m true now p r q is h = cc (is)
takes m false now p r q is h = h

later : (now greatest a b : ℕ) → a ≡ now → b ≡ greatest → b ≤ a → nat_lt now greatest ≡ false
later now greatest a b first second h = grind (arith, h, first, second)

pub returns-in-Err : goal.returns-in-Err
returns-in-Err g c = takes (meanings g.I.IceAgent.ice g.D.DtlsInstance.dtls g.S.Association.association g.M.MediaSession.media g.N.Ids.ids) _ _ _ _ _ (later c.args.now c.args.peer.now.core.greatest _ _ c.nanos.ensures c.nanos-2.ensures c.if-nanos.false)
    (Failed c.in-Err.error refl c.in-Err.ensures)

pub returns-in-Err-time_sctp : goal.returns-in-Err-time_sctp
unfolding TimesStreams
returns-in-Err-time_sctp g c = takes (meanings g.I.IceAgent.ice g.D.DtlsInstance.dtls g.S.Association.association g.M.MediaSession.media g.N.Ids.ids) _ _ _ _ _ (later c.args.now c.args.peer.now.core.greatest _ _ c.nanos.ensures c.nanos-2.ensures c.if-nanos.false)
    (rw (c.close_out_of_memory.ensures.told, c.close_out_of_memory.ensures.closed)
    (Passed _ c.in-Ok.ensures (Failed Alloc refl (c.in-Err-time_sctp.ensures, refl))))

pub returns-in-Err-time_handler : goal.returns-in-Err-time_handler
unfolding TimesStreams TimesChannels
returns-in-Err-time_handler g c = takes (meanings g.I.IceAgent.ice g.D.DtlsInstance.dtls g.S.Association.association g.M.MediaSession.media g.N.Ids.ids) _ _ _ _ _ (later c.args.now c.args.peer.now.core.greatest _ _ c.nanos.ensures c.nanos-2.ensures c.if-nanos.false)
    (rw (c.close_out_of_memory-in-Err-time_handler.ensures.told, c.close_out_of_memory-in-Err-time_handler.ensures.closed)
    (Passed _ c.in-Ok.ensures (Passed (with_sctp c.time_sctp.new.sctp c.time_ice.new.peer) (c.in-Ok-time_sctp.ensures, refl)
    (Failed Alloc refl (c.in-Err-time_handler.ensures, refl)))))

pub returns-in-Err-time_media : goal.returns-in-Err-time_media
unfolding TimesStreams TimesChannels
returns-in-Err-time_media g c = takes (meanings g.I.IceAgent.ice g.D.DtlsInstance.dtls g.S.Association.association g.M.MediaSession.media g.N.Ids.ids) _ _ _ _ _ (later c.args.now c.args.peer.now.core.greatest _ _ c.nanos.ensures c.nanos-2.ensures c.if-nanos.false)
    (Passed _ c.in-Ok.ensures (Passed (with_sctp c.time_sctp.new.sctp c.time_ice.new.peer) (c.in-Ok-time_sctp.ensures, refl)
    (Passed (with_channels c.time_handler.new.channels (with_sctp c.time_handler.new.sctp c.time_ice.new.peer)) (c.in-Ok-time_handler.ensures, refl)
    (Failed c.in-Err-time_media.error refl c.in-Err-time_media.ensures))))

pub returns : goal.returns
unfolding TimesStreams TimesChannels
returns g c = takes (meanings g.I.IceAgent.ice g.D.DtlsInstance.dtls g.S.Association.association g.M.MediaSession.media g.N.Ids.ids) _ _ _ _ _ (later c.args.now c.args.peer.now.core.greatest _ _ c.nanos.ensures c.nanos-2.ensures c.if-nanos.false)
    (Passed _ c.in-Ok.ensures (Passed (with_sctp c.time_sctp.new.sctp c.time_ice.new.peer) (c.in-Ok-time_sctp.ensures, refl)
    (Passed (with_channels c.time_handler.new.channels (with_sctp c.time_handler.new.sctp c.time_ice.new.peer)) (c.in-Ok-time_handler.ensures, refl)
    (Passed _ c.in-Ok-time_media.ensures c.time_statistics.ensures))))
