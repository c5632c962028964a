use Rattle.std.proofs.Common.{◌≡◌, Result, refl}
use Rattle.rtc_peer_core.specs.declared.phase.Phase.{Phase}
use Rattle.rtc_peer_core.specs.declared.phase.Phase.TheVariants.{Alive, Closing, Closed}
use Rattle.rtc_peer_core.specs.declared.rtc_error.RtcError.{RtcError}
use Rattle.rtc_peer_core.specs.Meanings.{Meanings, meanings}
use Rattle.rtc_peer_transport.specs.declared.polled_peer.PolledPeer.{PolledPeer}
use Rattle.rtc_peer_transport.specs.Closing.{BeginsClosing, ClosesPeerFrom, ShutsMedia}
use Rattle.rtc_peer_transport.specs.Connection.{with_media}
use Rattle.rtc_peer_core.specs.declared.rtc_error.RtcError.TheVariants.{Alloc}
use Rattle.rtc_peer_transport.specs.Stages.{Failed, Passed}
use Rattle.rtc_peer_transport.proofs.polled_peer.PolledPeer.close.Goals as goal

-- a peer that is alive begins to close
begins : {I D S M E X T W N : Type 0} (m : Meanings I D S M E X T W N) (phase : Phase) (p : PolledPeer I D S M N) (r : Result (Unit {0}) RtcError)
    (q : PolledPeer I D S M N) → phase ≡ Alive → BeginsClosing m p r q → ClosesPeerFrom m phase p r q
begins m Alive p r q is h = h
begins m Closing p r q is h = cc (is)
begins m Closed p r q is h = cc (is)

pub returns-in-Err : goal.returns-in-Err
unfolding ShutsMedia
returns-in-Err g c = begins (meanings g.I.IceAgent.ice g.D.DtlsInstance.dtls g.S.Association.association g.M.MediaSession.media g.N.Ids.ids) _ _ _ _ c.in-Alive.is
    (rw (c.close_out_of_memory.ensures.told, c.close_out_of_memory.ensures.closed) (Failed Alloc refl (c.in-Err.ensures, refl)))

pub returns-in-Err-shut_streams : goal.returns-in-Err-shut_streams
unfolding ShutsMedia
returns-in-Err-shut_streams g c = begins (meanings g.I.IceAgent.ice g.D.DtlsInstance.dtls g.S.Association.association g.M.MediaSession.media g.N.Ids.ids) _ _ _ _ c.in-Alive.is
    (Passed (with_media c.close_rtp.new.self c.args.self.now) (c.in-Ok.ensures, refl) (Failed c.in-Err-shut_streams.error refl c.in-Err-shut_streams.ensures))

pub returns-in-Err-shut_dtls : goal.returns-in-Err-shut_dtls
unfolding ShutsMedia
returns-in-Err-shut_dtls g c = begins (meanings g.I.IceAgent.ice g.D.DtlsInstance.dtls g.S.Association.association g.M.MediaSession.media g.N.Ids.ids) _ _ _ _ c.in-Alive.is
    (Passed (with_media c.close_rtp.new.self c.args.self.now) (c.in-Ok.ensures, refl) (Passed _ c.in-Ok-shut_streams.ensures (Failed c.in-Err-shut_dtls.error refl c.in-Err-shut_dtls.ensures)))

pub returns : goal.returns
unfolding ShutsMedia
returns g c = begins (meanings g.I.IceAgent.ice g.D.DtlsInstance.dtls g.S.Association.association g.M.MediaSession.media g.N.Ids.ids) _ _ _ _ c.in-Alive.is
    (Passed (with_media c.close_rtp.new.self c.args.self.now) (c.in-Ok.ensures, refl) (Passed _ c.in-Ok-shut_streams.ensures (Passed _ c.in-Ok-shut_dtls.ensures (refl, refl))))
