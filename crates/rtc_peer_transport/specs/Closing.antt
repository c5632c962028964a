-- How a peer is closed.
use Rattle.std.specs.Prelude.{◌≡◌, ◌==◌, ◌&&◌, Bool, true, false, length, Result, Ok, Err, alloc_error}
use Rattle.rtc_parts.specs.declared.dtls_error.DtlsError.TheVariants.{Fault, Alloc as DtlsAlloc}
use Rattle.rtc_sctp_values.specs.declared.proto_error.ProtoError.TheVariants as proto
use Rattle.rtc_sctp_values.specs.declared.sctp_error.SctpError.TheVariants as sctp
use Rattle.rtc_sctp.specs.Calls.{Shuts}
use Rattle.rtc_peer_core.specs.declared.phase.Phase.{Phase}
use Rattle.rtc_peer_core.specs.declared.phase.Phase.TheVariants.{Alive, Closing, Closed}
use Rattle.rtc_peer_core.specs.Meanings.{Meanings}
use Rattle.rtc_peer_core.specs.declared.rtc_error.RtcError.{RtcError}
use Rattle.rtc_peer_core.specs.declared.rtc_error.RtcError.TheVariants.{Dtls, Sctp, Alloc}
use Rattle.rtc_peer_transport.specs.declared.polled_peer.PolledPeer.{PolledPeer}
use Rattle.rtc_peer_transport.specs.Connection.{with_media, with_sctp, closed_peer}
use Rattle.rtc_peer_transport.specs.Stages.{Call, InTurn}

-- the peer with what a call did to the instance of its DTLS connection
abbrev pub with_instance : {I D S M N : Type 0} → D → PolledPeer I D S M N → PolledPeer I D S M N
with_instance instance p = record p { core = record p.core { dtls = record p.core.dtls { instance = instance } } }

-- the peer, closing
abbrev pub closing_peer : {I D S M N : Type 0} → PolledPeer I D S M N → PolledPeer I D S M N
closing_peer p = record p { core = record p.core { phase = Closing } }

abbrev pub is_phase_closing : Phase → Bool
is_phase_closing Alive = false
is_phase_closing Closing = true
is_phase_closing Closed = false

-- every part was shut
abbrev pub BecomesClosing : {I D S M N : Type 0} → Call (PolledPeer I D S M N)
BecomesClosing p r q = (r ≡ Ok tt) × (q ≡ closing_peer p)

module _ {I D S M E X T W N : Type 0} (m : Meanings I D S M E X T W N) where
  -- media says goodbye (RFC 3550, section 6.6)
  unfoldable pub ShutsMedia : Call (PolledPeer I D S M N)
  ShutsMedia p (Ok done) q = m.media.rtp_shut p.core.media (Ok tt) q.core.media × (q ≡ with_media q.core.media p)
  ShutsMedia p (Err Alloc) q =
      m.media.rtp_shut p.core.media (Err alloc_error) q.core.media × (q ≡ closed_peer (with_media q.core.media p))
  ShutsMedia p (Err error) q = ⊥

  -- the association is shut down (RFC 9260, section 9.2), if it is not yet
  unfoldable pub ShutsStreams : Call (PolledPeer I D S M N)
  ShutsStreams p (Ok done) q = Shuts m.association p.core.sctp (Ok tt) q.core.sctp × (q ≡ with_sctp q.core.sctp p)
  ShutsStreams p (Err (Sctp cause)) q =
      (cause ≡ sctp.Proto proto.Fault)
      × Shuts m.association p.core.sctp (Err (sctp.Proto proto.Fault)) q.core.sctp
      × (q ≡ closed_peer (with_sctp q.core.sctp p))
  ShutsStreams p (Err Alloc) q =
      Shuts m.association p.core.sctp (Err sctp.Alloc) q.core.sctp × (q ≡ closed_peer (with_sctp q.core.sctp p))
  ShutsStreams p (Err error) q = ⊥

  -- the DTLS connection is closed (RFC 5246, section 7.2.1)
  unfoldable pub ShutsDtls : Call (PolledPeer I D S M N)
  ShutsDtls p (Ok done) q =
      m.dtls.shut p.core.dtls.instance (Ok tt) q.core.dtls.instance × (q ≡ with_instance q.core.dtls.instance p)
  ShutsDtls p (Err (Dtls cause)) q =
      (cause ≡ Fault)
      × m.dtls.shut p.core.dtls.instance (Err Fault) q.core.dtls.instance
      × (q ≡ closed_peer (with_instance q.core.dtls.instance p))
  ShutsDtls p (Err Alloc) q =
      m.dtls.shut p.core.dtls.instance (Err DtlsAlloc) q.core.dtls.instance
      × (q ≡ closed_peer (with_instance q.core.dtls.instance p))
  ShutsDtls p (Err error) q = ⊥

  -- Media, the association and the DTLS connection are shut in turn. A fault, or running out of memory, leaves the peer closed.
  abbrev pub BeginsClosing : Call (PolledPeer I D S M N)
  BeginsClosing = InTurn ShutsMedia (InTurn ShutsStreams (InTurn ShutsDtls BecomesClosing))

  -- Closing begins once.
  abbrev pub ClosesPeerFrom : Phase → Call (PolledPeer I D S M N)
  ClosesPeerFrom Alive p r q = BeginsClosing p r q
  ClosesPeerFrom Closing p r q = (r ≡ Ok tt) × (q ≡ p)
  ClosesPeerFrom Closed p r q = (r ≡ Ok tt) × (q ≡ p)

  abbrev pub ClosesPeer : PolledPeer I D S M N → Result (Unit {0}) RtcError → PolledPeer I D S M N → Type 0
  ClosesPeer p r q = ClosesPeerFrom p.core.phase p r q

  -- Whether nothing of a closing is left to do: its packets and goodbyes were given out. The association is not waited for.
  abbrev pub is_closing_complete : PolledPeer I D S M N → Bool
  is_closing_complete p =
      is_phase_closing p.core.phase
      && (m.dtls.closed p.core.dtls.instance && (length p.core.dtls.packets == 0))
      && m.media.rtp_closed p.core.media
