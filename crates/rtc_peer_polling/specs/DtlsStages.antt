-- What a poll takes from the DTLS connection.
use Rattle.std.specs.Prelude.{ℕ, ◌≡◌, ◌-◌, ◌^◌, ◌==◌, ◌&&◌, not, nat_le, unwrap_or, Bool, true, false, List}
use Rattle.std.specs.Prelude.{Option, Some, None, Result, Ok, Err, alloc_error}
use Rattle.std.specs.declared.alloc.AllocError.{AllocError}
use Rattle.rtc_parts.specs.declared.srtp_profile.SrtpProfile.{SrtpProfile}
use Rattle.rtc_sdp_values.specs.declared.fingerprint.Fingerprint.{Fingerprint}
use Rattle.rtc_parts.specs.declared.dtls_error.DtlsError.TheVariants.{Fault, Alloc as DtlsAlloc}
use Rattle.rtc_parts.specs.declared.dtls_output.DtlsOutput.{DtlsOutput}
use Rattle.rtc_parts.specs.declared.dtls_output.DtlsOutput.TheVariants as outputs
use Rattle.rtc_parts.specs.DtlsState.{DtlsState, HandsOn, PollsOutput}
use Rattle.rtc_sctp.specs.Calls.{TakesInput}
use Rattle.rtc_peer_core.specs.Meanings.{Meanings}
use Rattle.rtc_peer_transport.specs.declared.event.Event.TheVariants.{Connected, Closed as ClosedEvent}
use Rattle.rtc_peer_transport.specs.declared.handshake.Handshake.{Handshake}
use Rattle.rtc_peer_transport.specs.declared.handshake.Handshake.TheVariants.{Pending, Finished, Told}
use Rattle.rtc_peer_transport.specs.declared.met.Met.{Met}
use Rattle.rtc_peer_transport.specs.declared.met.Met.TheVariants.{Nothing, Again, Event, Error}
use Rattle.rtc_peer_core.specs.declared.rtc_error.RtcError.TheVariants.{RemoteSdp, Dtls, Alloc}
use Rattle.rtc_peer_transport.specs.declared.polled_peer.PolledPeer.{PolledPeer}
use Rattle.rtc_peer_polling.specs.Certificates.{Hashes, cert_refusal}
use Rattle.rtc_peer_transport.specs.Closing.{ClosesPeer}
use Rattle.rtc_peer_transport.specs.Connection.{with_dtls, with_media, with_sctp, closed_peer}
use Rattle.rtc_peer_transport.specs.Stages.{Stage, RepeatsStage}

-- a moment is reached: it is one that is to happen, and not later than the greatest that was taken
abbrev pub has_come : (moment greatest : ℕ) → Bool
has_come moment greatest = not (moment == (2 ^ 64 - 1)) && nat_le moment greatest

-- the DTLS part wants its timeout, by the moment that it asked for when it was polled last
abbrev pub is_dtls_due : {I D S M N : Type 0} → PolledPeer I D S M N → Bool
is_dtls_due p = has_come p.transport.dtls_wake p.core.greatest

-- the peer whose handshake has this progress
abbrev pub with_handshake : {I D S M N : Type 0} → Handshake → PolledPeer I D S M N → PolledPeer I D S M N
with_handshake handshake p = record p { transport = record p.transport { handshake = handshake } }

-- the handshake is finished, which is reported once
abbrev pub finished_handshake : Handshake → Handshake
finished_handshake Pending = Finished
finished_handshake Finished = Finished
finished_handshake Told = Told

-- its end is no longer to be reported
abbrev pub silenced_handshake : Handshake → Handshake
silenced_handshake Pending = Pending
silenced_handshake Finished = Told
silenced_handshake Told = Told

-- this side begins the handshake; a side without a role does not
abbrev pub is_dtls_client : Option Bool → Bool
is_dtls_client active = unwrap_or active false

-- the connection knows the fingerprint of the received certificate
abbrev pub with_remote_fingerprint : {I D S M N : Type 0} → Fingerprint → PolledPeer I D S M N → PolledPeer I D S M N
with_remote_fingerprint got p = record p { core = record p.core { dtls = record p.core.dtls { remote = Some got } } }

-- a certificate is taken, or refused with its cause
unfoldable pub ChecksCert : {I D S M E N : Type 0} → List ℕ → Stage (PolledPeer I D S M N) E
ChecksCert cert p Again q =
    (got : Fingerprint)
    × Hashes p.core.fingerprint cert got
    × (cert_refusal p.core.fingerprint p.transport.verifies got ≡ None)
    × (q ≡ with_remote_fingerprint got p)
ChecksCert cert p (Error (RemoteSdp why)) q =
    (got : Fingerprint)
    × Hashes p.core.fingerprint cert got
    × (cert_refusal p.core.fingerprint p.transport.verifies got ≡ Some why)
    × (q ≡ closed_peer (with_remote_fingerprint got p))
ChecksCert cert p (Error Alloc) q = q ≡ closed_peer p
ChecksCert cert p r q = ⊥

abbrev pub TellsConnectedFrom : {I D S M E N : Type 0} → Handshake → Stage (PolledPeer I D S M N) E
TellsConnectedFrom Pending p r q = (r ≡ Nothing) × (q ≡ p)
TellsConnectedFrom Finished p r q = (r ≡ Event Connected) × (q ≡ with_handshake Told p)
TellsConnectedFrom Told p r q = (r ≡ Nothing) × (q ≡ p)

-- the end of the handshake is reported once
abbrev pub TellsConnected : {I D S M E N : Type 0} → Stage (PolledPeer I D S M N) E
TellsConnected p r q = TellsConnectedFrom p.transport.handshake p r q

module _ {I D S M E X T W N : Type 0} (m : Meanings I D S M E X T W N) where
  -- the connection is given the greatest moment; running out of memory and a fault close the peer
  unfoldable pub GivesDtlsTime : Stage (PolledPeer I D S M N) E
  GivesDtlsTime p Nothing q =
      HandsOn m.dtls p.core.dtls p.core.dtls.active (λ i r j. m.dtls.timed i p.core.greatest r j) (Ok tt) q.core.dtls
      × (q ≡ with_dtls q.core.dtls p)
  GivesDtlsTime p (Error (Dtls cause)) q =
      (cause ≡ Fault)
      × HandsOn m.dtls p.core.dtls p.core.dtls.active (λ i r j. m.dtls.timed i p.core.greatest r j) (Err Fault) q.core.dtls
      × (q ≡ closed_peer (with_dtls q.core.dtls p))
  GivesDtlsTime p (Error Alloc) q =
      HandsOn m.dtls p.core.dtls p.core.dtls.active (λ i r j. m.dtls.timed i p.core.greatest r j) (Err DtlsAlloc) q.core.dtls
      × (q ≡ closed_peer (with_dtls q.core.dtls p))
  GivesDtlsTime p r q = ⊥

  abbrev pub TimesDtlsIf : Bool → Stage (PolledPeer I D S M N) E
  TimesDtlsIf true p r q = GivesDtlsTime p r q
  TimesDtlsIf false p r q = (r ≡ Nothing) × (q ≡ p)

  -- the DTLS part is given a moment that it asked for, and that is reached
  abbrev pub TimesDtls : Stage (PolledPeer I D S M N) E
  TimesDtls p r q = TimesDtlsIf (is_dtls_due p) p r q

  -- the media part takes its keys
  unfoldable pub TakesKeys : List ℕ → SrtpProfile → (active : Bool) → Stage (PolledPeer I D S M N) E
  TakesKeys key profile active p Again q =
      m.media.keyed p.core.media key profile active (Ok tt) q.core.media × (q ≡ with_media q.core.media p)
  TakesKeys key profile active p (Error Alloc) q =
      m.media.keyed p.core.media key profile active (Err alloc_error) q.core.media
      × (q ≡ closed_peer (with_media q.core.media p))
  TakesKeys key profile active p r q = ⊥

  -- The other side closed the connection: closing begins, unless it has, and this is reported each time. The end of the handshake is then
  -- no longer reported.
  unfoldable pub TakesCloseNotify : Stage (PolledPeer I D S M N) E
  TakesCloseNotify p (Event ClosedEvent) q =
      (closing : PolledPeer I D S M N)
      × ClosesPeer m p (Ok tt) closing
      × (q ≡ with_handshake (silenced_handshake closing.transport.handshake) closing)
  TakesCloseNotify p (Error error) q = ClosesPeer m p (Err error) q
  TakesCloseNotify p r q = ⊥

  -- application data is a packet for the association, which is given it at the greatest moment that was taken (RFC 8261, section 5)
  unfoldable pub HandsPacket : List ℕ → Stage (PolledPeer I D S M N) E
  HandsPacket bytes p Again q =
      TakesInput m.association p.core.greatest bytes p.core.sctp (Ok tt) q.core.sctp × (q ≡ with_sctp q.core.sctp p)
  HandsPacket bytes p (Error Alloc) q =
      TakesInput m.association p.core.greatest bytes p.core.sctp (Err alloc_error) q.core.sctp
      × (q ≡ closed_peer (with_sctp q.core.sctp p))
  HandsPacket bytes p r q = ⊥

  -- what becomes of an output of the connection
  abbrev pub TakesDtlsOutput : DtlsOutput → Stage (PolledPeer I D S M N) E
  TakesDtlsOutput outputs.Connected p r q = (r ≡ Again) × (q ≡ with_handshake (finished_handshake p.transport.handshake) p)
  TakesDtlsOutput (outputs.KeyingMaterial key profile) p r q = TakesKeys key.now profile (is_dtls_client p.core.dtls.active) p r q
  TakesDtlsOutput (outputs.PeerCert cert) p r q = ChecksCert cert.now p r q
  TakesDtlsOutput (outputs.ApplicationData bytes) p r q = HandsPacket bytes.now p r q
  TakesDtlsOutput (outputs.Timeout moment) p r q =
      (r ≡ Nothing) × (q ≡ record p { transport = record p.transport { dtls_wake = moment } })
  TakesDtlsOutput outputs.CloseNotify p r q = TakesCloseNotify p r q

  -- what becomes of the result of its poll; running out of memory closes the peer
  abbrev pub TakesDtlsAnswer : Result DtlsOutput AllocError → Stage (PolledPeer I D S M N) E
  TakesDtlsAnswer (Ok output) p r q = TakesDtlsOutput output p r q
  TakesDtlsAnswer (Err error) p r q = (r ≡ Error Alloc) × (q ≡ closed_peer p)

  -- one output is polled; packets up to it are queued
  pub record PollsDtlsOutput (p : PolledPeer I D S M N) (r : Met E) (q : PolledPeer I D S M N) : Type 0 where
    pub answer : Result DtlsOutput AllocError
    pub dtls : DtlsState D
    pub by_poll : PollsOutput m.dtls p.core.dtls p.core.dtls.active answer dtls
    pub by_answer : TakesDtlsAnswer answer (with_dtls dtls p) r q

  -- outputs are polled up to the moment that the part asks for, which is kept
  abbrev pub PollsDtlsOutputs : Stage (PolledPeer I D S M N) E
  PollsDtlsOutputs = RepeatsStage PollsDtlsOutput
