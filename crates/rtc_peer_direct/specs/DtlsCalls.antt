-- What a user does to the DTLS part of a peer without session descriptions.
use Rattle.std.specs.Prelude.{◌≡◌, ◌≢◌, Bool, Some, Result, Ok, Err}
use Rattle.rtc_sdp_values.specs.declared.fingerprint.Fingerprint.{Fingerprint}
use Rattle.rtc_parts.specs.DtlsMeaning.{DtlsMeaning}
use Rattle.rtc_parts.specs.declared.dtls_error.DtlsError.{DtlsError}
use Rattle.rtc_parts.specs.declared.dtls_error.DtlsError.TheVariants.{WouldBlock}
use Rattle.rtc_peer_core.specs.declared.rtc_error.RtcError.{RtcError}
use Rattle.rtc_peer_core.specs.PartMoves.{StartsDtls}
use Rattle.rtc_peer_core.specs.RtcErrors.{error_of_dtls}
use Rattle.rtc_peer_transport.specs.declared.polled_peer.PolledPeer.{PolledPeer}
use Rattle.rtc_peer_transport.specs.Connection.{with_dtls}

-- the peer with another fingerprint that the certificate of the other side has to match
abbrev pub with_fingerprint : {I D S M N : Type 0} → Fingerprint → PolledPeer I D S M N → PolledPeer I D S M N
with_fingerprint fingerprint p = record p { core = record p.core { fingerprint = Some fingerprint } }

-- what the start of the DTLS part returns, as a peer reports it
abbrev pub role_answer : Result (Unit {0}) DtlsError → Result (Unit {0}) RtcError
role_answer (Ok done) = Ok tt
role_answer (Err error) = Err (error_of_dtls error)

-- A DTLS role is taken if there is none, at the greatest moment that was given; if there is one, it is Ok and nothing changes. A fault of
-- the part, or running out of memory in it, is returned, and nothing but the part has changed; it never has to wait.
abbrev pub TakesDtlsRole : {I D S M N : Type 0} → DtlsMeaning D → (active : Bool) → PolledPeer I D S M N
    → Result (Unit {0}) RtcError → PolledPeer I D S M N → Type 0
TakesDtlsRole dtls active p r q =
    (answer : Result (Unit {0}) DtlsError)
    × StartsDtls dtls p.core.dtls p.core.dtls.active active p.core.greatest answer q.core.dtls
    × (answer ≢ Err WouldBlock)
    × (r ≡ role_answer answer)
    × (q ≡ with_dtls q.core.dtls p)
