-- A call outside a run reports a fault only where a listed call failed: an acceptance, a write, and a start without descriptions.
use Rattle.std.proofs.Common.{◌≡◌, ◌≢◌, ℕ, Bool, true, false, not, List, [], ◌∷◌, length, nat_lt, Option, None, Result, Ok, Err, refl, sym, subst}
use Rattle.rtc_change.specs.PendingOffer.{PendingOffer}
use Rattle.rtc_io.specs.Faults.{Rose}
use Rattle.rtc_parts.specs.declared.dtls_error.DtlsError.{DtlsError}
use Rattle.rtc_parts.specs.declared.dtls_error.DtlsError.TheVariants.{WouldBlock, Fault, Alloc as DtlsAlloc}
use Rattle.rtc_peer_core.specs.Acceptances.{AcceptsAnswer, AcceptsOffer}
use Rattle.rtc_peer_core.specs.declared.rtc_error.RtcError.{RtcError}
use Rattle.rtc_peer_core.specs.declared.rtc_error.RtcError.TheVariants.{Dtls, Sctp}
use Rattle.rtc_peer_core.specs.PartMoves.{StartsDtls, StartsWhere, remote_limit}
use Rattle.rtc_peer_core.specs.RtcErrors.{error_of_sctp}
use Rattle.rtc_peer_direct.specs.ChannelMaking.{StartsStreams, start_answer}
use Rattle.rtc_peer_direct.specs.DtlsCalls.{TakesDtlsRole, role_answer}
use Rattle.rtc_peer_transport.specs.ChannelCalls.{WritesChannel, WritesIf, bytes_available, write_taken}
use Rattle.rtc_run_history.specs.Memory.{CountedPart, DtlsPart, AssociationPart, MediaPart, is_fault_of, is_sctp_fault}
use Rattle.rtc_run_history.specs.SoundParts.{faults_of}
use Rattle.rtc_run_laws.proofs.CountedFaults.{sctp_fault, start_fault}
use Rattle.rtc_run_laws.proofs.SideFaults.{answer_refused, offer_refused}
use Rattle.rtc_run_laws.proofs.StreamFaults.{writes_fault}
use Rattle.rtc_sctp.specs.Calls.{WritesStream}
use Rattle.rtc_sctp_values.specs.declared.proto_error.ProtoError.TheVariants as proto
use Rattle.rtc_sctp_values.specs.declared.sctp_error.SctpError.{SctpError}
use Rattle.rtc_sctp_values.specs.declared.sctp_error.SctpError.TheVariants as sctp
use Rattle.rtc_sctp_values.specs.InitHalves.{InitHalves}
use Rattle.rtc_sdp_values.specs.declared.line_row.LineRow.TheVariants.{App}
use Rattle.rtc_sdp_values.specs.declared.sdp.Sdp.{Sdp}
use Rattle.rtc_run_faulty.proofs.ListedCauses.{faulty_laws, listed_rose}
use Rattle.rtc_run_faulty.specs.FaultyParts.{FaultyCore, FaultyPolled, faulty_parts}
use Rattle.rtc_run_faulty.specs.ListedFaults.{HasListedCause}

-- the count of faults of this part rose
abbrev RoseOf : CountedPart → FaultyCore → FaultyCore → Type 0
RoseOf part p q = Rose (faults_of faulty_parts part p) (faults_of faulty_parts part q)

-- what a call returned reports no fault but of a listed call
abbrev Caused : {A : Type 0} → Result A RtcError → FaultyCore → FaultyCore → Type 0
Caused (Ok value) p q = Unit {0}
Caused (Err error) p q = HasListedCause p error q

-- ---- acceptances

rising_caused : (p q : FaultyCore) (error : RtcError) → ((part : CountedPart) → is_fault_of error part ≡ true → RoseOf part p q) → HasListedCause p error q
rising_caused p q error rose part told = listed_rose part p q (rose part told)

pub offer_caused : (p q : FaultyCore) (offer : Sdp) (error : RtcError) → AcceptsOffer faulty_parts p offer (Err error) q → HasListedCause p error q
offer_caused p q offer error h = rising_caused p q error (offer_refused faulty_parts faulty_laws p q offer error h).fault

pub answer_caused : (p q : FaultyCore) (token : PendingOffer) (answer : Sdp) (error : RtcError) → AcceptsAnswer faulty_parts p token answer (Err error) q
    → HasListedCause p error q
answer_caused p q token answer error h = rising_caused p q error (answer_refused faulty_parts faulty_laws p q token answer error h).fault

-- ---- errors of streams

sctp_caused : (cause : SctpError) (p q : FaultyCore) → (is_sctp_fault cause ≡ true → RoseOf AssociationPart p q) → HasListedCause p (Sctp cause) q
sctp_caused cause p q rose DtlsPart told = absurd (cc)
sctp_caused cause p q rose AssociationPart told = listed_rose AssociationPart p q (rose told)
sctp_caused cause p q rose MediaPart told = absurd (cc)

streams_caused : (cause : SctpError) (p q : FaultyCore) → (is_sctp_fault cause ≡ true → RoseOf AssociationPart p q) → HasListedCause p (error_of_sctp cause) q
streams_caused (sctp.Proto cause) p q rose = sctp_caused (sctp.Proto cause) p q rose
streams_caused sctp.WriteBeforeEstablished p q rose = sctp_caused sctp.WriteBeforeEstablished p q rose
streams_caused sctp.DcepOpenTooSmall p q rose = sctp_caused sctp.DcepOpenTooSmall p q rose
streams_caused sctp.DcepIncorrectMessageType p q rose = sctp_caused sctp.DcepIncorrectMessageType p q rose
streams_caused sctp.DcepBadUtf8 p q rose = sctp_caused sctp.DcepBadUtf8 p q rose
streams_caused sctp.InvalidSnap p q rose = sctp_caused sctp.InvalidSnap p q rose
streams_caused sctp.Alloc p q rose = λ part told. absurd (cc)

-- ---- writes

taken_caused : (stream : ℕ) (binary : Bool) (bytes : List ℕ) (p q : FaultyPolled) (answer : Result ℕ SctpError)
    → WritesStream faulty_parts.association stream binary bytes p.core.sctp answer q.core.sctp → Caused (write_taken answer) p.core q.core
taken_caused stream binary bytes p q (Ok count) h = tt
taken_caused stream binary bytes p q (Err cause) h =
    streams_caused cause p.core q.core
    (λ told. writes_fault faulty_parts.association faulty_laws.association stream binary bytes p.core.sctp cause q.core.sctp h told)

written_caused : (full : Bool) (stream : ℕ) (binary : Bool) (bytes : List ℕ) (p q : FaultyPolled) (error : RtcError)
    → WritesIf faulty_parts full stream binary bytes p (Err error) q → HasListedCause p.core error q.core
written_caused true stream binary bytes p q error h = absurd (let is = h.0 in cc)
written_caused false stream binary bytes p q error h =
    subst (λ (r : Result Bool RtcError). Caused r p.core q.core) (sym h.2) (taken_caused stream binary bytes p q h.0 h.1)

pub write_caused : (p q : FaultyPolled) (stream : ℕ) (binary : Bool) (bytes : List ℕ) (error : RtcError)
    → WritesChannel faulty_parts stream binary bytes p (Err error) q → HasListedCause p.core error q.core
write_caused p q stream binary bytes error h =
    written_caused (nat_lt (bytes_available faulty_parts p) (length bytes)) stream binary bytes p q error h

-- ---- starts without descriptions

dtls_caused : (p q : FaultyCore) → RoseOf DtlsPart p q → HasListedCause p (Dtls Fault) q
dtls_caused p q rose DtlsPart told = listed_rose DtlsPart p q rose
dtls_caused p q rose AssociationPart told = absurd (cc)
dtls_caused p q rose MediaPart told = absurd (cc)

role_taken : (active : Bool) (p q : FaultyPolled) (answer : Result (Unit {0}) DtlsError) → answer ≢ Err WouldBlock
    → StartsDtls faulty_parts.dtls p.core.dtls p.core.dtls.active active p.core.greatest answer q.core.dtls → Caused (role_answer answer) p.core q.core
role_taken active p q (Ok done) waits h = tt
role_taken active p q (Err WouldBlock) waits h = absurd (waits refl)
role_taken active p q (Err Fault) waits h =
    dtls_caused p.core q.core
    (start_fault faulty_parts.dtls faulty_laws.dtls p.core.dtls q.core.dtls p.core.dtls.active active p.core.greatest h)
role_taken active p q (Err DtlsAlloc) waits h = λ part told. absurd (cc)

pub role_caused : (p q : FaultyPolled) (active : Bool) (error : RtcError) → TakesDtlsRole faulty_parts.dtls active p (Err error) q
    → HasListedCause p.core error q.core
role_caused p q active error h =
    subst (λ (r : Result (Unit {0}) RtcError). Caused r p.core q.core) (sym h.3) (role_taken active p q h.0 h.2 h.1)

start_rose : (client : Bool) (halves : Option InitHalves) (p q : FaultyPolled) (cause : SctpError)
    → StartsWhere faulty_parts.association (not (faulty_parts.association.started p.core.sctp.association)) p.core.sctp client p.core.greatest
    (remote_limit None) halves false (Err cause) q.core.sctp
    → is_sctp_fault cause ≡ true → RoseOf AssociationPart p.core q.core
start_rose client halves p q (sctp.Proto proto.Fault) h told =
    sctp_fault faulty_parts.association faulty_laws.association p.core.sctp q.core.sctp (App 0 [] ∷ []) client p.core.greatest (remote_limit None)
    halves false h
start_rose client halves p q (sctp.Proto proto.Started) h told = absurd (cc)
start_rose client halves p q (sctp.Proto proto.SnapHalf) h told = absurd (cc)
start_rose client halves p q (sctp.Proto (proto.TooLong len max)) h told = absurd (cc)
start_rose client halves p q (sctp.Proto (proto.NoStream id)) h told = absurd (cc)
start_rose client halves p q sctp.WriteBeforeEstablished h told = absurd (cc)
start_rose client halves p q sctp.DcepOpenTooSmall h told = absurd (cc)
start_rose client halves p q sctp.DcepIncorrectMessageType h told = absurd (cc)
start_rose client halves p q sctp.DcepBadUtf8 h told = absurd (cc)
start_rose client halves p q sctp.InvalidSnap h told = absurd (cc)
start_rose client halves p q sctp.Alloc h told = absurd (cc)

started_caused : (client : Bool) (halves : Option InitHalves) (p q : FaultyPolled) (answer : Result (Unit {0}) SctpError)
    → StartsWhere faulty_parts.association (not (faulty_parts.association.started p.core.sctp.association)) p.core.sctp client p.core.greatest
    (remote_limit None) halves false answer q.core.sctp
    → Caused (start_answer answer) p.core q.core
started_caused client halves p q (Ok done) h = tt
started_caused client halves p q (Err cause) h = streams_caused cause p.core q.core (λ told. start_rose client halves p q cause h told)

pub start_caused : (p q : FaultyPolled) (client : Bool) (halves : Option InitHalves) (error : RtcError)
    → StartsStreams faulty_parts.association client halves p (Err error) q → HasListedCause p.core error q.core
start_caused p q client halves error h =
    subst (λ (r : Result (Unit {0}) RtcError). Caused r p.core q.core) (sym h.2) (started_caused client halves p q h.0 h.1)
