-- What closing does to the parts of a peer.
use Rattle.std.proofs.Common.{◌≡◌, ◌∷◌, ℕ, List, [], Result, Ok, Err, alloc_error, append-nil, refl, sym, ap, subst, ◌∙◌}
use Rattle.std.specs.declared.alloc.AllocError.{AllocError}
use Rattle.rtc_parts.specs.Why.{Shut}
use Rattle.rtc_parts.specs.Among.{Among}
use Rattle.rtc_parts.proofs.AmongLemmas.{among_none, among_self}
use Rattle.rtc_parts.specs.AssociationLaws.{AssociationLaws}
use Rattle.rtc_parts.specs.declared.dtls_error.DtlsError.{DtlsError}
use Rattle.rtc_parts.specs.declared.dtls_error.DtlsError.TheVariants.{Fault, Alloc as DtlsAlloc}
use Rattle.rtc_parts.specs.DtlsActs.{Stirred, Closed as DtlsClosed, dtls_moved-one}
use Rattle.rtc_parts.specs.MediaActs.{MediaStirred, media_moved-one}
use Rattle.rtc_sctp_laws.specs.StreamActs.{CallDid}
use Rattle.rtc_sctp_laws.specs.StreamMessages.{StreamMessage, pushed_packets}
use Rattle.rtc_sctp_laws.proofs.CallActs.{shuts_did}
use Rattle.rtc_peer_core.specs.declared.phase.Phase.{Phase}
use Rattle.rtc_peer_core.specs.declared.phase.Phase.TheVariants.{Alive, Closing, Closed}
use Rattle.rtc_peer_core.specs.declared.rtc_error.RtcError.{RtcError}
use Rattle.rtc_peer_core.specs.declared.rtc_error.RtcError.TheVariants.{Dtls, Sctp, Alloc}
use Rattle.rtc_peer_core.specs.Meanings.{Meanings}
use Rattle.rtc_peer_transport.specs.declared.polled_peer.PolledPeer.{PolledPeer}
use Rattle.rtc_peer_transport.specs.Closing.{ShutsMedia, ShutsStreams, ShutsDtls, BecomesClosing, BeginsClosing, ClosesPeer, ClosesPeerFrom}
use Rattle.rtc_peer_transport.specs.Stages.{Call, InTurn, Failed, Passed}
use Rattle.rtc_peer_laws.specs.PeerActs.{Came, queue_and_role}
use Rattle.rtc_peer_laws.specs.Acts.{PeerDid}
use Rattle.rtc_peer_laws.proofs.ActJoins.{SameParts, did_by, dtls_did, media_did, still_did, streams_did, did_on}

-- what holds of one peer and another holds of what is the other
pub beside : {I D S M N : Type 0} (R : PolledPeer I D S M N → PolledPeer I D S M N → Type 0) (p n q : PolledPeer I D S M N) → q ≡ n → R p n → R p q
beside {I} {D} {S} {M} {N} R p n q is h = subst (λ (x : PolledPeer I D S M N). R p x) (sym is) h

-- what stays where one part alone was called
abbrev pub BesideIce : {I D S M N : Type 0} → PolledPeer I D S M N → PolledPeer I D S M N → Type 0
BesideIce p q = (q.core.dtls ≡ p.core.dtls) × (q.core.sctp ≡ p.core.sctp) × (q.core.media ≡ p.core.media) × (q.core.greatest ≡ p.core.greatest) × (q.core.channels ≡ p.core.channels)

abbrev pub BesideDtls : {I D S M N : Type 0} → PolledPeer I D S M N → PolledPeer I D S M N → Type 0
BesideDtls p q = (q.core.ice ≡ p.core.ice) × (q.core.sctp ≡ p.core.sctp) × (q.core.media ≡ p.core.media) × (q.core.greatest ≡ p.core.greatest) × (q.core.channels ≡ p.core.channels)

abbrev pub BesideStreams : {I D S M N : Type 0} → PolledPeer I D S M N → PolledPeer I D S M N → Type 0
BesideStreams p q = (q.core.ice ≡ p.core.ice) × (q.core.dtls ≡ p.core.dtls) × (q.core.media ≡ p.core.media) × (q.core.greatest ≡ p.core.greatest)

abbrev pub BesideMedia : {I D S M N : Type 0} → PolledPeer I D S M N → PolledPeer I D S M N → Type 0
BesideMedia p q = (q.core.ice ≡ p.core.ice) × (q.core.dtls ≡ p.core.dtls) × (q.core.sctp ≡ p.core.sctp) × (q.core.greatest ≡ p.core.greatest) × (q.core.channels ≡ p.core.channels)

module _ {I D S M E X T W N : Type 0} (m : Meanings I D S M E X T W N) (came : Came) (moments : List ℕ) where
  -- a call on the streams to which nothing was given
  pub call_did : (wrote : List StreamMessage) (p q : PolledPeer I D S M N) → CallDid m.association [] wrote p.core.sctp q.core.sctp
      → BesideStreams p q → PeerDid m came moments [] wrote [] p q
  call_did wrote p q h beside =
      streams_did m came moments [] [] wrote [] p q h.did
      (ap pushed_packets h.pushed_is ∙ sym (append-nil (pushed_packets p.core.sctp.pushed)))
      beside.0 (ap (λ d. d.instance) beside.1) (ap queue_and_role beside.1) beside.2

  -- a call acts, whatever it answers
  abbrev pub CallActs : Call (PolledPeer I D S M N) → Type 0
  CallActs call = (p : PolledPeer I D S M N) (r : Result (Unit {0}) RtcError) (q : PolledPeer I D S M N) → call p r q → PeerDid m came moments [] [] [] p q

  module _ (laws : AssociationLaws m.association) where
    pub did_after : (p q r : PolledPeer I D S M N) → PeerDid m came moments [] [] [] p q → PeerDid m came moments [] [] [] q r
        → PeerDid m came moments [] [] [] p r
    did_after p q r a b = did_on m laws came moments [] [] [] [] [] [] p q r a b

    pub turn_acts : (first rest : Call (PolledPeer I D S M N)) → CallActs first → CallActs rest → CallActs (InTurn first rest)
    turn_acts first rest one other p r q (Failed error is h) = one p (Err error) q h
    turn_acts first rest one other p r q (Passed between h k) = did_after p between q (one p (Ok tt) between h) (other between r q k)

  shut_media : (r : Result (Unit {0}) AllocError) (p q : PolledPeer I D S M N) → m.media.rtp_shut p.core.media r q.core.media → BesideMedia p q
      → PeerDid m came moments [] [] [] p q
  shut_media r p q h beside =
      media_did m came moments [] p q (MediaStirred Shut ∷ []) (media_moved-one m.media p.core.media q.core.media (MediaStirred Shut) (r, h))
      (among_none came.media) (among_none moments) (among_none []) beside.0 (ap (λ d. d.instance) beside.1) (ap queue_and_role beside.1) beside.2

  media_acts : CallActs (ShutsMedia m)
  unfolding ShutsMedia
  media_acts p (Ok done) q h = shut_media (Ok tt) p q h.0 (beside BesideMedia p _ q h.1 (refl, refl, refl, refl, refl))
  media_acts p (Err Alloc) q h = shut_media (Err alloc_error) p q h.0 (beside BesideMedia p _ q h.1 (refl, refl, refl, refl, refl))
  media_acts p (Err _) q h = absurd h

  streams_act : CallActs (ShutsStreams m)
  unfolding ShutsStreams
  streams_act p (Ok done) q h =
      call_did [] p q (shuts_did m.association p.core.sctp (Ok tt) q.core.sctp h.0) (beside BesideStreams p _ q h.1 (refl, refl, refl, refl))
  streams_act p (Err (Sctp cause)) q h =
      call_did [] p q (shuts_did m.association p.core.sctp _ q.core.sctp h.1) (beside BesideStreams p _ q h.2 (refl, refl, refl, refl))
  streams_act p (Err Alloc) q h =
      call_did [] p q (shuts_did m.association p.core.sctp _ q.core.sctp h.0) (beside BesideStreams p _ q h.1 (refl, refl, refl, refl))
  streams_act p (Err _) q h = absurd h

  shut_dtls : (r : Result (Unit {0}) DtlsError) (p q : PolledPeer I D S M N) → m.dtls.shut p.core.dtls.instance r q.core.dtls.instance
      → queue_and_role q.core.dtls ≡ queue_and_role p.core.dtls → BesideDtls p q → PeerDid m came moments [] [] [] p q
  shut_dtls r p q h queue beside =
      dtls_did m came moments p q (Stirred (DtlsClosed r) ∷ [])
      (dtls_moved-one m.dtls p.core.dtls.instance q.core.dtls.instance (Stirred (DtlsClosed r)) h) (among_none came.dtls) (among_none moments) refl refl
      (subst (λ (l : List (List ℕ)). Among l p.core.dtls.packets) (sym (ap (λ x. x.0) queue)) (among_self p.core.dtls.packets)) (ap (λ x. x.1) queue)
      beside.0 beside.1 beside.2

  dtls_acts : CallActs (ShutsDtls m)
  unfolding ShutsDtls
  dtls_acts p (Ok done) q h =
      shut_dtls (Ok tt) p q h.0 (ap (λ (x : PolledPeer I D S M N). queue_and_role x.core.dtls) h.1) (beside BesideDtls p _ q h.1 (refl, refl, refl, refl, refl))
  dtls_acts p (Err (Dtls cause)) q h =
      shut_dtls (Err Fault) p q h.1 (ap (λ (x : PolledPeer I D S M N). queue_and_role x.core.dtls) h.2) (beside BesideDtls p _ q h.2 (refl, refl, refl, refl, refl))
  dtls_acts p (Err Alloc) q h =
      shut_dtls (Err DtlsAlloc) p q h.0 (ap (λ (x : PolledPeer I D S M N). queue_and_role x.core.dtls) h.1) (beside BesideDtls p _ q h.1 (refl, refl, refl, refl, refl))
  dtls_acts p (Err _) q h = absurd h

  -- nothing was done, to what is another peer
  pub still_by : (p n q : PolledPeer I D S M N) → q ≡ n → SameParts m p n → PeerDid m came moments [] [] [] p q
  still_by p n q is same = did_by m came moments [] [] [] p n q is (still_did m came moments p n same)

  module _ (laws : AssociationLaws m.association) where
    begins_acts : CallActs (BeginsClosing m)
    begins_acts =
        turn_acts laws (ShutsMedia m) _ media_acts
        (turn_acts laws (ShutsStreams m) _ streams_act
        (turn_acts laws (ShutsDtls m) BecomesClosing dtls_acts (λ p r q h. still_by p _ q h.1 (refl, refl, refl, refl, refl))))

    closes_from : (phase : Phase) → CallActs (ClosesPeerFrom m phase)
    closes_from Alive p r q h = begins_acts p r q h
    closes_from Closing p r q h = still_by p p q h.1 (refl, refl, refl, refl, refl)
    closes_from Closed p r q h = still_by p p q h.1 (refl, refl, refl, refl, refl)

    -- closing
    pub close_acts : CallActs (ClosesPeer m)
    close_acts p r q h = closes_from p.core.phase p r q h
