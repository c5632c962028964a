-- What a close does to the counts of faults, call by call: none falls, and an error that tells a fault of a part comes only where that
-- part's count rose.
use Rattle.std.proofs.Common.{◌≡◌, false, Result, Ok, Err, alloc_error, refl, ap}
use Rattle.rtc_parts.specs.Why.{Shut}
use Rattle.rtc_parts.specs.declared.dtls_error.DtlsError.TheVariants.{Fault, Alloc as DtlsAlloc}
use Rattle.rtc_parts.specs.MediaActs.{MediaStirred}
use Rattle.rtc_sctp_values.specs.declared.proto_error.ProtoError.TheVariants as proto
use Rattle.rtc_sctp_values.specs.declared.sctp_error.SctpError.TheVariants as sctp
use Rattle.rtc_peer_core.specs.declared.phase.Phase.{Phase}
use Rattle.rtc_peer_core.specs.declared.phase.Phase.TheVariants.{Alive, Closing, Closed}
use Rattle.rtc_peer_core.specs.declared.rtc_error.RtcError.{RtcError}
use Rattle.rtc_peer_core.specs.declared.rtc_error.RtcError.TheVariants.{Dtls, Sctp, Alloc}
use Rattle.rtc_peer_core.specs.Meanings.{Meanings, PartsLaws}
use Rattle.rtc_peer_transport.specs.declared.polled_peer.PolledPeer.{PolledPeer}
use Rattle.rtc_peer_transport.specs.Closing.{ShutsMedia, ShutsStreams, ShutsDtls, BecomesClosing, BeginsClosing, ClosesPeer, ClosesPeerFrom}
use Rattle.rtc_peer_transport.specs.Stages.{Call, InTurn, Failed, Passed}
use Rattle.rtc_run_laws.proofs.GrowingCounts.{grows_quiet, answer_tells, shut_grows, media_faults, association_faults, Counts, SameParts, later_of, counts_on, counts_as, still_counts, dtls_counts, media_counts, association_counts}
use Rattle.rtc_run_laws.proofs.StreamFaults.{shuts_later, shuts_fault}

module _ {I D S M E X T W N : Type 0} (m : Meanings I D S M E X T W N) where
  -- a call counts what it answers
  abbrev pub CallCounts : Call (PolledPeer I D S M N) → Type 0
  CallCounts call = (p : PolledPeer I D S M N) (r : Result (Unit {0}) RtcError) (q : PolledPeer I D S M N) → call p r q → Counts m p (answer_tells r) q

  pub turn_counts : (first rest : Call (PolledPeer I D S M N)) → CallCounts first → CallCounts rest → CallCounts (InTurn first rest)
  turn_counts first rest one other p r q (Failed error is h) =
      counts_as m p q (answer_tells {A = Unit {0}} (Err error)) (answer_tells r) (λ part. ap (λ (x : Result (Unit {0}) RtcError). answer_tells x part) is) (one p (Err error) q h)
  turn_counts first rest one other p r q (Passed between h k) =
      counts_on m p between q (answer_tells r) (later_of m p (answer_tells {A = Unit {0}} (Ok tt)) between (one p (Ok tt) between h)) (other between r q k)

  -- a call that does nothing to the parts
  pub none_counts : (p n : PolledPeer I D S M N) (r : Result (Unit {0}) RtcError) (q : PolledPeer I D S M N) → r ≡ Ok tt → q ≡ n → SameParts m n p → Counts m p (answer_tells r) q
  none_counts p n r q ok is same = still_counts m p n q (answer_tells r) (λ part. ap (λ (x : Result (Unit {0}) RtcError). answer_tells x part) ok) is same

module _ {I D S M E X T W N : Type 0} (m : Meanings I D S M E X T W N) (laws : PartsLaws m) where
  shut_media_counts : CallCounts m (ShutsMedia m)
  unfolding ShutsMedia
  shut_media_counts p (Ok done) q h =
      media_counts m p q (answer_tells {A = Unit {0}} (Ok tt)) refl refl (ap (λ (x : PolledPeer I D S M N). x.core.sctp.association) h.1) (ap (λ (x : PolledPeer I D S M N). x.core.dtls.instance) h.1)
      (grows_quiet (media_faults m p) (media_faults m q) false refl (laws.media.faults_rise p.core.media q.core.media (MediaStirred Shut) (Ok tt, h.0)))
  shut_media_counts p (Err Alloc) q h =
      media_counts m p q (answer_tells {A = Unit {0}} (Err Alloc)) refl refl (ap (λ (x : PolledPeer I D S M N). x.core.sctp.association) h.1) (ap (λ (x : PolledPeer I D S M N). x.core.dtls.instance) h.1)
      (grows_quiet (media_faults m p) (media_faults m q) false refl (laws.media.faults_rise p.core.media q.core.media (MediaStirred Shut) (Err alloc_error, h.0)))
  shut_media_counts p (Err _) q h = absurd h

  shut_streams_counts : CallCounts m (ShutsStreams m)
  unfolding ShutsStreams
  shut_streams_counts p (Ok done) q h =
      association_counts m p q (answer_tells {A = Unit {0}} (Ok tt)) refl refl (ap (λ (x : PolledPeer I D S M N). x.core.dtls.instance) h.1) (ap (λ (x : PolledPeer I D S M N). x.core.media) h.1)
      (grows_quiet (association_faults m p) (association_faults m q) false refl (shuts_later m.association laws.association p.core.sctp (Ok tt) q.core.sctp h.0))
  shut_streams_counts p (Err (Sctp cause)) q h =
      association_counts m p q (answer_tells {A = Unit {0}} (Err (Sctp cause))) refl refl (ap (λ (x : PolledPeer I D S M N). x.core.dtls.instance) h.2) (ap (λ (x : PolledPeer I D S M N). x.core.media) h.2)
      (shuts_later m.association laws.association p.core.sctp (Err (sctp.Proto proto.Fault)) q.core.sctp h.1, λ told. shuts_fault m.association laws.association p.core.sctp q.core.sctp h.1)
  shut_streams_counts p (Err Alloc) q h =
      association_counts m p q (answer_tells {A = Unit {0}} (Err Alloc)) refl refl (ap (λ (x : PolledPeer I D S M N). x.core.dtls.instance) h.1) (ap (λ (x : PolledPeer I D S M N). x.core.media) h.1)
      (grows_quiet (association_faults m p) (association_faults m q) false refl (shuts_later m.association laws.association p.core.sctp (Err sctp.Alloc) q.core.sctp h.0))
  shut_streams_counts p (Err _) q h = absurd h

  shut_dtls_counts : CallCounts m (ShutsDtls m)
  unfolding ShutsDtls
  shut_dtls_counts p (Ok done) q h =
      dtls_counts m p q (answer_tells {A = Unit {0}} (Ok tt)) refl refl (ap (λ (x : PolledPeer I D S M N). x.core.sctp.association) h.1) (ap (λ (x : PolledPeer I D S M N). x.core.media) h.1)
      (shut_grows m.dtls laws.dtls p.core.dtls.instance (Ok tt) q.core.dtls.instance h.0)
  shut_dtls_counts p (Err (Dtls cause)) q h =
      dtls_counts m p q (answer_tells {A = Unit {0}} (Err (Dtls cause))) refl refl (ap (λ (x : PolledPeer I D S M N). x.core.sctp.association) h.2) (ap (λ (x : PolledPeer I D S M N). x.core.media) h.2)
      (shut_grows m.dtls laws.dtls p.core.dtls.instance (Err Fault) q.core.dtls.instance h.1)
  shut_dtls_counts p (Err Alloc) q h =
      dtls_counts m p q (answer_tells {A = Unit {0}} (Err Alloc)) refl refl (ap (λ (x : PolledPeer I D S M N). x.core.sctp.association) h.1) (ap (λ (x : PolledPeer I D S M N). x.core.media) h.1)
      (shut_grows m.dtls laws.dtls p.core.dtls.instance (Err DtlsAlloc) q.core.dtls.instance h.0)
  shut_dtls_counts p (Err _) q h = absurd h

  begins_count : CallCounts m (BeginsClosing m)
  begins_count =
      turn_counts m (ShutsMedia m) _ shut_media_counts
      (turn_counts m (ShutsStreams m) _ shut_streams_counts
      (turn_counts m (ShutsDtls m) BecomesClosing shut_dtls_counts (λ p r q h. none_counts m p _ r q h.0 h.1 (record { dtls = refl; media = refl; association = refl }))))

  closes_from_count : (phase : Phase) (p : PolledPeer I D S M N) (r : Result (Unit {0}) RtcError) (q : PolledPeer I D S M N)
      → ClosesPeerFrom m phase p r q → Counts m p (answer_tells r) q
  closes_from_count Alive p r q h = begins_count p r q h
  closes_from_count Closing p r q h = none_counts m p p r q h.0 h.1 (record { dtls = refl; media = refl; association = refl })
  closes_from_count Closed p r q h = none_counts m p p r q h.0 h.1 (record { dtls = refl; media = refl; association = refl })

  -- a close
  pub close_counts : (p : PolledPeer I D S M N) (r : Result (Unit {0}) RtcError) (q : PolledPeer I D S M N) → ClosesPeer m p r q → Counts m p (answer_tells r) q
  close_counts p r q h = closes_from_count p.core.phase p r q h
