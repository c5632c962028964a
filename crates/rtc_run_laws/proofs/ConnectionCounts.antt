-- What the stages of a poll that serve the connection do to the counts of faults.
use Rattle.std.proofs.Common.{inr, ℕ, Bool, true, false, List, Option, Some, None, Result, Ok, Err, alloc_error, refl, ap}
use Rattle.std.specs.declared.alloc.AllocError.{AllocError}
use Rattle.rtc_parts.specs.Why.{Other}
use Rattle.rtc_parts.specs.declared.srtp_profile.SrtpProfile.{SrtpProfile}
use Rattle.rtc_parts.specs.declared.ice_event.IceEvent.{IceEvent}
use Rattle.rtc_parts.specs.declared.dtls_error.DtlsError.TheVariants.{Fault, Alloc as DtlsAlloc}
use Rattle.rtc_parts.specs.declared.dtls_output.DtlsOutput.{DtlsOutput}
use Rattle.rtc_parts.specs.declared.dtls_output.DtlsOutput.TheVariants as outputs
use Rattle.rtc_parts.specs.MediaActs.{MediaStirred, Keyed}
use Rattle.rtc_peer_core.specs.declared.rtc_error.RtcError.TheVariants.{RemoteSdp, Dtls, Alloc}
use Rattle.rtc_peer_core.specs.Meanings.{Meanings, PartsLaws}
use Rattle.rtc_peer_transport.specs.declared.event.Event.TheVariants as told
use Rattle.rtc_peer_transport.specs.declared.handshake.Handshake.{Handshake}
use Rattle.rtc_peer_transport.specs.declared.handshake.Handshake.TheVariants.{Pending, Finished, Told}
use Rattle.rtc_peer_transport.specs.declared.met.Met.{Met}
use Rattle.rtc_peer_transport.specs.declared.met.Met.TheVariants.{Nothing, Again, Event as MetEvent, Error}
use Rattle.rtc_peer_transport.specs.declared.polled_peer.PolledPeer.{PolledPeer}
use Rattle.rtc_peer_transport.specs.Connection.{with_dtls, with_ice}
use Rattle.rtc_peer_polling.specs.DtlsStages.{GivesDtlsTime, TimesDtls, TimesDtlsIf, TakesDtlsOutput, TakesDtlsAnswer, PollsDtlsOutput}
use Rattle.rtc_peer_polling.specs.DtlsStages.{PollsDtlsOutputs, TakesKeys, TakesCloseNotify, HandsPacket, ChecksCert, TellsConnectedFrom, is_dtls_due}
use Rattle.rtc_peer_polling.specs.IceStages.{PollsIceEvent, PollsIceEvents, TakesIceEvent, met_of_ice_event}
use Rattle.rtc_peer_polling.specs.Walk.{TellsConnection}
use Rattle.rtc_run_laws.proofs.GrowingCounts.{grows_quiet, answer_tells, timed_grows, hands_grow, polls_later, association_faults, Counts, later_of, counts_on, counts_as, same_media, same_association, dtls_counts, media_counts, association_counts}
use Rattle.rtc_run_laws.proofs.StreamFaults.{input_later}
use Rattle.rtc_run_laws.proofs.ClosingCounts.{close_counts}
use Rattle.rtc_run_laws.proofs.StageCounts.{CountsStage, met_tells, event_untold, else_counts, repeats_count, still}

module _ {I D S M E X T W N : Type 0} (m : Meanings I D S M E X T W N) (laws : PartsLaws m) where
  -- ---- the connection

  ice_event_counts : (event : Option IceEvent) (ice : I) (p : PolledPeer I D S M N) (r : Met E) (q : PolledPeer I D S M N)
      → TakesIceEvent event (with_ice ice p) r q → Counts m p (met_tells r) q
  ice_event_counts None ice p r q taken = still m p _ Nothing r q (λ part. refl) taken.0 taken.1 (record { dtls = refl; media = refl; association = refl })
  ice_event_counts (Some event) ice p r q taken = still m p _ (met_of_ice_event event) r q (event_untold E event) taken.0 taken.1 (record { dtls = refl; media = refl; association = refl })

  ice_events_count : CountsStage m (PollsIceEvents m)
  ice_events_count = repeats_count m (PollsIceEvent m) (λ p r q turn. ice_event_counts turn.event turn.ice p r q turn.by_event)

  given_time_counts : CountsStage m (GivesDtlsTime m)
  unfolding GivesDtlsTime
  given_time_counts p Nothing q h =
      dtls_counts m p q (met_tells {E = E} Nothing) refl refl (ap (λ (x : PolledPeer I D S M N). x.core.sctp.association) h.1) (ap (λ (x : PolledPeer I D S M N). x.core.media) h.1)
      (hands_grow m.dtls laws.dtls p.core.dtls p.core.dtls.active (λ i r j. m.dtls.timed i p.core.greatest r j) (Ok tt) q.core.dtls (timed_grows m.dtls laws.dtls p.core.greatest) h.0)
  given_time_counts p (Error (Dtls cause)) q h =
      dtls_counts m p q (met_tells {E = E} (Error (Dtls cause))) refl refl (ap (λ (x : PolledPeer I D S M N). x.core.sctp.association) h.2) (ap (λ (x : PolledPeer I D S M N). x.core.media) h.2)
      (hands_grow m.dtls laws.dtls p.core.dtls p.core.dtls.active (λ i r j. m.dtls.timed i p.core.greatest r j) (Err Fault) q.core.dtls (timed_grows m.dtls laws.dtls p.core.greatest) h.1)
  given_time_counts p (Error Alloc) q h =
      dtls_counts m p q (met_tells {E = E} (Error Alloc)) refl refl (ap (λ (x : PolledPeer I D S M N). x.core.sctp.association) h.1) (ap (λ (x : PolledPeer I D S M N). x.core.media) h.1)
      (hands_grow m.dtls laws.dtls p.core.dtls p.core.dtls.active (λ i r j. m.dtls.timed i p.core.greatest r j) (Err DtlsAlloc) q.core.dtls (timed_grows m.dtls laws.dtls p.core.greatest) h.0)
  given_time_counts p _ q h = absurd h

  times_count : (due : Bool) (p : PolledPeer I D S M N) (r : Met E) (q : PolledPeer I D S M N) → TimesDtlsIf m due p r q → Counts m p (met_tells r) q
  times_count true p r q h = given_time_counts p r q h
  times_count false p r q h = still m p p Nothing r q (λ part. refl) h.0 h.1 (record { dtls = refl; media = refl; association = refl })

  keys_count : (key : List ℕ) (profile : SrtpProfile) (active : Bool) → CountsStage m (TakesKeys m key profile active)
  unfolding TakesKeys
  keys_count key profile active p Again q h =
      media_counts m p q (met_tells {E = E} Again) refl refl (ap (λ (x : PolledPeer I D S M N). x.core.sctp.association) h.1) (ap (λ (x : PolledPeer I D S M N). x.core.dtls.instance) h.1)
      (grows_quiet (m.media.faults p.core.media) (m.media.faults q.core.media) false refl
      (laws.media.faults_rise p.core.media q.core.media (MediaStirred Other) (inr (inr (Keyed key profile active (Ok tt) h.0)))))
  keys_count key profile active p (Error Alloc) q h =
      media_counts m p q (met_tells {E = E} (Error Alloc)) refl refl (ap (λ (x : PolledPeer I D S M N). x.core.sctp.association) h.1) (ap (λ (x : PolledPeer I D S M N). x.core.dtls.instance) h.1)
      (grows_quiet (m.media.faults p.core.media) (m.media.faults q.core.media) false refl
      (laws.media.faults_rise p.core.media q.core.media (MediaStirred Other) (inr (inr (Keyed key profile active (Err alloc_error) h.0)))))
  keys_count key profile active p _ q h = absurd h

  cert_counts : (cert : List ℕ) → CountsStage m (ChecksCert {I = I} {D = D} {S = S} {M = M} {E = E} {N = N} cert)
  unfolding ChecksCert
  cert_counts cert p Again q h = still m p _ Again Again q (λ part. refl) refl h.3 (record { dtls = refl; media = refl; association = refl })
  cert_counts cert p (Error (RemoteSdp why)) q h = still m p _ (Error (RemoteSdp why)) (Error (RemoteSdp why)) q (λ part. refl) refl h.3 (record { dtls = refl; media = refl; association = refl })
  cert_counts cert p (Error Alloc) q h = still m p _ (Error Alloc) (Error Alloc) q (λ part. refl) refl h (record { dtls = refl; media = refl; association = refl })
  cert_counts cert p _ q h = absurd h

  close_notify_counts : CountsStage m (TakesCloseNotify m)
  unfolding TakesCloseNotify
  close_notify_counts p (MetEvent told.Closed) q h =
      counts_on m p h.0 q (met_tells {E = E} (MetEvent told.Closed)) (later_of m p (answer_tells {A = Unit {0}} (Ok tt)) h.0 (close_counts m laws p (Ok tt) h.0 h.1))
      (still m h.0 _ (MetEvent told.Closed) (MetEvent told.Closed) q (λ part. refl) refl h.2 (record { dtls = refl; media = refl; association = refl }))
  close_notify_counts p (Error error) q h =
      counts_as m p q (answer_tells {A = Unit {0}} (Err error)) (met_tells {E = E} (Error error)) (λ part. refl) (close_counts m laws p (Err error) q h)
  close_notify_counts p _ q h = absurd h

  -- a packet that the association is handed
  packet_counts : (bytes : List ℕ) → CountsStage m (HandsPacket m bytes)
  unfolding HandsPacket
  packet_counts bytes p Again q h =
      association_counts m p q (met_tells {E = E} Again) refl refl (ap (λ (x : PolledPeer I D S M N). x.core.dtls.instance) h.1) (ap (λ (x : PolledPeer I D S M N). x.core.media) h.1)
      (grows_quiet (association_faults m p) (association_faults m q) false refl (input_later m.association laws.association p.core.greatest bytes p.core.sctp (Ok tt) q.core.sctp h.0))
  packet_counts bytes p (Error Alloc) q h =
      association_counts m p q (met_tells {E = E} (Error Alloc)) refl refl (ap (λ (x : PolledPeer I D S M N). x.core.dtls.instance) h.1) (ap (λ (x : PolledPeer I D S M N). x.core.media) h.1)
      (grows_quiet (association_faults m p) (association_faults m q) false refl (input_later m.association laws.association p.core.greatest bytes p.core.sctp (Err alloc_error) q.core.sctp h.0))
  packet_counts bytes p _ q h = absurd h

  output_counts : (output : DtlsOutput) → CountsStage m (TakesDtlsOutput m output)
  output_counts outputs.Connected p r q h = still m p _ Again r q (λ part. refl) h.0 h.1 (record { dtls = refl; media = refl; association = refl })
  output_counts (outputs.KeyingMaterial key profile) p r q h = keys_count key.now profile _ p r q h
  output_counts (outputs.PeerCert cert) p r q h = cert_counts cert.now p r q h
  output_counts (outputs.ApplicationData bytes) p r q h = packet_counts bytes.now p r q h
  output_counts (outputs.Timeout moment) p r q h = still m p _ Nothing r q (λ part. refl) h.0 h.1 (record { dtls = refl; media = refl; association = refl })
  output_counts outputs.CloseNotify p r q h = close_notify_counts p r q h

  answer_counts : (answer : Result DtlsOutput AllocError) → CountsStage m (TakesDtlsAnswer m answer)
  answer_counts (Ok output) p r q h = output_counts output p r q h
  answer_counts (Err error) p r q h = still m p _ (Error Alloc) r q (λ part. refl) h.0 h.1 (record { dtls = refl; media = refl; association = refl })

  dtls_outputs_count : CountsStage m (PollsDtlsOutputs m)
  dtls_outputs_count =
      repeats_count m (PollsDtlsOutput m)
      (λ p r q turn. counts_on m p (with_dtls turn.dtls p) q (met_tells r)
      (record {
        dtls = polls_later m.dtls laws.dtls p.core.dtls p.core.dtls.active turn.answer turn.dtls turn.by_poll;
        media = same_media m p (with_dtls turn.dtls p) refl;
        association = same_association m p (with_dtls turn.dtls p) refl;
      })
      (answer_counts turn.answer (with_dtls turn.dtls p) r q turn.by_answer))

  connected_counts : (handshake : Handshake) (p : PolledPeer I D S M N) (r : Met E) (q : PolledPeer I D S M N) → TellsConnectedFrom handshake p r q
      → Counts m p (met_tells r) q
  connected_counts Pending p r q h = still m p p Nothing r q (λ part. refl) h.0 h.1 (record { dtls = refl; media = refl; association = refl })
  connected_counts Finished p r q h = still m p _ (MetEvent told.Connected) r q (λ part. refl) h.0 h.1 (record { dtls = refl; media = refl; association = refl })
  connected_counts Told p r q h = still m p p Nothing r q (λ part. refl) h.0 h.1 (record { dtls = refl; media = refl; association = refl })

  pub connection_counts : CountsStage m (TellsConnection m)
  unfolding TellsConnection
  connection_counts =
      else_counts m (PollsIceEvents m) _ ice_events_count
      (else_counts m (TimesDtls m) _ (λ p r q h. times_count (is_dtls_due p) p r q h)
      (else_counts m (PollsDtlsOutputs m) _ dtls_outputs_count (λ p r q h. connected_counts p.transport.handshake p r q h)))
