-- What a poll takes from the streams, and what it sends of their packets, does to the counts of faults.
use Rattle.std.proofs.Common.{inl, inr, ℕ, Bool, false, List, [], ◌∷◌, Option, Some, None, Result, Ok, Err, refl, ap}
use Rattle.std.specs.declared.alloc.AllocError.{AllocError}
use Rattle.rtc_parts.specs.declared.dtls_error.DtlsError.TheVariants.{Fault, Alloc as DtlsAlloc}
use Rattle.rtc_parts.specs.DtlsState.{can_send}
use Rattle.rtc_sctp_entries.specs.declared.sctp_event.SctpEvent.{SctpEvent}
use Rattle.rtc_sctp_entries.specs.declared.sctp_event.SctpEvent.TheVariants as event
use Rattle.rtc_channels.specs.Holds.{holds_lost}
use Rattle.rtc_peer_core.specs.declared.rtc_error.RtcError.TheVariants.{Dtls, Alloc}
use Rattle.rtc_peer_core.specs.Meanings.{Meanings, PartsLaws}
use Rattle.rtc_peer_transport.specs.declared.event.Event.TheVariants as told
use Rattle.rtc_peer_transport.specs.declared.met.Met.TheVariants.{Nothing, Again, Event as MetEvent, Error}
use Rattle.rtc_peer_transport.specs.declared.polled_peer.PolledPeer.{PolledPeer}
use Rattle.rtc_peer_transport.specs.Connection.{with_sctp, with_channels, with_pushed}
use Rattle.rtc_peer_polling.specs.StreamStages.{OpensChannelOver, ClosesChannelOver, HearsChannelOver, FallsChannelOver, LosesAssociation, TakesStreamEvent, TakesStreamAnswer}
use Rattle.rtc_peer_polling.specs.StreamStages.{PollsStreamEvent, PollsStreamEvents, SendsPacket, SendsFirst, SendsKeptPackets, TellsStreams, channel_over}
use Rattle.rtc_run_laws.proofs.GrowingCounts.{grows_quiet, answer_tells, sends_grow, dtls_faults, same_dtls, same_media, same_later, counts_on, counts_as, dtls_counts}
use Rattle.rtc_run_laws.proofs.StageCounts.{CountsStage, met_tells, else_counts, repeats_count, still}
use Rattle.rtc_run_laws.proofs.ClosingCounts.{close_counts}
use Rattle.rtc_run_laws.proofs.StreamFaults.{stream_poll_later}

module _ {I D S M E X T W N : Type 0} (m : Meanings I D S M E X T W N) (laws : PartsLaws m) where
  -- ---- events of streams

  opens_count : (stream : ℕ) (label : List ℕ) → CountsStage m (OpensChannelOver {I = I} {D = D} {S = S} {M = M} {E = E} {N = N} stream label)
  unfolding OpensChannelOver
  opens_count stream label p (MetEvent (told.ChannelOpen id text)) q h =
      still m p _ (MetEvent (told.ChannelOpen id text)) (MetEvent (told.ChannelOpen id text)) q (λ part. refl) refl h.2 (record { dtls = refl; media = refl; association = refl })
  opens_count stream label p Again q h = still m p _ Again Again q (λ part. refl) refl h.1 (record { dtls = refl; media = refl; association = refl })
  opens_count stream label p (Error Alloc) q h = still m p _ (Error Alloc) (Error Alloc) q (λ part. refl) refl h (record { dtls = refl; media = refl; association = refl })
  opens_count stream label p _ q h = absurd h

  closes_count : (id : Option ℕ) (pending : Bool) → CountsStage m (ClosesChannelOver {I = I} {D = D} {S = S} {M = M} {E = E} {N = N} id pending)
  closes_count (Some id) pending p r q h = still m p _ (MetEvent (told.ChannelClose id)) r q (λ part. refl) h.0 h.1 (record { dtls = refl; media = refl; association = refl })
  closes_count None pending p r q h = still m p p Again r q (λ part. refl) h.0 h.1 (record { dtls = refl; media = refl; association = refl })

  hears_channel_counts : (id : Option ℕ) (binary : Bool) (bytes : List ℕ) → CountsStage m (HearsChannelOver {I = I} {D = D} {S = S} {M = M} {E = E} {N = N} id binary bytes)
  hears_channel_counts (Some id) binary bytes p r q h =
      still m p p (MetEvent (told.ChannelData (record { id = id; binary = binary; bytes = bytes }))) r q (λ part. refl) h.0 h.1 (record { dtls = refl; media = refl; association = refl })
  hears_channel_counts None binary bytes p r q h = still m p p Again r q (λ part. refl) h.0 h.1 (record { dtls = refl; media = refl; association = refl })

  falls_count : (id : Option ℕ) → CountsStage m (FallsChannelOver {I = I} {D = D} {S = S} {M = M} {E = E} {N = N} id)
  falls_count (Some id) p r q h = still m p p (MetEvent (told.ChannelBufferedAmountLow id)) r q (λ part. refl) h.0 h.1 (record { dtls = refl; media = refl; association = refl })
  falls_count None p r q h = still m p p Again r q (λ part. refl) h.0 h.1 (record { dtls = refl; media = refl; association = refl })

  lost_counts : CountsStage m (LosesAssociation m)
  unfolding LosesAssociation
  lost_counts p (MetEvent told.Closed) q h =
      let lost : PolledPeer I D S M N = with_channels (holds_lost p.core.channels) p in
      counts_on m p lost q (met_tells {E = E} (MetEvent told.Closed)) (same_later m p lost lost refl (record { dtls = refl; media = refl; association = refl }))
      (counts_as m lost q (answer_tells {A = Unit {0}} (Ok tt)) (met_tells {E = E} (MetEvent told.Closed)) (λ part. refl) (close_counts m laws lost (Ok tt) q h))
  lost_counts p (Error error) q h =
      let lost : PolledPeer I D S M N = with_channels (holds_lost p.core.channels) p in
      counts_on m p lost q (met_tells {E = E} (Error error)) (same_later m p lost lost refl (record { dtls = refl; media = refl; association = refl }))
      (counts_as m lost q (answer_tells {A = Unit {0}} (Err error)) (met_tells {E = E} (Error error)) (λ part. refl) (close_counts m laws lost (Err error) q h))
  lost_counts p _ q h = absurd h

  stream_event_counts : (e : SctpEvent) → CountsStage m (TakesStreamEvent m e)
  stream_event_counts (event.Transmit packets) p r q h = still m p _ Nothing r q (λ part. refl) h.0 h.1 (record { dtls = refl; media = refl; association = refl })
  stream_event_counts (event.Open stream label) p r q h = opens_count stream label p r q h
  stream_event_counts (event.Close stream pending) p r q h = closes_count (channel_over stream p.core.channels) pending p r q h
  stream_event_counts (event.StreamResetComplete stream) p r q h = still m p _ Again r q (λ part. refl) h.0 h.1 (record { dtls = refl; media = refl; association = refl })
  stream_event_counts (event.Data stream binary bytes) p r q h = hears_channel_counts (channel_over stream p.core.channels) binary bytes p r q h
  stream_event_counts (event.BufferedAmountLow stream) p r q h = falls_count (channel_over stream p.core.channels) p r q h
  stream_event_counts event.AssociationLost p r q h = lost_counts p r q h

  stream_answer_counts : (answer : Result (Option SctpEvent) AllocError) → CountsStage m (TakesStreamAnswer m answer)
  stream_answer_counts (Ok None) p r q h = still m p p Nothing r q (λ part. refl) h.0 h.1 (record { dtls = refl; media = refl; association = refl })
  stream_answer_counts (Ok (Some e)) p r q h = stream_event_counts e p r q h
  stream_answer_counts (Err error) p r q h = still m p _ (Error Alloc) r q (λ part. refl) h.0 h.1 (record { dtls = refl; media = refl; association = refl })

  stream_events_count : CountsStage m (PollsStreamEvents m)
  stream_events_count =
      repeats_count m (PollsStreamEvent m)
      (λ p r q turn.
      counts_on m p (with_sctp turn.streams p) q (met_tells r) (record {
        dtls = same_dtls m p (with_sctp turn.streams p) refl;
        media = same_media m p (with_sctp turn.streams p) refl;
        association = stream_poll_later m.association laws.association p.core.sctp turn.answer turn.streams turn.by_poll;
      })
      (stream_answer_counts turn.answer (with_sctp turn.streams p) r q turn.by_answer))

  -- ---- packets that are sent

  sent_packet_counts : (packet : List ℕ) (rest : List (List ℕ)) → CountsStage m (SendsPacket m packet rest)
  unfolding SendsPacket
  sent_packet_counts packet rest p Nothing q h = still m p _ Nothing Nothing q (λ part. refl) refl h.1 (record { dtls = refl; media = refl; association = refl })
  sent_packet_counts packet rest p Again q h =
      dtls_counts m p q (met_tells {E = E} Again) refl refl (ap (λ (x : PolledPeer I D S M N). x.core.sctp.association) h.0) (ap (λ (x : PolledPeer I D S M N). x.core.media) h.0)
      (grows_quiet (dtls_faults m p) (dtls_faults m q) false refl (elim h.1 [
        | inl sent ↦ (sends_grow m.dtls laws.dtls (can_send m.dtls p.core.dtls) p.core.dtls packet (Ok tt) q.core.dtls sent).0
        | inr dropped ↦ (sends_grow m.dtls laws.dtls (can_send m.dtls p.core.dtls) p.core.dtls packet (Err Fault) q.core.dtls dropped.1).0
      ]))
  sent_packet_counts packet rest p (Error (Dtls cause)) q h =
      dtls_counts m p q (met_tells {E = E} (Error (Dtls cause))) refl refl (ap (λ (x : PolledPeer I D S M N). x.core.sctp.association) h.3) (ap (λ (x : PolledPeer I D S M N). x.core.media) h.3)
      (sends_grow m.dtls laws.dtls (can_send m.dtls p.core.dtls) p.core.dtls packet (Err Fault) q.core.dtls h.2)
  sent_packet_counts packet rest p (Error Alloc) q h =
      dtls_counts m p q (met_tells {E = E} (Error Alloc)) refl refl (ap (λ (x : PolledPeer I D S M N). x.core.sctp.association) h.1) (ap (λ (x : PolledPeer I D S M N). x.core.media) h.1)
      (sends_grow m.dtls laws.dtls (can_send m.dtls p.core.dtls) p.core.dtls packet (Err DtlsAlloc) q.core.dtls h.0)
  sent_packet_counts packet rest p _ q h = absurd h

  sent_first_counts : (packets : Option (List (List ℕ))) → CountsStage m (SendsFirst m packets)
  sent_first_counts None p r q h = still m p p Nothing r q (λ part. refl) h.0 h.1 (record { dtls = refl; media = refl; association = refl })
  sent_first_counts (Some []) p r q h = still m p p Again r q (λ part. refl) h.0 h.1 (record { dtls = refl; media = refl; association = refl })
  sent_first_counts (Some (packet ∷ rest)) p r q h = sent_packet_counts packet rest p r q h

  pub streams_count : CountsStage m (TellsStreams m)
  unfolding TellsStreams
  streams_count =
      else_counts m (PollsStreamEvents m) (SendsKeptPackets m) stream_events_count
      (λ p r q h.
      counts_on m p (with_pushed None p) q (met_tells r) (same_later m p (with_pushed None p) (with_pushed None p) refl (record { dtls = refl; media = refl; association = refl }))
      (sent_first_counts p.core.sctp.pushed (with_pushed None p) r q h))
