-- What a poll takes from the streams leaves what negotiation reads of the parts of a peer.
use Rattle.std.proofs.Common.{◌≡◌, ◌⊎◌, inl, inr, ℕ, Bool, true, List, [], ◌∷◌, Option, Some, None, Result, Ok, Err, refl}
use Rattle.std.specs.declared.alloc.AllocError.{AllocError}
use Rattle.rtc_parts.specs.declared.dtls_error.DtlsError.TheVariants.{Fault, Alloc as DtlsAlloc}
use Rattle.rtc_parts.specs.DtlsState.{SendsData, can_send}
use Rattle.rtc_parts.specs.AssociationLaws.{AssociationLaws}
use Rattle.rtc_parts.specs.MediaLaws.{MediaLaws}
use Rattle.rtc_peer_core.specs.declared.phase.Phase.TheVariants.{Closed}
use Rattle.rtc_peer_core.specs.Meanings.{Meanings}
use Rattle.rtc_sctp_entries.specs.declared.sctp_event.SctpEvent.{SctpEvent}
use Rattle.rtc_sctp_entries.specs.declared.sctp_event.SctpEvent.TheVariants as event
use Rattle.rtc_peer_transport.specs.declared.event.Event.TheVariants as told
use Rattle.rtc_peer_transport.specs.declared.met.Met.TheVariants.{Nothing, Again, Transmit, Event as MetEvent, Error}
use Rattle.rtc_peer_transport.specs.declared.polled_peer.PolledPeer.{PolledPeer}
use Rattle.rtc_peer_core.specs.declared.rtc_error.RtcError.TheVariants.{Dtls, Alloc}
use Rattle.rtc_peer_transport.specs.Closing.{is_phase_closing}
use Rattle.rtc_peer_transport.specs.Connection.{with_dtls, with_sctp, with_channels, with_pushed}
use Rattle.rtc_peer_polling.specs.Kept.{KeepsParts, KeepsStart}
use Rattle.rtc_peer_polling.specs.StreamStages.{OpensChannelOver, ClosesChannelOver, HearsChannelOver, FallsChannelOver, LosesAssociation, TakesStreamEvent, TakesStreamAnswer, PollsStreamEvent, PollsStreamEvents, SendsPacket, SendsFirst, SendsKeptPackets, TellsStreams, channel_over, left_over}
use Rattle.rtc_peer_polling.proofs.DtlsRoles.{KeepsRole, sends_role}
use Rattle.rtc_channels.specs.Holds.{holds_lost}
use Rattle.rtc_peer_polling.proofs.StreamSizes.{polled_size}
use Rattle.rtc_peer_polling.proofs.StreamStarts.{start_self, start_alike, polled_start}
use Rattle.rtc_peer_polling.proofs.StandingCalls.{Stands, stands_on, stands_by, else_stands, repeats_stands, close_stands}

module _ {I D S M E X T W N : Type 0} (m : Meanings I D S M E X T W N) (media : MediaLaws m.media) (streams : AssociationLaws m.association) where
  -- packets stand pushed back, or others do
  pushed_start : (pushed : Option (List (List ℕ))) (p : PolledPeer I D S M N)
      → KeepsStart m.association p.core.sctp (with_pushed pushed p).core.sctp
  pushed_start pushed p = start_alike m.association p.core.sctp (with_pushed pushed p).core.sctp refl (λ none. none)

  opens_stand : (stream : ℕ) (label : List ℕ) → Stands m (OpensChannelOver {I = I} {D = D} {S = S} {M = M} {E = E} {N = N} stream label)
  unfolding OpensChannelOver
  opens_stand stream label p (MetEvent (told.ChannelOpen id text)) q h = stands_by m p _ q h.2 (refl, refl, refl, refl, refl, start_self m.association p.core.sctp)
  opens_stand stream label p Again q h = stands_by m p _ q h.1 (refl, refl, refl, refl, refl, start_self m.association p.core.sctp)
  opens_stand stream label p (Error Alloc) q h = stands_by m p _ q h (refl, refl, refl, refl, refl, start_self m.association p.core.sctp)
  opens_stand stream label p _ q h = absurd h

  closes_stand : (id : Option ℕ) (pending : Bool) → Stands m (ClosesChannelOver {I = I} {D = D} {S = S} {M = M} {E = E} {N = N} id pending)
  closes_stand (Some id) pending p r q h = stands_by m p _ q h.1 (refl, refl, refl, refl, refl, start_self m.association p.core.sctp)
  closes_stand None pending p r q h = stands_by m p p q h.1 (refl, refl, refl, refl, refl, start_self m.association p.core.sctp)

  hears_channel_stands : (id : Option ℕ) (binary : Bool) (bytes : List ℕ) → Stands m (HearsChannelOver {I = I} {D = D} {S = S} {M = M} {E = E} {N = N} id binary bytes)
  hears_channel_stands (Some id) binary bytes p r q h = stands_by m p p q h.1 (refl, refl, refl, refl, refl, start_self m.association p.core.sctp)
  hears_channel_stands None binary bytes p r q h = stands_by m p p q h.1 (refl, refl, refl, refl, refl, start_self m.association p.core.sctp)

  falls_stand : (id : Option ℕ) → Stands m (FallsChannelOver {I = I} {D = D} {S = S} {M = M} {E = E} {N = N} id)
  falls_stand (Some id) p r q h = stands_by m p p q h.1 (refl, refl, refl, refl, refl, start_self m.association p.core.sctp)
  falls_stand None p r q h = stands_by m p p q h.1 (refl, refl, refl, refl, refl, start_self m.association p.core.sctp)

  lost_stands : Stands m (LosesAssociation m)
  unfolding LosesAssociation
  lost_stands p (MetEvent told.Closed) q h = stands_on m p (with_channels (holds_lost p.core.channels) p) q (refl, refl, refl, refl, refl, start_self m.association p.core.sctp) (close_stands m media streams (with_channels (holds_lost p.core.channels) p) (Ok tt) q h)
  lost_stands p (Error error) q h = stands_on m p (with_channels (holds_lost p.core.channels) p) q (refl, refl, refl, refl, refl, start_self m.association p.core.sctp) (close_stands m media streams (with_channels (holds_lost p.core.channels) p) (Err error) q h)
  lost_stands p _ q h = absurd h

  stream_event_stands : (e : SctpEvent) → Stands m (TakesStreamEvent m e)
  stream_event_stands (event.Transmit packets) p r q h = stands_by m p _ q h.1 (refl, refl, refl, refl, refl, pushed_start (Some packets) p)
  stream_event_stands (event.Open stream label) p r q h = opens_stand stream label p r q h
  stream_event_stands (event.Close stream pending) p r q h = closes_stand (channel_over stream p.core.channels) pending p r q h
  stream_event_stands (event.StreamResetComplete stream) p r q h = stands_by m p _ q h.1 (refl, refl, refl, refl, refl, start_self m.association p.core.sctp)
  stream_event_stands (event.Data stream binary bytes) p r q h = hears_channel_stands (channel_over stream p.core.channels) binary bytes p r q h
  stream_event_stands (event.BufferedAmountLow stream) p r q h = falls_stand (channel_over stream p.core.channels) p r q h
  stream_event_stands event.AssociationLost p r q h = lost_stands p r q h

  stream_answer_stands : (answer : Result (Option SctpEvent) AllocError) → Stands m (TakesStreamAnswer m answer)
  stream_answer_stands (Ok None) p r q h = stands_by m p p q h.1 (refl, refl, refl, refl, refl, start_self m.association p.core.sctp)
  stream_answer_stands (Ok (Some e)) p r q h = stream_event_stands e p r q h
  stream_answer_stands (Err error) p r q h = stands_by m p _ q h.1 (refl, refl, refl, refl, refl, start_self m.association p.core.sctp)

  stream_events_stand : Stands m (PollsStreamEvents m)
  stream_events_stand =
      repeats_stands m (PollsStreamEvent m)
      (λ p r q turn. stands_on m p (with_sctp turn.streams p) q (refl, refl, refl, polled_size m.association p.core.sctp turn.answer turn.streams turn.by_poll, refl, polled_start m.association streams p.core.sctp turn.answer turn.streams turn.by_poll) (stream_answer_stands turn.answer (with_sctp turn.streams p) r q turn.by_answer))

  -- a packet that was sent leaves the role
  sending_stands : (pushed : Option (List (List ℕ))) (p q : PolledPeer I D S M N) → KeepsRole p.core.dtls q.core.dtls
      → KeepsParts m p (with_dtls q.core.dtls (with_pushed pushed p))
  sending_stands pushed p q role = (refl, role.0, role.1, refl, refl, pushed_start pushed p)

  sent_or : (p q : PolledPeer I D S M N) (packet : List ℕ)
      → SendsData m.dtls p.core.dtls (can_send m.dtls p.core.dtls) packet (Ok tt) q.core.dtls
      ⊎ ((is_phase_closing p.core.phase ≡ true) × SendsData m.dtls p.core.dtls (can_send m.dtls p.core.dtls) packet (Err Fault) q.core.dtls)
      → KeepsRole p.core.dtls q.core.dtls
  sent_or p q packet (inl h) = sends_role m.dtls p.core.dtls (can_send m.dtls p.core.dtls) packet (Ok tt) q.core.dtls h
  sent_or p q packet (inr h) = sends_role m.dtls p.core.dtls (can_send m.dtls p.core.dtls) packet (Err Fault) q.core.dtls h.1

  sent_packet_stands : (packet : List ℕ) (rest : List (List ℕ)) → Stands m (SendsPacket m packet rest)
  unfolding SendsPacket
  sent_packet_stands packet rest p Nothing q h = stands_by m p _ q h.1 (refl, refl, refl, refl, refl, pushed_start (Some (packet ∷ rest)) p)
  sent_packet_stands packet rest p Again q h = stands_by m p _ q h.0 (sending_stands (left_over rest) p q (sent_or p q packet h.1))
  sent_packet_stands packet rest p (Error (Dtls cause)) q h =
      stands_by m p _ q h.3 (sending_stands (left_over rest) p q (sends_role m.dtls p.core.dtls (can_send m.dtls p.core.dtls) packet (Err Fault) q.core.dtls h.2))
  sent_packet_stands packet rest p (Error Alloc) q h =
      stands_by m p _ q h.1 (sending_stands (left_over rest) p q (sends_role m.dtls p.core.dtls (can_send m.dtls p.core.dtls) packet (Err DtlsAlloc) q.core.dtls h.0))
  sent_packet_stands packet rest p _ q h = absurd h

  sent_first_stands : (packets : Option (List (List ℕ))) → Stands m (SendsFirst m packets)
  sent_first_stands None p r q h = stands_by m p p q h.1 (refl, refl, refl, refl, refl, start_self m.association p.core.sctp)
  sent_first_stands (Some []) p r q h = stands_by m p p q h.1 (refl, refl, refl, refl, refl, start_self m.association p.core.sctp)
  sent_first_stands (Some (packet ∷ rest)) p r q h = sent_packet_stands packet rest p r q h

  pub streams_stand : Stands m (TellsStreams m)
  unfolding TellsStreams
  streams_stand =
      else_stands m (PollsStreamEvents m) (SendsKeptPackets m) stream_events_stand
      (λ p r q h. stands_on m p (with_pushed None p) q (refl, refl, refl, refl, refl, pushed_start None p) (sent_first_stands p.core.sctp.pushed (with_pushed None p) r q h))
