-- What a poll takes from the streams changes nothing of what negotiation keeps beside the channels and their streams.
use Rattle.std.proofs.Common.{ℕ, Bool, List, [], ◌∷◌, Option, Some, None, Result, Ok, Err, refl}
use Rattle.std.specs.declared.alloc.AllocError.{AllocError}
use Rattle.rtc_peer_core.specs.declared.phase.Phase.TheVariants.{Closed}
use Rattle.rtc_peer_core.specs.Meanings.{Meanings}
use Rattle.rtc_sctp_entries.specs.declared.sctp_event.SctpEvent.{SctpEvent}
use Rattle.rtc_sctp_entries.specs.declared.sctp_event.SctpEvent.TheVariants as event
use Rattle.rtc_peer_transport.specs.declared.event.Event.TheVariants as told
use Rattle.rtc_peer_transport.specs.declared.met.Met.TheVariants.{Nothing, Again, Transmit, Event as MetEvent, Error}
use Rattle.rtc_peer_core.specs.declared.rtc_error.RtcError.TheVariants.{Dtls, Alloc}
use Rattle.rtc_peer_transport.specs.Connection.{with_sctp, with_channels, with_pushed}
use Rattle.rtc_peer_polling.specs.StreamStages.{OpensChannelOver, ClosesChannelOver, HearsChannelOver, FallsChannelOver, LosesAssociation, TakesStreamEvent, TakesStreamAnswer, PollsStreamEvent, PollsStreamEvents, SendsPacket, SendsFirst, SendsKeptPackets, TellsStreams, channel_over}
use Rattle.rtc_channels.specs.Holds.{holds_lost}
use Rattle.rtc_peer_polling.proofs.KeptCalls.{Keeps, keeps_on, keeps_by, else_keeps, repeats_keeps, close_keeps}

module _ {I D S M E X T W N : Type 0} (m : Meanings I D S M E X T W N) where
  opens_keep : (stream : ℕ) (label : List ℕ) → Keeps (OpensChannelOver {I = I} {D = D} {S = S} {M = M} {E = E} {N = N} stream label)
  unfolding OpensChannelOver
  opens_keep stream label p (MetEvent (told.ChannelOpen id text)) q h = keeps_by p _ q h.2 refl
  opens_keep stream label p Again q h = keeps_by p _ q h.1 refl
  opens_keep stream label p (Error Alloc) q h = keeps_by p _ q h refl
  opens_keep stream label p _ q h = absurd h

  closes_keep : (id : Option ℕ) (pending : Bool) → Keeps (ClosesChannelOver {I = I} {D = D} {S = S} {M = M} {E = E} {N = N} id pending)
  closes_keep (Some id) pending p r q h = keeps_by p _ q h.1 refl
  closes_keep None pending p r q h = keeps_by p p q h.1 refl

  hears_channel_keeps : (id : Option ℕ) (binary : Bool) (bytes : List ℕ) → Keeps (HearsChannelOver {I = I} {D = D} {S = S} {M = M} {E = E} {N = N} id binary bytes)
  hears_channel_keeps (Some id) binary bytes p r q h = keeps_by p p q h.1 refl
  hears_channel_keeps None binary bytes p r q h = keeps_by p p q h.1 refl

  falls_keep : (id : Option ℕ) → Keeps (FallsChannelOver {I = I} {D = D} {S = S} {M = M} {E = E} {N = N} id)
  falls_keep (Some id) p r q h = keeps_by p p q h.1 refl
  falls_keep None p r q h = keeps_by p p q h.1 refl

  lost_keeps : Keeps (LosesAssociation m)
  unfolding LosesAssociation
  lost_keeps p (MetEvent told.Closed) q h = keeps_on p (with_channels (holds_lost p.core.channels) p) q refl (close_keeps m (with_channels (holds_lost p.core.channels) p) (Ok tt) q h)
  lost_keeps p (Error error) q h = keeps_on p (with_channels (holds_lost p.core.channels) p) q refl (close_keeps m (with_channels (holds_lost p.core.channels) p) (Err error) q h)
  lost_keeps p _ q h = absurd h

  stream_event_keeps : (e : SctpEvent) → Keeps (TakesStreamEvent m e)
  stream_event_keeps (event.Transmit packets) p r q h = keeps_by p _ q h.1 refl
  stream_event_keeps (event.Open stream label) p r q h = opens_keep stream label p r q h
  stream_event_keeps (event.Close stream pending) p r q h = closes_keep (channel_over stream p.core.channels) pending p r q h
  stream_event_keeps (event.StreamResetComplete stream) p r q h = keeps_by p _ q h.1 refl
  stream_event_keeps (event.Data stream binary bytes) p r q h = hears_channel_keeps (channel_over stream p.core.channels) binary bytes p r q h
  stream_event_keeps (event.BufferedAmountLow stream) p r q h = falls_keep (channel_over stream p.core.channels) p r q h
  stream_event_keeps event.AssociationLost p r q h = lost_keeps p r q h

  stream_answer_keeps : (answer : Result (Option SctpEvent) AllocError) → Keeps (TakesStreamAnswer m answer)
  stream_answer_keeps (Ok None) p r q h = keeps_by p p q h.1 refl
  stream_answer_keeps (Ok (Some e)) p r q h = stream_event_keeps e p r q h
  stream_answer_keeps (Err error) p r q h = keeps_by p _ q h.1 refl

  stream_events_keep : Keeps (PollsStreamEvents m)
  stream_events_keep =
      repeats_keeps (PollsStreamEvent m)
      (λ p r q turn. keeps_on p (with_sctp turn.streams p) q refl (stream_answer_keeps turn.answer (with_sctp turn.streams p) r q turn.by_answer))

  sent_packet_keeps : (packet : List ℕ) (rest : List (List ℕ)) → Keeps (SendsPacket m packet rest)
  unfolding SendsPacket
  sent_packet_keeps packet rest p Nothing q h = keeps_by p _ q h.1 refl
  sent_packet_keeps packet rest p Again q h = keeps_by p _ q h.0 refl
  sent_packet_keeps packet rest p (Error (Dtls cause)) q h = keeps_by p _ q h.3 refl
  sent_packet_keeps packet rest p (Error Alloc) q h = keeps_by p _ q h.1 refl
  sent_packet_keeps packet rest p _ q h = absurd h

  sent_first_keeps : (packets : Option (List (List ℕ))) → Keeps (SendsFirst m packets)
  sent_first_keeps None p r q h = keeps_by p p q h.1 refl
  sent_first_keeps (Some []) p r q h = keeps_by p p q h.1 refl
  sent_first_keeps (Some (packet ∷ rest)) p r q h = sent_packet_keeps packet rest p r q h

  pub streams_keep : Keeps (TellsStreams m)
  unfolding TellsStreams
  streams_keep =
      else_keeps (PollsStreamEvents m) (SendsKeptPackets m) stream_events_keep
      (λ p r q h. keeps_on p (with_pushed None p) q refl (sent_first_keeps p.core.sctp.pushed (with_pushed None p) r q h))
