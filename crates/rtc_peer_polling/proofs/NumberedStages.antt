-- The stages of a poll give a channel a number where it is met as open, and nowhere else.
use Rattle.std.proofs.Common.{◌≡◌, ◌∙◌, if◌then◌else◌, ℕ, Bool, true, false, List, [], ◌∷◌, Option, Some, None, Result, Ok, Err, refl, sym, ap, subst, arith}
use Rattle.std.specs.declared.alloc.AllocError.{AllocError}
use Rattle.rtc_parts.specs.declared.ice_event.IceEvent.{IceEvent}
use Rattle.rtc_parts.specs.declared.ice_event.IceEvent.TheVariants.{IceRestart, StateChange, DiscoveredRecv, NominatedSend}
use Rattle.rtc_parts.specs.declared.dtls_output.DtlsOutput.{DtlsOutput}
use Rattle.rtc_parts.specs.declared.dtls_output.DtlsOutput.TheVariants as outputs
use Rattle.rtc_sctp_entries.specs.declared.sctp_event.SctpEvent.{SctpEvent}
use Rattle.rtc_sctp_entries.specs.declared.sctp_event.SctpEvent.TheVariants as event
use Rattle.rtc_channels.specs.Holds.{holds_lost, reset_completed}
use Rattle.rtc_peer_core.specs.declared.rtc_error.RtcError.TheVariants.{RemoteSdp, Dtls, Media, Alloc}
use Rattle.rtc_peer_core.specs.Meanings.{Meanings}
use Rattle.rtc_peer_transport.specs.declared.event.Event.TheVariants as told
use Rattle.rtc_peer_transport.specs.declared.handshake.Handshake.{Handshake}
use Rattle.rtc_peer_transport.specs.declared.handshake.Handshake.TheVariants.{Pending, Finished, Told}
use Rattle.rtc_peer_transport.specs.declared.met.Met.{Met}
use Rattle.rtc_peer_transport.specs.declared.met.Met.TheVariants.{Nothing, Again, Transmit, Event as MetEvent, Error}
use Rattle.rtc_peer_transport.specs.declared.polled_peer.PolledPeer.{PolledPeer}
use Rattle.rtc_peer_transport.specs.declared.send_addr.SendAddr.{SendAddr}
use Rattle.rtc_peer_transport.specs.Connection.{with_dtls, with_ice, with_sctp, with_channels, with_pushed}
use Rattle.rtc_peer_polling.specs.DtlsStages.{GivesDtlsTime, TimesDtls, TimesDtlsIf, TakesDtlsOutput, TakesDtlsAnswer, PollsDtlsOutput}
use Rattle.rtc_peer_polling.specs.DtlsStages.{PollsDtlsOutputs, TakesKeys, TakesCloseNotify, HandsPacket, ChecksCert, TellsConnectedFrom, is_dtls_due}
use Rattle.rtc_peer_polling.specs.IceStages.{PollsIceEvent, PollsIceEvents, TakesIceEvent, met_of_ice_event}
use Rattle.rtc_peer_polling.specs.MediaStages.{TellsMedia, TellsFallibleMedia}
use Rattle.rtc_peer_polling.specs.Numbers.{ChannelNumbers}
use Rattle.rtc_peer_polling.specs.SendStages.{SendsChecks, SendsDtlsPacket, SendsMediaDatagram, SendsBy, SendsByPair}
use Rattle.rtc_parts.specs.declared.stats_event.StatsEvent.{StatsEvent}
use Rattle.rtc_parts.specs.declared.stats_event.StatsEvent.TheVariants as reports
use Rattle.rtc_config.specs.Stats.{Reporting}
use Rattle.rtc_peer_transport.specs.Statistics.{TellsReport, TellsReportOf, TellsStatistics}
use Rattle.rtc_peer_polling.specs.StreamStages.{OpensChannelOver, ClosesChannelOver, HearsChannelOver, FallsChannelOver, LosesAssociation, TakesStreamEvent}
use Rattle.rtc_peer_polling.specs.StreamStages.{TakesStreamAnswer, PollsStreamEvent, PollsStreamEvents, SendsPacket, SendsFirst, SendsKeptPackets, TellsStreams, channel_over}
use Rattle.rtc_peer_polling.specs.Walk.{StartsOverWhenDue, TellsConnection, TellsArrivals, SendsDatagrams, VisitsParts}
use Rattle.rtc_peer_polling.proofs.NumberedChannels.{stays_rows, stays_removed, opened_numbers, unopened_stays}
use Rattle.rtc_peer_polling.proofs.NumberedCalls.{number_met, PeerStays, PeerNumbers, Numbered, stays_by, peer_stays_on, numbers_met, else_numbered}
use Rattle.rtc_peer_polling.proofs.NumberedCalls.{repeats_numbered, close_stays}

-- an event of the ICE agent tells no channel
ice_quiet : (E : Type 0) (event : IceEvent) → number_met {E = E} (met_of_ice_event event) ≡ None
ice_quiet E IceRestart = refl
ice_quiet E (StateChange state) = refl
ice_quiet E (DiscoveredRecv proto source) = refl
ice_quiet E (NominatedSend proto source destination) = refl

over_quiet : (E : Type 0) (due : Bool) → number_met {E = E} (if due then Again else Nothing) ≡ None
over_quiet E true = refl
over_quiet E false = refl

module _ {I D S M E X T W N : Type 0} (m : Meanings I D S M E X T W N) where
  -- what is met is this, and the channels are those of another peer
  quiet_by : (r met : Met E) (p n q : PolledPeer I D S M N) → r ≡ met → number_met met ≡ None → q ≡ n → n.core.channels ≡ p.core.channels
      → PeerNumbers r p q
  quiet_by r met p n q is none kept same = numbers_met r p q (ap (λ (x : Met E). number_met x) is ∙ none) (stays_by p n q kept same)

  taken_event_numbered : (event : Option IceEvent) (ice : I) (p : PolledPeer I D S M N) (r : Met E) (q : PolledPeer I D S M N)
      → TakesIceEvent event (with_ice ice p) r q → PeerNumbers r p q
  taken_event_numbered None ice p r q taken = quiet_by r Nothing p _ q taken.0 refl taken.1 refl
  taken_event_numbered (Some event) ice p r q taken = quiet_by r (met_of_ice_event event) p _ q taken.0 (ice_quiet E event) taken.1 refl

  ice_events_numbered : Numbered (PollsIceEvents m)
  ice_events_numbered = repeats_numbered (PollsIceEvent m) (λ p r q turn. taken_event_numbered turn.event turn.ice p r q turn.by_event)

  given_time_numbered : Numbered (GivesDtlsTime m)
  unfolding GivesDtlsTime
  given_time_numbered p Nothing q h = stays_by p _ q h.1 refl
  given_time_numbered p (Error (Dtls cause)) q h = stays_by p _ q h.2 refl
  given_time_numbered p (Error Alloc) q h = stays_by p _ q h.1 refl
  given_time_numbered p _ q h = absurd h

  times_numbered : (due : Bool) (p : PolledPeer I D S M N) (r : Met E) (q : PolledPeer I D S M N) → TimesDtlsIf m due p r q → PeerNumbers r p q
  times_numbered true p r q h = given_time_numbered p r q h
  times_numbered false p r q h = quiet_by r Nothing p p q h.0 refl h.1 refl

  keys_numbered : (key : List ℕ) (profile : _) (active : Bool) → Numbered (TakesKeys m key profile active)
  unfolding TakesKeys
  keys_numbered key profile active p Again q h = stays_by p _ q h.1 refl
  keys_numbered key profile active p (Error Alloc) q h = stays_by p _ q h.1 refl
  keys_numbered key profile active p _ q h = absurd h

  cert_numbered : (cert : List ℕ) → Numbered (ChecksCert {I = I} {D = D} {S = S} {M = M} {E = E} {N = N} cert)
  unfolding ChecksCert
  cert_numbered cert p Again q h = stays_by p _ q h.3 refl
  cert_numbered cert p (Error (RemoteSdp why)) q h = stays_by p _ q h.3 refl
  cert_numbered cert p (Error Alloc) q h = stays_by p _ q h refl
  cert_numbered cert p _ q h = absurd h

  close_notify_numbered : Numbered (TakesCloseNotify m)
  unfolding TakesCloseNotify
  close_notify_numbered p (MetEvent told.Closed) q h = peer_stays_on p h.0 q (close_stays m p (Ok tt) h.0 h.1) (stays_by h.0 _ q h.2 refl)
  close_notify_numbered p (Error error) q h = close_stays m p (Err error) q h
  close_notify_numbered p _ q h = absurd h

  packet_numbered : (bytes : List ℕ) → Numbered (HandsPacket m bytes)
  unfolding HandsPacket
  packet_numbered bytes p Again q h = stays_by p _ q h.1 refl
  packet_numbered bytes p (Error Alloc) q h = stays_by p _ q h.1 refl
  packet_numbered bytes p _ q h = absurd h

  output_numbered : (output : DtlsOutput) → Numbered (TakesDtlsOutput m output)
  output_numbered outputs.Connected p r q h = quiet_by r Again p _ q h.0 refl h.1 refl
  output_numbered (outputs.KeyingMaterial key profile) p r q h = keys_numbered key.now profile _ p r q h
  output_numbered (outputs.PeerCert cert) p r q h = cert_numbered cert.now p r q h
  output_numbered (outputs.ApplicationData bytes) p r q h = packet_numbered bytes.now p r q h
  output_numbered (outputs.Timeout moment) p r q h = quiet_by r Nothing p _ q h.0 refl h.1 refl
  output_numbered outputs.CloseNotify p r q h = close_notify_numbered p r q h

  answer_numbered : (answer : Result DtlsOutput AllocError) → Numbered (TakesDtlsAnswer m answer)
  answer_numbered (Ok output) p r q h = output_numbered output p r q h
  answer_numbered (Err error) p r q h = quiet_by r (Error Alloc) p _ q h.0 refl h.1 refl

  dtls_outputs_numbered : Numbered (PollsDtlsOutputs m)
  dtls_outputs_numbered =
      repeats_numbered (PollsDtlsOutput m) (λ p r q turn. answer_numbered turn.answer (with_dtls turn.dtls p) r q turn.by_answer)

  connected_numbered : (handshake : Handshake) (p : PolledPeer I D S M N) (r : Met E) (q : PolledPeer I D S M N)
      → TellsConnectedFrom handshake p r q → PeerNumbers r p q
  connected_numbered Pending p r q h = quiet_by r Nothing p p q h.0 refl h.1 refl
  connected_numbered Finished p r q h = quiet_by r (MetEvent told.Connected) p _ q h.0 refl h.1 refl
  connected_numbered Told p r q h = quiet_by r Nothing p p q h.0 refl h.1 refl

  connection_numbered : Numbered (TellsConnection m)
  unfolding TellsConnection
  connection_numbered =
      else_numbered (PollsIceEvents m) _ ice_events_numbered
      (else_numbered (TimesDtls m) _ (λ p r q h. times_numbered (is_dtls_due p) p r q h)
      (else_numbered (PollsDtlsOutputs m) _ dtls_outputs_numbered (λ p r q h. connected_numbered p.transport.handshake p r q h)))

  opens_numbered : (stream : ℕ) (label : List ℕ) → Numbered (OpensChannelOver {I = I} {D = D} {S = S} {M = M} {E = E} {N = N} stream label)
  unfolding OpensChannelOver
  opens_numbered stream label p (MetEvent (told.ChannelOpen id text)) q h =
      subst (λ (x : PolledPeer I D S M N). ChannelNumbers (Some id) p.core.channels x.core.channels) (sym h.2)
      (opened_numbers stream id p.core.channels h.1)
  opens_numbered stream label p Again q h =
      subst (λ (x : PolledPeer I D S M N). PeerStays p x) (sym h.1) (unopened_stays stream p.core.channels h.0)
  opens_numbered stream label p (Error Alloc) q h = stays_by p _ q h refl
  opens_numbered stream label p _ q h = absurd h

  closes_numbered : (id : Option ℕ) (pending : Bool) → Numbered (ClosesChannelOver {I = I} {D = D} {S = S} {M = M} {E = E} {N = N} id pending)
  closes_numbered (Some id) pending p r q h =
      numbers_met r p q (ap (λ (x : Met E). number_met x) h.0)
      (subst (λ (x : PolledPeer I D S M N). PeerStays p x) (sym h.1) (stays_removed id pending p.core.channels))
  closes_numbered None pending p r q h = quiet_by r Again p p q h.0 refl h.1 refl

  hears_channel_numbered : (id : Option ℕ) (binary : Bool) (bytes : List ℕ)
      → Numbered (HearsChannelOver {I = I} {D = D} {S = S} {M = M} {E = E} {N = N} id binary bytes)
  hears_channel_numbered (Some id) binary bytes p r q h =
      quiet_by r (MetEvent (told.ChannelData (record { id = id; binary = binary; bytes = bytes }))) p p q h.0 refl h.1 refl
  hears_channel_numbered None binary bytes p r q h = quiet_by r Again p p q h.0 refl h.1 refl

  falls_numbered : (id : Option ℕ) → Numbered (FallsChannelOver {I = I} {D = D} {S = S} {M = M} {E = E} {N = N} id)
  falls_numbered (Some id) p r q h = quiet_by r (MetEvent (told.ChannelBufferedAmountLow id)) p p q h.0 refl h.1 refl
  falls_numbered None p r q h = quiet_by r Again p p q h.0 refl h.1 refl

  -- other holds are no numbers
  held_stays : (p : PolledPeer I D S M N) (holds : List ℕ) → PeerStays p (with_channels (record p.core.channels { holds = holds }) p)
  held_stays p holds = stays_rows p.core.channels p.core.channels.rows holds (omega arith) (λ n below. below) (λ n rising. rising) (λ n none. none)

  lost_numbered : Numbered (LosesAssociation m)
  unfolding LosesAssociation
  lost_numbered p (MetEvent told.Closed) q h =
      let lost = with_channels (holds_lost p.core.channels) p in peer_stays_on p lost q (held_stays p []) (close_stays m lost (Ok tt) q h)
  lost_numbered p (Error error) q h =
      let lost = with_channels (holds_lost p.core.channels) p in peer_stays_on p lost q (held_stays p []) (close_stays m lost (Err error) q h)
  lost_numbered p _ q h = absurd h

  stream_event_numbered : (e : SctpEvent) → Numbered (TakesStreamEvent m e)
  stream_event_numbered (event.Transmit packets) p r q h = quiet_by r Nothing p _ q h.0 refl h.1 refl
  stream_event_numbered (event.Open stream label) p r q h = opens_numbered stream label p r q h
  stream_event_numbered (event.Close stream pending) p r q h = closes_numbered (channel_over stream p.core.channels) pending p r q h
  stream_event_numbered (event.StreamResetComplete stream) p r q h =
      numbers_met r p q (ap (λ (x : Met E). number_met x) h.0)
      (subst (λ (x : PolledPeer I D S M N). PeerStays p x) (sym h.1) (held_stays p (reset_completed stream p.core.channels).holds))
  stream_event_numbered (event.Data stream binary bytes) p r q h =
      hears_channel_numbered (channel_over stream p.core.channels) binary bytes p r q h
  stream_event_numbered (event.BufferedAmountLow stream) p r q h = falls_numbered (channel_over stream p.core.channels) p r q h
  stream_event_numbered event.AssociationLost p r q h = lost_numbered p r q h

  stream_answer_numbered : (answer : Result (Option SctpEvent) AllocError) → Numbered (TakesStreamAnswer m answer)
  stream_answer_numbered (Ok None) p r q h = quiet_by r Nothing p p q h.0 refl h.1 refl
  stream_answer_numbered (Ok (Some e)) p r q h = stream_event_numbered e p r q h
  stream_answer_numbered (Err error) p r q h = quiet_by r (Error Alloc) p _ q h.0 refl h.1 refl

  stream_events_numbered : Numbered (PollsStreamEvents m)
  stream_events_numbered =
      repeats_numbered (PollsStreamEvent m) (λ p r q turn. stream_answer_numbered turn.answer (with_sctp turn.streams p) r q turn.by_answer)

  sent_packet_numbered : (packet : List ℕ) (rest : List (List ℕ)) → Numbered (SendsPacket m packet rest)
  unfolding SendsPacket
  sent_packet_numbered packet rest p Nothing q h = stays_by p _ q h.1 refl
  sent_packet_numbered packet rest p Again q h = stays_by p _ q h.0 refl
  sent_packet_numbered packet rest p (Error (Dtls cause)) q h = stays_by p _ q h.3 refl
  sent_packet_numbered packet rest p (Error Alloc) q h = stays_by p _ q h.1 refl
  sent_packet_numbered packet rest p _ q h = absurd h

  sent_first_numbered : (packets : Option (List (List ℕ))) → Numbered (SendsFirst m packets)
  sent_first_numbered None p r q h = quiet_by r Nothing p p q h.0 refl h.1 refl
  sent_first_numbered (Some []) p r q h = quiet_by r Again p p q h.0 refl h.1 refl
  sent_first_numbered (Some (packet ∷ rest)) p r q h = sent_packet_numbered packet rest p r q h

  streams_numbered : Numbered (TellsStreams m)
  unfolding TellsStreams
  streams_numbered =
      else_numbered (PollsStreamEvents m) (SendsKeptPackets m) stream_events_numbered
      (λ p r q h. sent_first_numbered p.core.sctp.pushed (with_pushed None p) r q h)

  media_told_numbered : Numbered (TellsMedia m)
  unfolding TellsMedia
  media_told_numbered p Nothing q h = stays_by p _ q h.1 refl
  media_told_numbered p (MetEvent (told.Media event)) q h = stays_by p _ q h.1 refl
  media_told_numbered p _ q h = absurd h

  fallible_told_numbered : Numbered (TellsFallibleMedia m)
  unfolding TellsFallibleMedia
  fallible_told_numbered p Nothing q h = stays_by p _ q h.1 refl
  fallible_told_numbered p (MetEvent (told.Media event)) q h = stays_by p _ q h.1 refl
  fallible_told_numbered p (Error (Media cause)) q h = stays_by p _ q h.2 refl
  fallible_told_numbered p (Error Alloc) q h = stays_by p _ q h.1 refl
  fallible_told_numbered p _ q h = absurd h

  report_told_numbered : (events : List StatsEvent) (stats : Reporting) (p : PolledPeer I D S M N) (r : Met E) (q : PolledPeer I D S M N)
      → TellsReport events stats p r q → PeerNumbers r p q
  report_told_numbered [] stats p r q h = quiet_by r Nothing p p q h.0 refl h.1 refl
  report_told_numbered (reports.Peer report ∷ events) stats p r q h = quiet_by r _ p _ q h.0 refl h.1 refl
  report_told_numbered (reports.MediaIngress report ∷ events) stats p r q h = quiet_by r _ p _ q h.0 refl h.1 refl
  report_told_numbered (reports.MediaEgress report ∷ events) stats p r q h = quiet_by r _ p _ q h.0 refl h.1 refl

  report_of_numbered : (stats : Option Reporting) (p : PolledPeer I D S M N) (r : Met E) (q : PolledPeer I D S M N)
      → TellsReportOf stats p r q → PeerNumbers r p q
  report_of_numbered None p r q h = quiet_by r Nothing p p q h.0 refl h.1 refl
  report_of_numbered (Some stats) p r q h = report_told_numbered stats.events stats p r q h

  statistics_told_numbered : Numbered (TellsStatistics {I = I} {D = D} {S = S} {M = M} {E = E} {N = N})
  unfolding TellsStatistics
  statistics_told_numbered p r q h = report_of_numbered p.transport.stats p r q h

  arrivals_numbered : Numbered (TellsArrivals m)
  unfolding TellsArrivals
  arrivals_numbered =
      else_numbered (TellsMedia m) _ media_told_numbered
      (else_numbered (TellsFallibleMedia m) TellsStatistics fallible_told_numbered statistics_told_numbered)

  checks_numbered : Numbered (SendsChecks m)
  unfolding SendsChecks
  checks_numbered p Nothing q h = stays_by p _ q h.1 refl
  checks_numbered p (Transmit transmit) q h = stays_by p _ q h.1 refl
  checks_numbered p _ q h = absurd h

  packets_numbered : (addr : SendAddr) → Numbered (SendsDtlsPacket m addr)
  unfolding SendsDtlsPacket
  packets_numbered addr p Nothing q h = stays_by p _ q h.1 refl
  packets_numbered addr p (Transmit transmit) q h = stays_by p _ q h.2 refl
  packets_numbered addr p _ q h = absurd h

  media_sent_numbered : (addr : SendAddr) → Numbered (SendsMediaDatagram m addr)
  unfolding SendsMediaDatagram
  media_sent_numbered addr p Nothing q h = stays_by p _ q h.1 refl
  media_sent_numbered addr p (Transmit transmit) q h = stays_by p _ q h.2 refl
  media_sent_numbered addr p _ q h = absurd h

  sends_numbered : (addr : Option SendAddr) (p : PolledPeer I D S M N) (r : Met E) (q : PolledPeer I D S M N) → SendsBy m addr p r q → PeerNumbers r p q
  sends_numbered (Some addr) p r q h =
      else_numbered (SendsDtlsPacket m addr) (SendsMediaDatagram m addr) (packets_numbered addr) (media_sent_numbered addr) p r q h
  sends_numbered None p r q h = quiet_by r Nothing p _ q h.0 refl h.2 refl

  datagrams_numbered : Numbered (SendsDatagrams m)
  unfolding SendsDatagrams
  datagrams_numbered = else_numbered (SendsChecks m) (SendsByPair m) checks_numbered (λ p r q h. sends_numbered p.transport.send_addr p r q h)

  pub visits_numbered : Numbered (VisitsParts m)
  unfolding VisitsParts
  visits_numbered =
      else_numbered (TellsConnection m) _ connection_numbered
      (else_numbered (TellsStreams m) _ streams_numbered
      (else_numbered (TellsArrivals m) _ arrivals_numbered
      (else_numbered (SendsDatagrams m) StartsOverWhenDue datagrams_numbered
      (λ p r q h. quiet_by r _ p p q h.0 (over_quiet E (is_dtls_due p)) h.1 refl))))
