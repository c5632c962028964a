-- Stages of a poll that neither announce a channel nor tell a message of one: all but those of the streams.
use Rattle.std.proofs.Common.{◌≡◌, ◌∙◌, if◌then◌else◌, ℕ, Bool, true, false, true≢false, List, [], ◌∷◌, Option, Some, None, Result, Ok, Err, refl, sym, ap}
use Rattle.std.specs.declared.alloc.AllocError.{AllocError}
use Rattle.rtc_parts.specs.declared.dtls_output.DtlsOutput.{DtlsOutput}
use Rattle.rtc_parts.specs.declared.dtls_output.DtlsOutput.TheVariants as dtls
use Rattle.rtc_parts.specs.declared.ice_event.IceEvent.{IceEvent}
use Rattle.rtc_parts.specs.declared.ice_event.IceEvent.TheVariants as ice
use Rattle.rtc_parts.specs.declared.stats_event.StatsEvent.{StatsEvent}
use Rattle.rtc_parts.specs.declared.stats_event.StatsEvent.TheVariants as reports
use Rattle.rtc_config.specs.Stats.{Reporting}
use Rattle.rtc_peer_core.specs.Meanings.{Meanings}
use Rattle.rtc_peer_transport.specs.declared.event.Event.{Event}
use Rattle.rtc_peer_transport.specs.declared.event.Event.TheVariants as told
use Rattle.rtc_peer_transport.specs.declared.handshake.Handshake.{Handshake}
use Rattle.rtc_peer_transport.specs.declared.handshake.Handshake.TheVariants as handshakes
use Rattle.rtc_peer_transport.specs.declared.met.Met.{Met}
use Rattle.rtc_peer_transport.specs.declared.met.Met.TheVariants.{Nothing, Again, Transmit, Event as MetEvent, Error}
use Rattle.rtc_peer_transport.specs.declared.polled_peer.PolledPeer.{PolledPeer}
use Rattle.rtc_peer_transport.specs.declared.send_addr.SendAddr.{SendAddr}
use Rattle.rtc_peer_transport.specs.Stages.{Stage, FollowedBy, Stopped, WentOn, RepeatsStage}
use Rattle.rtc_peer_transport.specs.Statistics.{TellsReport, TellsReportOf, TellsStatistics}
use Rattle.rtc_peer_polling.specs.DtlsStages.{ChecksCert, GivesDtlsTime, HandsPacket, PollsDtlsOutput, PollsDtlsOutputs, TakesCloseNotify, TakesDtlsAnswer, TakesDtlsOutput, TakesKeys, TellsConnected, TellsConnectedFrom, TimesDtls, TimesDtlsIf, is_dtls_client, is_dtls_due}
use Rattle.rtc_peer_polling.specs.IceStages.{PollsIceEvent, PollsIceEvents, TakesIceEvent}
use Rattle.rtc_peer_polling.specs.MediaStages.{TellsFallibleMedia, TellsMedia}
use Rattle.rtc_peer_polling.specs.SendStages.{SendsBy, SendsByPair, SendsChecks, SendsDtlsPacket, SendsMediaDatagram}
use Rattle.rtc_peer_polling.specs.StreamStages.{SendsFirst, SendsPacket}
use Rattle.rtc_peer_polling.specs.Walk.{SendsDatagrams, TellsArrivals, TellsConnection}

-- whether an event is that a channel is announced, or of a message of one
abbrev pub is_channel_event : {E : Type 0} → Event E → Bool
is_channel_event (told.ChannelOpen id label) = true
is_channel_event (told.ChannelData message) = true
is_channel_event event = false

abbrev pub is_channel_met : {E : Type 0} → Met E → Bool
is_channel_met (MetEvent event) = is_channel_event event
is_channel_met met = false

pub clash : (b : Bool) → b ≡ false → b ≡ true → ⊥
clash b h k = true≢false (sym k ∙ h)

module _ {I D S M E X T W N : Type 0} (m : Meanings I D S M E X T W N) where
  -- a stage that meets no such event
  abbrev pub IsSilent : Stage (PolledPeer I D S M N) E → Type 0
  IsSilent stage = (p : PolledPeer I D S M N) (r : Met E) (q : PolledPeer I D S M N) → stage p r q → is_channel_met r ≡ false

  pub else_silent : (first rest : Stage (PolledPeer I D S M N) E) → IsSilent first → IsSilent rest → IsSilent (FollowedBy first rest)
  else_silent first rest one other p r q (Stopped met stage) = one p r q stage
  else_silent first rest one other p r q (WentOn between stage after) = other between r q after

  repeats_silent : (stage : Stage (PolledPeer I D S M N) E) → IsSilent stage → IsSilent (RepeatsStage stage)
  repeats_silent stage one p r q h = one h.last r q h.ends

  -- ---- stages beside the streams

  ice_event : (event : Option IceEvent) (p : PolledPeer I D S M N) (r : Met E) (q : PolledPeer I D S M N) → TakesIceEvent event p r q → is_channel_met r ≡ false
  ice_event None p r q h = ap is_channel_met h.0
  ice_event (Some ice.IceRestart) p r q h = ap is_channel_met h.0
  ice_event (Some (ice.StateChange state)) p r q h = ap is_channel_met h.0
  ice_event (Some (ice.DiscoveredRecv proto source)) p r q h = ap is_channel_met h.0
  ice_event (Some (ice.NominatedSend proto source destination)) p r q h = ap is_channel_met h.0

  ice_silent : IsSilent (PollsIceEvents m)
  ice_silent = repeats_silent (PollsIceEvent m) (λ p r q h. ice_event h.event _ r q h.by_event)

  time_given : IsSilent (GivesDtlsTime m)
  unfolding GivesDtlsTime
  time_given p Nothing q h = refl
  time_given p (Error error) q h = refl
  time_given p _ q h = absurd h

  times_if : (b : Bool) (p : PolledPeer I D S M N) (r : Met E) (q : PolledPeer I D S M N) → TimesDtlsIf m b p r q → is_channel_met r ≡ false
  times_if true p r q h = time_given p r q h
  times_if false p r q h = ap is_channel_met h.0

  keys_silent : (key : List ℕ) (profile : _) (active : Bool) → IsSilent (TakesKeys m key profile active)
  unfolding TakesKeys
  keys_silent key profile active p Again q h = refl
  keys_silent key profile active p (Error error) q h = refl
  keys_silent key profile active p _ q h = absurd h

  cert_silent : (cert : List ℕ) → IsSilent (ChecksCert {I = I} {D = D} {S = S} {M = M} {E = E} {N = N} cert)
  unfolding ChecksCert
  cert_silent cert p Again q h = refl
  cert_silent cert p (Error error) q h = refl
  cert_silent cert p _ q h = absurd h

  packet_silent : (bytes : List ℕ) → IsSilent (HandsPacket m bytes)
  unfolding HandsPacket
  packet_silent bytes p Again q h = refl
  packet_silent bytes p (Error error) q h = refl
  packet_silent bytes p _ q h = absurd h

  notify_silent : IsSilent (TakesCloseNotify m)
  unfolding TakesCloseNotify
  notify_silent p (MetEvent told.Closed) q h = refl
  notify_silent p (Error error) q h = refl
  notify_silent p _ q h = absurd h

  output_silent : (output : DtlsOutput) (p : PolledPeer I D S M N) (r : Met E) (q : PolledPeer I D S M N) → TakesDtlsOutput m output p r q
      → is_channel_met r ≡ false
  output_silent dtls.Connected p r q h = ap is_channel_met h.0
  output_silent (dtls.KeyingMaterial key profile) p r q h = keys_silent key.now profile (is_dtls_client p.core.dtls.active) p r q h
  output_silent (dtls.PeerCert cert) p r q h = cert_silent cert.now p r q h
  output_silent (dtls.ApplicationData bytes) p r q h = packet_silent bytes.now p r q h
  output_silent (dtls.Timeout moment) p r q h = ap is_channel_met h.0
  output_silent dtls.CloseNotify p r q h = notify_silent p r q h

  answer_silent : (answer : Result DtlsOutput AllocError) (p : PolledPeer I D S M N) (r : Met E) (q : PolledPeer I D S M N) → TakesDtlsAnswer m answer p r q
      → is_channel_met r ≡ false
  answer_silent (Ok output) p r q h = output_silent output p r q h
  answer_silent (Err error) p r q h = ap is_channel_met h.0

  outputs_silent : IsSilent (PollsDtlsOutputs m)
  outputs_silent = repeats_silent (PollsDtlsOutput m) (λ p r q h. answer_silent h.answer _ r q h.by_answer)

  connected_from : (handshake : Handshake) (p : PolledPeer I D S M N) (r : Met E) (q : PolledPeer I D S M N) → TellsConnectedFrom handshake p r q
      → is_channel_met r ≡ false
  connected_from handshakes.Pending p r q h = ap is_channel_met h.0
  connected_from handshakes.Finished p r q h = ap is_channel_met h.0
  connected_from handshakes.Told p r q h = ap is_channel_met h.0

  pub connection_silent : IsSilent (TellsConnection m)
  unfolding TellsConnection
  connection_silent =
      else_silent (PollsIceEvents m) _ ice_silent
      (else_silent (TimesDtls m) _ (λ p r q h. times_if (is_dtls_due p) p r q h)
      (else_silent (PollsDtlsOutputs m) TellsConnected outputs_silent (λ p r q h. connected_from p.transport.handshake p r q h)))

  media_silent : IsSilent (TellsMedia m)
  unfolding TellsMedia
  media_silent p Nothing q h = refl
  media_silent p (MetEvent (told.Media event)) q h = refl
  media_silent p _ q h = absurd h

  fallible_silent : IsSilent (TellsFallibleMedia m)
  unfolding TellsFallibleMedia
  fallible_silent p Nothing q h = refl
  fallible_silent p (MetEvent (told.Media event)) q h = refl
  fallible_silent p (Error error) q h = refl
  fallible_silent p _ q h = absurd h

  report_silent : (events : List StatsEvent) (stats : Reporting) (p : PolledPeer I D S M N) (r : Met E) (q : PolledPeer I D S M N)
      → TellsReport events stats p r q → is_channel_met r ≡ false
  report_silent [] stats p r q h = ap is_channel_met h.0
  report_silent (reports.Peer report ∷ events) stats p r q h = ap is_channel_met h.0
  report_silent (reports.MediaIngress report ∷ events) stats p r q h = ap is_channel_met h.0
  report_silent (reports.MediaEgress report ∷ events) stats p r q h = ap is_channel_met h.0

  report_of_silent : (stats : Option Reporting) (p : PolledPeer I D S M N) (r : Met E) (q : PolledPeer I D S M N) → TellsReportOf stats p r q
      → is_channel_met r ≡ false
  report_of_silent None p r q h = ap is_channel_met h.0
  report_of_silent (Some stats) p r q h = report_silent stats.events stats p r q h

  statistics_silent : IsSilent (TellsStatistics {I = I} {D = D} {S = S} {M = M} {E = E} {N = N})
  unfolding TellsStatistics
  statistics_silent p r q h = report_of_silent p.transport.stats p r q h

  pub arrivals_silent : IsSilent (TellsArrivals m)
  unfolding TellsArrivals
  arrivals_silent = else_silent (TellsMedia m) _ media_silent (else_silent (TellsFallibleMedia m) TellsStatistics fallible_silent statistics_silent)

  checks_silent : IsSilent (SendsChecks m)
  unfolding SendsChecks
  checks_silent p Nothing q h = refl
  checks_silent p (Transmit transmit) q h = refl
  checks_silent p _ q h = absurd h

  dtls_silent : (addr : SendAddr) → IsSilent (SendsDtlsPacket m addr)
  unfolding SendsDtlsPacket
  dtls_silent addr p Nothing q h = refl
  dtls_silent addr p (Transmit transmit) q h = refl
  dtls_silent addr p _ q h = absurd h

  datagram_silent : (addr : SendAddr) → IsSilent (SendsMediaDatagram m addr)
  unfolding SendsMediaDatagram
  datagram_silent addr p Nothing q h = refl
  datagram_silent addr p (Transmit transmit) q h = refl
  datagram_silent addr p _ q h = absurd h

  pair_silent : (addr : Option SendAddr) (p : PolledPeer I D S M N) (r : Met E) (q : PolledPeer I D S M N) → SendsBy m addr p r q → is_channel_met r ≡ false
  pair_silent (Some addr) p r q h = else_silent (SendsDtlsPacket m addr) (SendsMediaDatagram m addr) (dtls_silent addr) (datagram_silent addr) p r q h
  pair_silent None p r q h = ap is_channel_met h.0

  pub datagrams_silent : IsSilent (SendsDatagrams m)
  unfolding SendsDatagrams
  datagrams_silent = else_silent (SendsChecks m) (SendsByPair m) checks_silent (λ p r q h. pair_silent p.transport.send_addr p r q h)

  pub over_silent : (b : Bool) (r : Met E) → r ≡ (if b then Again else Nothing) → is_channel_met r ≡ false
  over_silent true r h = ap is_channel_met h
  over_silent false r h = ap is_channel_met h

  packets_silent : (packet : List ℕ) (rest : List (List ℕ)) → IsSilent (SendsPacket m packet rest)
  unfolding SendsPacket
  packets_silent packet rest p Nothing q h = refl
  packets_silent packet rest p Again q h = refl
  packets_silent packet rest p (Error error) q h = refl
  packets_silent packet rest p _ q h = absurd h

  pub first_silent : (pushed : Option (List (List ℕ))) (p : PolledPeer I D S M N) (r : Met E) (q : PolledPeer I D S M N) → SendsFirst m pushed p r q
      → is_channel_met r ≡ false
  first_silent None p r q h = ap is_channel_met h.0
  first_silent (Some []) p r q h = ap is_channel_met h.0
  first_silent (Some (packet ∷ rest)) p r q h = packets_silent packet rest p r q h
