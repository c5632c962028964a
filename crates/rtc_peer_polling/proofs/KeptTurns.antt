-- A stage that met nothing, or starts the walk over, leaves the phase of the peer, and all but those of the ICE agent leave the agent.
use Rattle.std.proofs.Common.{◌≡◌, ℕ, Bool, true, false, List, [], ◌∷◌, Option, Some, None, Result, Ok, Err, refl, sym, ap, subst, ◌∙◌}
use Rattle.std.specs.declared.alloc.AllocError.{AllocError}
use Rattle.rtc_parts.specs.declared.ice_event.IceEvent.{IceEvent}
use Rattle.rtc_parts.specs.declared.dtls_output.DtlsOutput.{DtlsOutput}
use Rattle.rtc_parts.specs.declared.dtls_output.DtlsOutput.TheVariants as outputs
use Rattle.rtc_sctp_entries.specs.declared.sctp_event.SctpEvent.{SctpEvent}
use Rattle.rtc_sctp_entries.specs.declared.sctp_event.SctpEvent.TheVariants as event
use Rattle.rtc_peer_core.specs.declared.phase.Phase.{Phase}
use Rattle.rtc_peer_core.specs.declared.rtc_error.RtcError.{RtcError}
use Rattle.rtc_peer_core.specs.declared.rtc_error.RtcError.TheVariants.{Alloc}
use Rattle.rtc_peer_core.specs.Meanings.{Meanings}
use Rattle.rtc_peer_transport.specs.declared.handshake.Handshake.{Handshake}
use Rattle.rtc_peer_transport.specs.declared.handshake.Handshake.TheVariants.{Pending, Finished, Told}
use Rattle.rtc_peer_transport.specs.declared.met.Met.{Met}
use Rattle.rtc_peer_transport.specs.declared.met.Met.TheVariants.{Nothing, Again, Transmit, Event as MetEvent, Error}
use Rattle.rtc_peer_transport.specs.declared.polled_peer.PolledPeer.{PolledPeer}
use Rattle.rtc_peer_transport.specs.declared.send_addr.SendAddr.{SendAddr}
use Rattle.rtc_peer_transport.specs.Connection.{with_ice, with_dtls, with_sctp, with_pushed}
use Rattle.rtc_peer_polling.specs.DtlsStages.{GivesDtlsTime, TimesDtls, TimesDtlsIf, TakesDtlsOutput, TakesDtlsAnswer, PollsDtlsOutput}
use Rattle.rtc_peer_polling.specs.DtlsStages.{PollsDtlsOutputs, TakesKeys, TakesCloseNotify, HandsPacket, ChecksCert, TellsConnected, TellsConnectedFrom, is_dtls_due}
use Rattle.rtc_peer_polling.specs.IceStages.{PollsIceEvent, PollsIceEvents, TakesIceEvent}
use Rattle.rtc_peer_polling.specs.MediaStages.{TellsMedia, TellsFallibleMedia}
use Rattle.rtc_peer_polling.specs.SendStages.{SendsChecks, SendsDtlsPacket, SendsMediaDatagram, SendsBy, SendsByPair}
use Rattle.rtc_peer_transport.specs.Stages.{Stage, FollowedBy, Stopped, WentOn, StartsOver, RepeatsStage}
use Rattle.rtc_peer_transport.specs.Statistics.{TellsStatistics}
use Rattle.rtc_peer_transport.proofs.StatisticsTurns.{no_statistics_told, statistics_never}
use Rattle.rtc_peer_polling.specs.StreamStages.{OpensChannelOver, ClosesChannelOver, HearsChannelOver, FallsChannelOver, LosesAssociation, TakesStreamEvent, TakesStreamAnswer}
use Rattle.rtc_peer_polling.specs.StreamStages.{PollsStreamEvent, PollsStreamEvents, SendsPacket, SendsFirst, SendsKeptPackets, TellsStreams, channel_over}
use Rattle.rtc_peer_polling.specs.Walk.{StartsOverWhenDue, TellsConnection, TellsArrivals, SendsDatagrams, VisitsParts}
use Rattle.rtc_peer_transport.proofs.StageLemmas.{over_carries}

module _ {I D S M E N X : Type 0} (kept : PolledPeer I D S M N → X) where
  -- what is kept is the same where nothing was met, or the walk starts over
  abbrev pub Same : PolledPeer I D S M N → Met E → PolledPeer I D S M N → Type 0
  Same p Nothing q = kept q ≡ kept p
  Same p Again q = kept q ≡ kept p
  Same p (Transmit transmit) q = Unit {0}
  Same p (MetEvent event) q = Unit {0}
  Same p (Error error) q = Unit {0}

  same_by : (r : Met E) (p q : PolledPeer I D S M N) → kept q ≡ kept p → Same p r q
  same_by Nothing p q is = is
  same_by Again p q is = is
  same_by (Transmit transmit) p q is = tt
  same_by (MetEvent event) p q is = tt
  same_by (Error error) p q is = tt

  same_of : (r : Met E) (p n q : PolledPeer I D S M N) → q ≡ n → kept n ≡ kept p → Same p r q
  same_of r p n q is same = same_by r p q (ap kept is ∙ same)

  same_failed : (r : Met E) (error : RtcError) (p q : PolledPeer I D S M N) → r ≡ Error error → Same p r q
  same_failed r error p q is = subst (λ (x : Met E). Same p x q) (sym is) tt

  same_on : (r : Met E) (p n q : PolledPeer I D S M N) → kept n ≡ kept p → Same n r q → Same p r q
  same_on Nothing p n q is h = h ∙ is
  same_on Again p n q is h = h ∙ is
  same_on (Transmit transmit) p n q is h = tt
  same_on (MetEvent event) p n q is h = tt
  same_on (Error error) p n q is h = tt

  abbrev pub StageKeeps : Stage (PolledPeer I D S M N) E → Type 0
  StageKeeps stage = (p : PolledPeer I D S M N) (r : Met E) (q : PolledPeer I D S M N) → stage p r q → Same p r q

  else_keeps : (first rest : Stage (PolledPeer I D S M N) E) → StageKeeps first → StageKeeps rest → StageKeeps (FollowedBy first rest)
  else_keeps first rest one other p r q (Stopped met stage) = one p r q stage
  else_keeps first rest one other p r q (WentOn between stage after) = same_on r p between q (one p Nothing between stage) (other between r q after)

  pub turns_keep : (stage : Stage (PolledPeer I D S M N) E) → StageKeeps stage → (turns : ℕ) (p q : PolledPeer I D S M N) → StartsOver stage turns p q
      → kept q ≡ kept p
  turns_keep stage one turns p q over =
      over_carries stage (λ (a b : PolledPeer I D S M N). kept b ≡ kept a) (λ a. refl) (λ a b c e f. f ∙ e) (λ a b turn. one a Again b turn) turns p q over

  repeats_keeps : (stage : Stage (PolledPeer I D S M N) E) → StageKeeps stage → StageKeeps (RepeatsStage stage)
  repeats_keeps stage one p r q h = same_on r p h.last q (turns_keep stage one h.turns p h.last h.over) (one h.last r q h.ends)

-- something of the phase and the agent
abbrev pub kept_by : {I D S M N K : Type 0} → (Phase → I → K) → PolledPeer I D S M N → K
kept_by f p = f p.core.phase p.core.ice

module _ {I D S M E N K : Type 0} (f : Phase → I → K) where
  cert_kept : (cert : List ℕ) → StageKeeps (kept_by f) (ChecksCert {I = I} {D = D} {S = S} {M = M} {E = E} {N = N} cert)
  unfolding ChecksCert
  cert_kept cert p Again q h = same_of {E = E} (kept_by f) Again p _ q h.3 refl
  cert_kept cert p (Error error) q h = tt
  cert_kept cert p _ q h = absurd h

  connected_kept : (handshake : Handshake) (p : PolledPeer I D S M N) (r : Met E) (q : PolledPeer I D S M N) → TellsConnectedFrom handshake p r q
      → Same (kept_by f) p r q
  connected_kept Pending p r q h = same_of (kept_by f) r p p q h.1 refl
  connected_kept Finished p r q h = same_of (kept_by f) r p _ q h.1 refl
  connected_kept Told p r q h = same_of (kept_by f) r p p q h.1 refl

  opens_kept : (stream : ℕ) (label : List ℕ) → StageKeeps (kept_by f) (OpensChannelOver {I = I} {D = D} {S = S} {M = M} {E = E} {N = N} stream label)
  unfolding OpensChannelOver
  opens_kept stream label p (MetEvent event) q h = tt
  opens_kept stream label p Again q h = same_of {E = E} (kept_by f) Again p _ q h.1 refl
  opens_kept stream label p (Error error) q h = tt
  opens_kept stream label p _ q h = absurd h

  closes_kept : (id : Option ℕ) (pending : Bool) → StageKeeps (kept_by f) (ClosesChannelOver {I = I} {D = D} {S = S} {M = M} {E = E} {N = N} id pending)
  closes_kept (Some id) pending p r q h = same_of (kept_by f) r p _ q h.1 refl
  closes_kept None pending p r q h = same_of (kept_by f) r p p q h.1 refl

  hears_kept : (id : Option ℕ) (binary : Bool) (bytes : List ℕ) → StageKeeps (kept_by f) (HearsChannelOver {I = I} {D = D} {S = S} {M = M} {E = E} {N = N} id binary bytes)
  hears_kept (Some id) binary bytes p r q h = same_of (kept_by f) r p p q h.1 refl
  hears_kept None binary bytes p r q h = same_of (kept_by f) r p p q h.1 refl

  falls_kept : (id : Option ℕ) → StageKeeps (kept_by f) (FallsChannelOver {I = I} {D = D} {S = S} {M = M} {E = E} {N = N} id)
  falls_kept (Some id) p r q h = same_of (kept_by f) r p p q h.1 refl
  falls_kept None p r q h = same_of (kept_by f) r p p q h.1 refl

module _ {I D S M E X T W N K : Type 0} (m : Meanings I D S M E X T W N) (f : Phase → I → K) where
  times_kept : (due : Bool) (p : PolledPeer I D S M N) (r : Met E) (q : PolledPeer I D S M N) → TimesDtlsIf m due p r q → Same (kept_by f) p r q
  unfolding GivesDtlsTime
  times_kept true p Nothing q h = same_of {E = E} (kept_by f) Nothing p _ q h.1 refl
  times_kept true p (Error error) q h = tt
  times_kept true p _ q h = absurd h
  times_kept false p r q h = same_of (kept_by f) r p p q h.1 refl

  output_kept : (output : DtlsOutput) → StageKeeps (kept_by f) (TakesDtlsOutput m output)
  unfolding TakesKeys TakesCloseNotify HandsPacket
  output_kept outputs.Connected p r q h = same_of (kept_by f) r p _ q h.1 refl
  output_kept (outputs.KeyingMaterial key profile) p Again q h = same_of {E = E} (kept_by f) Again p _ q h.1 refl
  output_kept (outputs.KeyingMaterial key profile) p (Error error) q h = tt
  output_kept (outputs.KeyingMaterial key profile) p _ q h = absurd h
  output_kept (outputs.PeerCert cert) p r q h = cert_kept f cert.now p r q h
  output_kept (outputs.ApplicationData bytes) p Again q h = same_of {E = E} (kept_by f) Again p _ q h.1 refl
  output_kept (outputs.ApplicationData bytes) p (Error error) q h = tt
  output_kept (outputs.ApplicationData bytes) p _ q h = absurd h
  output_kept (outputs.Timeout moment) p r q h = same_of (kept_by f) r p _ q h.1 refl
  output_kept outputs.CloseNotify p (MetEvent event) q h = tt
  output_kept outputs.CloseNotify p (Error error) q h = tt
  output_kept outputs.CloseNotify p _ q h = absurd h

  dtls_answer_kept : (answer : Result DtlsOutput AllocError) (dtls : _) (p : PolledPeer I D S M N) (r : Met E) (q : PolledPeer I D S M N)
      → TakesDtlsAnswer m answer (with_dtls dtls p) r q → Same (kept_by f) p r q
  dtls_answer_kept (Ok output) dtls p r q h = same_on (kept_by f) r p (with_dtls dtls p) q refl (output_kept output (with_dtls dtls p) r q h)
  dtls_answer_kept (Err error) dtls p r q h = same_failed (kept_by f) r Alloc p q h.0

  -- what a poll takes from the DTLS connection
  pub outputs_kept : StageKeeps (kept_by f) (FollowedBy (TimesDtls m) (FollowedBy (PollsDtlsOutputs m) TellsConnected))
  outputs_kept =
      else_keeps (kept_by f) (TimesDtls m) _ (λ p r q h. times_kept (is_dtls_due p) p r q h)
      (else_keeps (kept_by f) (PollsDtlsOutputs m) TellsConnected
      (repeats_keeps (kept_by f) (PollsDtlsOutput m) (λ p r q turn. dtls_answer_kept turn.answer turn.dtls p r q turn.by_answer))
      (λ p r q h. connected_kept f p.transport.handshake p r q h))

  event_kept : (e : SctpEvent) → StageKeeps (kept_by f) (TakesStreamEvent m e)
  unfolding LosesAssociation
  event_kept (event.Transmit packets) p r q h = same_of (kept_by f) r p _ q h.1 refl
  event_kept (event.Open stream label) p r q h = opens_kept f stream label p r q h
  event_kept (event.Close stream pending) p r q h = closes_kept f (channel_over stream p.core.channels) pending p r q h
  event_kept (event.StreamResetComplete stream) p r q h = same_of (kept_by f) r p _ q h.1 refl
  event_kept (event.Data stream binary bytes) p r q h = hears_kept f (channel_over stream p.core.channels) binary bytes p r q h
  event_kept (event.BufferedAmountLow stream) p r q h = falls_kept f (channel_over stream p.core.channels) p r q h
  event_kept event.AssociationLost p (MetEvent event) q h = tt
  event_kept event.AssociationLost p (Error error) q h = tt
  event_kept event.AssociationLost p _ q h = absurd h

  stream_answer_kept : (answer : Result (Option SctpEvent) AllocError) (streams : _) (p : PolledPeer I D S M N) (r : Met E) (q : PolledPeer I D S M N)
      → TakesStreamAnswer m answer (with_sctp streams p) r q → Same (kept_by f) p r q
  stream_answer_kept (Ok None) streams p r q h = same_of (kept_by f) r p _ q h.1 refl
  stream_answer_kept (Ok (Some e)) streams p r q h = same_on (kept_by f) r p (with_sctp streams p) q refl (event_kept e (with_sctp streams p) r q h)
  stream_answer_kept (Err error) streams p r q h = same_failed (kept_by f) r Alloc p q h.0

  sends_kept : (packets : Option (List (List ℕ))) → StageKeeps (kept_by f) (SendsFirst m packets)
  unfolding SendsPacket
  sends_kept None p r q h = same_of (kept_by f) r p p q h.1 refl
  sends_kept (Some []) p r q h = same_of (kept_by f) r p p q h.1 refl
  sends_kept (Some (packet ∷ rest)) p Nothing q h = same_of {E = E} (kept_by f) Nothing p _ q h.1 refl
  sends_kept (Some (packet ∷ rest)) p Again q h = same_of {E = E} (kept_by f) Again p _ q h.0 refl
  sends_kept (Some (packet ∷ rest)) p (Error error) q h = tt
  sends_kept (Some (packet ∷ rest)) p _ q h = absurd h

  pub streams_kept : StageKeeps (kept_by f) (TellsStreams m)
  unfolding TellsStreams
  streams_kept =
      else_keeps (kept_by f) (PollsStreamEvents m) (SendsKeptPackets m)
      (repeats_keeps (kept_by f) (PollsStreamEvent m) (λ p r q turn. stream_answer_kept turn.answer turn.streams p r q turn.by_answer))
      (λ p r q h. same_on (kept_by f) r p (with_pushed None p) q refl (sends_kept p.core.sctp.pushed (with_pushed None p) r q h))

  told_kept : StageKeeps (kept_by f) (TellsMedia m)
  unfolding TellsMedia
  told_kept p Nothing q h = same_of {E = E} (kept_by f) Nothing p _ q h.1 refl
  told_kept p (MetEvent event) q h = tt
  told_kept p _ q h = absurd h

  fallible_kept : StageKeeps (kept_by f) (TellsFallibleMedia m)
  unfolding TellsFallibleMedia
  fallible_kept p Nothing q h = same_of {E = E} (kept_by f) Nothing p _ q h.1 refl
  fallible_kept p (MetEvent event) q h = tt
  fallible_kept p (Error error) q h = tt
  fallible_kept p _ q h = absurd h

  statistics_kept : StageKeeps (kept_by f) (TellsStatistics {I = I} {D = D} {S = S} {M = M} {E = E} {N = N})
  statistics_kept p Nothing q h = same_of {E = E} (kept_by f) Nothing p p q (no_statistics_told E p q h) refl
  statistics_kept p Again q h = absurd (statistics_never E p q h)
  statistics_kept p _ q h = tt

  pub arrivals_kept : StageKeeps (kept_by f) (TellsArrivals m)
  unfolding TellsArrivals
  arrivals_kept =
      else_keeps (kept_by f) (TellsMedia m) _ told_kept
      (else_keeps (kept_by f) (TellsFallibleMedia m) TellsStatistics fallible_kept statistics_kept)

-- the phase alone
abbrev pub only_phase : {I : Type 0} → Phase → I → Phase
only_phase phase ice = phase

abbrev pub phase_of_peer : {I D S M N : Type 0} → PolledPeer I D S M N → Phase
phase_of_peer p = p.core.phase

module _ {I D S M E X T W N : Type 0} (m : Meanings I D S M E X T W N) where
  ice_kept : (event : Option IceEvent) (ice : I) (p : PolledPeer I D S M N) (r : Met E) (q : PolledPeer I D S M N) → TakesIceEvent event (with_ice ice p) r q
      → Same phase_of_peer p r q
  ice_kept None ice p r q h = same_of phase_of_peer r p _ q h.1 refl
  ice_kept (Some event) ice p r q h = same_of phase_of_peer r p _ q h.1 refl

  checks_kept : StageKeeps phase_of_peer (SendsChecks m)
  unfolding SendsChecks
  checks_kept p Nothing q h = same_of {E = E} phase_of_peer Nothing p _ q h.1 refl
  checks_kept p (Transmit transmit) q h = tt
  checks_kept p _ q h = absurd h

  packets_kept : (addr : SendAddr) → StageKeeps phase_of_peer (SendsDtlsPacket m addr)
  unfolding SendsDtlsPacket
  packets_kept addr p Nothing q h = same_of {E = E} phase_of_peer Nothing p _ q h.1 refl
  packets_kept addr p (Transmit transmit) q h = tt
  packets_kept addr p _ q h = absurd h

  datagrams_kept : (addr : SendAddr) → StageKeeps phase_of_peer (SendsMediaDatagram m addr)
  unfolding SendsMediaDatagram
  datagrams_kept addr p Nothing q h = same_of {E = E} phase_of_peer Nothing p _ q h.1 refl
  datagrams_kept addr p (Transmit transmit) q h = tt
  datagrams_kept addr p _ q h = absurd h

  pair_kept : (addr : Option SendAddr) (p : PolledPeer I D S M N) (r : Met E) (q : PolledPeer I D S M N) → SendsBy m addr p r q → Same phase_of_peer p r q
  pair_kept (Some addr) p r q h = else_keeps phase_of_peer (SendsDtlsPacket m addr) (SendsMediaDatagram m addr) (packets_kept addr) (datagrams_kept addr) p r q h
  pair_kept None p r q h = same_of phase_of_peer r p _ q h.2 refl

  pub visits_kept : StageKeeps phase_of_peer (VisitsParts m)
  unfolding VisitsParts TellsConnection SendsDatagrams
  visits_kept =
      else_keeps phase_of_peer (TellsConnection m) _
      (else_keeps phase_of_peer (PollsIceEvents m) _
      (repeats_keeps phase_of_peer (PollsIceEvent m) (λ p r q turn. ice_kept turn.event turn.ice p r q turn.by_event)) (outputs_kept m only_phase))
      (else_keeps phase_of_peer (TellsStreams m) _ (streams_kept m only_phase)
      (else_keeps phase_of_peer (TellsArrivals m) _ (arrivals_kept m only_phase)
      (else_keeps phase_of_peer (SendsDatagrams m) StartsOverWhenDue
      (else_keeps phase_of_peer (SendsChecks m) (SendsByPair m) checks_kept (λ p r q h. pair_kept p.transport.send_addr p r q h))
      (λ p r q h. same_of phase_of_peer r p p q h.1 refl))))
