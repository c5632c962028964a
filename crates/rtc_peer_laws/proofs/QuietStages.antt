-- Stages of a poll beside the connection, and closing, leave the handshake of a peer as it was.
use Rattle.std.proofs.Common.{◌≡◌, inl, ℕ, Bool, List, [], ◌∷◌, Option, Some, None, Result, Ok, Err, refl, ◌∙◌, ap}
use Rattle.std.specs.declared.alloc.AllocError.{AllocError}
use Rattle.rtc_parts.specs.declared.stats_event.StatsEvent.{StatsEvent}
use Rattle.rtc_config.specs.Stats.{Reporting}
use Rattle.rtc_sctp_entries.specs.declared.sctp_event.SctpEvent.{SctpEvent}
use Rattle.rtc_sctp_entries.specs.declared.sctp_event.SctpEvent.TheVariants as event
use Rattle.rtc_channels.specs.Holds.{holds_lost}
use Rattle.rtc_peer_core.specs.declared.phase.Phase.{Phase}
use Rattle.rtc_peer_core.specs.declared.phase.Phase.TheVariants.{Alive, Closing, Closed}
use Rattle.rtc_peer_core.specs.declared.rtc_error.RtcError.{RtcError}
use Rattle.rtc_peer_core.specs.declared.rtc_error.RtcError.TheVariants.{Dtls, Sctp, Media as MediaFailed, Alloc}
use Rattle.rtc_peer_core.specs.Meanings.{Meanings}
use Rattle.rtc_peer_transport.specs.declared.event.Event.TheVariants as told
use Rattle.rtc_peer_transport.specs.declared.handshake.Handshake.{Handshake}
use Rattle.rtc_peer_transport.specs.declared.met.Met.{Met}
use Rattle.rtc_peer_transport.specs.declared.met.Met.TheVariants.{Nothing, Again, Transmit as Sent, Event, Error}
use Rattle.rtc_peer_transport.specs.declared.polled_peer.PolledPeer.{PolledPeer}
use Rattle.rtc_peer_transport.specs.declared.send_addr.SendAddr.{SendAddr}
use Rattle.rtc_peer_transport.specs.Closing.{ShutsMedia, ShutsStreams, ShutsDtls, BecomesClosing, BeginsClosing, ClosesPeer, ClosesPeerFrom}
use Rattle.rtc_peer_transport.specs.Connection.{with_channels, with_sctp, with_pushed}
use Rattle.rtc_peer_transport.specs.Stages.{Call, InTurn, Failed, Passed, Stage, FollowedBy, Stopped, WentOn, RepeatsStage}
use Rattle.rtc_peer_transport.specs.Statistics.{TellsReport, TellsReportOf, TellsStatistics}
use Rattle.rtc_peer_transport.proofs.StageLemmas.{over_carries}
use Rattle.rtc_peer_polling.specs.MediaStages.{TellsMedia, TellsFallibleMedia}
use Rattle.rtc_peer_polling.specs.SendStages.{SendsChecks, SendsDtlsPacket, SendsMediaDatagram, SendsBy, SendsByPair}
use Rattle.rtc_peer_polling.specs.StreamStages.{OpensChannelOver, ClosesChannelOver, HearsChannelOver, FallsChannelOver, LosesAssociation, TakesStreamEvent, TakesStreamAnswer, PollsStreamEvent, PollsStreamEvents, SendsPacket, SendsFirst, SendsKeptPackets, TellsStreams, channel_over}
use Rattle.rtc_peer_polling.specs.Walk.{TellsArrivals, SendsDatagrams}
use Rattle.rtc_peer_laws.specs.Weight.{IsHandshakeTold, handshake_weight}

-- the handshake of a peer
abbrev pub handshake_of : {I D S M N : Type 0} → PolledPeer I D S M N → Handshake
handshake_of p = p.transport.handshake

module _ {I D S M E X T W N : Type 0} (m : Meanings I D S M E X T W N) where
  -- nothing is to be told of the handshake
  abbrev pub IsQuiet : PolledPeer I D S M N → Type 0
  IsQuiet p = handshake_weight p.transport.handshake ≡ 0

  abbrev pub Leaves : Met E → PolledPeer I D S M N → Type 0
  Leaves (Error error) q = IsHandshakeTold q
  Leaves Nothing q = IsQuiet q
  Leaves Again q = IsQuiet q
  Leaves (Sent transmit) q = IsQuiet q
  Leaves (Event event) q = IsQuiet q

  abbrev pub StaysQuiet : Stage (PolledPeer I D S M N) E → Type 0
  StaysQuiet stage = (p : PolledPeer I D S M N) (r : Met E) (q : PolledPeer I D S M N) → IsQuiet p → stage p r q → Leaves r q

  pub quiet_all : (r : Met E) (q : PolledPeer I D S M N) → IsQuiet q → Leaves r q
  quiet_all Nothing q h = h
  quiet_all Again q h = h
  quiet_all (Sent transmit) q h = h
  quiet_all (Event event) q h = h
  quiet_all (Error error) q h = inl h

  -- the handshake stays
  by_same : (p q : PolledPeer I D S M N) → handshake_of q ≡ handshake_of p → IsQuiet p → IsQuiet q
  by_same p q same h = ap handshake_weight same ∙ h

  pub same : (p x q : PolledPeer I D S M N) → q ≡ x → handshake_of x ≡ handshake_of p → IsQuiet p → IsQuiet q
  same p x q is kept h = by_same p q (ap (λ (y : PolledPeer I D S M N). handshake_of y) is ∙ kept) h

  pub else_quiet : (first rest : Stage (PolledPeer I D S M N) E) → StaysQuiet first → StaysQuiet rest → StaysQuiet (FollowedBy first rest)
  else_quiet first rest f g p r q h (Stopped met stage) = f p r q h stage
  else_quiet first rest f g p r q h (WentOn between stage after) = g between r q (f p Nothing between h stage) after

  abbrev Goes : PolledPeer I D S M N → PolledPeer I D S M N → Type 0
  Goes p q = IsQuiet p → IsQuiet q

  pub repeats_quiet : (stage : Stage (PolledPeer I D S M N) E) → StaysQuiet stage → StaysQuiet (RepeatsStage stage)
  repeats_quiet stage f p r q h k =
      f k.last r q (over_carries stage Goes (λ x y. y) (λ a b c one two y. two (one y)) (λ a b turn y. f a Again b y turn) k.turns p k.last k.over h) k.ends

  -- ---- closing

  abbrev pub CallSame : Call (PolledPeer I D S M N) → Type 0
  CallSame call = (p : PolledPeer I D S M N) (r : Result (Unit {0}) RtcError) (q : PolledPeer I D S M N) → call p r q → handshake_of q ≡ handshake_of p

  pub turn_same : (first rest : Call (PolledPeer I D S M N)) → CallSame first → CallSame rest → CallSame (InTurn first rest)
  turn_same first rest f g p r q (Failed error is h) = f p (Err error) q h
  turn_same first rest f g p r q (Passed between h k) = g between r q k ∙ f p (Ok tt) between h

  pub shake : (x q : PolledPeer I D S M N) → q ≡ x → handshake_of q ≡ handshake_of x
  shake x q is = ap (λ (y : PolledPeer I D S M N). handshake_of y) is

  media_same : CallSame (ShutsMedia m)
  unfolding ShutsMedia
  media_same p (Ok done) q h = shake _ q h.1
  media_same p (Err Alloc) q h = shake _ q h.1
  media_same p (Err _) q h = absurd h

  streams_same : CallSame (ShutsStreams m)
  unfolding ShutsStreams
  streams_same p (Ok done) q h = shake _ q h.1
  streams_same p (Err (Sctp cause)) q h = shake _ q h.2
  streams_same p (Err Alloc) q h = shake _ q h.1
  streams_same p (Err _) q h = absurd h

  dtls_same : CallSame (ShutsDtls m)
  unfolding ShutsDtls
  dtls_same p (Ok done) q h = shake _ q h.1
  dtls_same p (Err (Dtls cause)) q h = shake _ q h.2
  dtls_same p (Err Alloc) q h = shake _ q h.1
  dtls_same p (Err _) q h = absurd h

  begins_same : CallSame (BeginsClosing m)
  begins_same =
      turn_same (ShutsMedia m) _ media_same
      (turn_same (ShutsStreams m) _ streams_same (turn_same (ShutsDtls m) BecomesClosing dtls_same (λ p r q h. shake _ q h.1)))

  closes_from_same : (phase : Phase) (p : PolledPeer I D S M N) (r : Result (Unit {0}) RtcError) (q : PolledPeer I D S M N) → ClosesPeerFrom m phase p r q
      → handshake_of q ≡ handshake_of p
  closes_from_same Alive p r q h = begins_same p r q h
  closes_from_same Closing p r q h = shake p q h.1
  closes_from_same Closed p r q h = shake p q h.1

  pub closes_same : CallSame (ClosesPeer m)
  closes_same p r q h = closes_from_same p.core.phase p r q h

  -- ---- the stages beside the connection

  -- a stage leaves the handshake, whatever it meets
  abbrev pub LeavesHandshake : Stage (PolledPeer I D S M N) E → Type 0
  LeavesHandshake stage = (p : PolledPeer I D S M N) (r : Met E) (q : PolledPeer I D S M N) → stage p r q → handshake_of q ≡ handshake_of p

  else_leaves : (first rest : Stage (PolledPeer I D S M N) E) → LeavesHandshake first → LeavesHandshake rest → LeavesHandshake (FollowedBy first rest)
  else_leaves first rest f g p r q (Stopped met stage) = f p r q stage
  else_leaves first rest f g p r q (WentOn between stage after) = g between r q after ∙ f p Nothing between stage

  abbrev SameHandshake : PolledPeer I D S M N → PolledPeer I D S M N → Type 0
  SameHandshake p q = handshake_of q ≡ handshake_of p

  repeats_leave : (stage : Stage (PolledPeer I D S M N) E) → LeavesHandshake stage → LeavesHandshake (RepeatsStage stage)
  repeats_leave stage f p r q k =
      f k.last r q k.ends
      ∙ over_carries stage SameHandshake (λ x. refl) (λ a b c one two. two ∙ one) (λ a b turn. f a Again b turn) k.turns p k.last k.over

  quiet_stage : (stage : Stage (PolledPeer I D S M N) E) → LeavesHandshake stage → StaysQuiet stage
  quiet_stage stage f p r q k h = quiet_all r q (by_same p q (f p r q h) k)

  opens : (stream : ℕ) (label : List ℕ) → LeavesHandshake (OpensChannelOver {I = I} {D = D} {S = S} {M = M} {E = E} {N = N} stream label)
  unfolding OpensChannelOver
  opens stream label p (Event (told.ChannelOpen id text)) q h = shake _ q h.2
  opens stream label p Again q h = shake _ q h.1
  opens stream label p (Error Alloc) q h = shake _ q h
  opens stream label p _ q h = absurd h

  closes_over : (id : Option ℕ) (pending : Bool) → LeavesHandshake (ClosesChannelOver {I = I} {D = D} {S = S} {M = M} {E = E} {N = N} id pending)
  closes_over (Some id) pending p r q h = shake _ q h.1
  closes_over None pending p r q h = shake p q h.1

  hears : (id : Option ℕ) (binary : Bool) (bytes : List ℕ) → LeavesHandshake (HearsChannelOver {I = I} {D = D} {S = S} {M = M} {E = E} {N = N} id binary bytes)
  hears (Some id) binary bytes p r q h = shake p q h.1
  hears None binary bytes p r q h = shake p q h.1

  falls : (id : Option ℕ) → LeavesHandshake (FallsChannelOver {I = I} {D = D} {S = S} {M = M} {E = E} {N = N} id)
  falls (Some id) p r q h = shake p q h.1
  falls None p r q h = shake p q h.1

  loses : LeavesHandshake (LosesAssociation m)
  unfolding LosesAssociation
  loses p (Event told.Closed) q h = closes_same (with_channels (holds_lost p.core.channels) p) (Ok tt) q h
  loses p (Error error) q h = closes_same (with_channels (holds_lost p.core.channels) p) (Err error) q h
  loses p _ q h = absurd h

  takes : (e : SctpEvent) → LeavesHandshake (TakesStreamEvent m e)
  takes (event.Transmit packets) p r q h = shake _ q h.1
  takes (event.Open stream label) p r q h = opens stream label p r q h
  takes (event.Close stream pending) p r q h = closes_over (channel_over stream p.core.channels) pending p r q h
  takes (event.StreamResetComplete stream) p r q h = shake _ q h.1
  takes (event.Data stream binary bytes) p r q h = hears (channel_over stream p.core.channels) binary bytes p r q h
  takes (event.BufferedAmountLow stream) p r q h = falls (channel_over stream p.core.channels) p r q h
  takes event.AssociationLost p r q h = loses p r q h

  answer : (a : Result (Option SctpEvent) AllocError) → LeavesHandshake (TakesStreamAnswer m a)
  answer (Ok None) p r q h = shake p q h.1
  answer (Ok (Some e)) p r q h = takes e p r q h
  answer (Err error) p r q h = shake _ q h.1

  sends : (packet : List ℕ) (rest : List (List ℕ)) → LeavesHandshake (SendsPacket m packet rest)
  unfolding SendsPacket
  sends packet rest p Nothing q h = shake _ q h.1
  sends packet rest p Again q h = shake _ q h.0
  sends packet rest p (Error (Dtls cause)) q h = shake _ q h.3
  sends packet rest p (Error Alloc) q h = shake _ q h.1
  sends packet rest p _ q h = absurd h

  sends_first : (packets : Option (List (List ℕ))) → LeavesHandshake (SendsFirst m packets)
  sends_first None p r q h = shake p q h.1
  sends_first (Some []) p r q h = shake p q h.1
  sends_first (Some (packet ∷ rest)) p r q h = sends packet rest p r q h

  pub streams_leave : LeavesHandshake (TellsStreams m)
  unfolding TellsStreams
  streams_leave =
      else_leaves (PollsStreamEvents m) (SendsKeptPackets m)
      (repeats_leave (PollsStreamEvent m) (λ p r q turn. answer turn.answer (with_sctp turn.streams p) r q turn.by_answer))
      (λ p r q h. sends_first p.core.sctp.pushed (with_pushed None p) r q h)

  media_leaves : LeavesHandshake (TellsMedia m)
  unfolding TellsMedia
  media_leaves p Nothing q h = shake _ q h.1
  media_leaves p (Event (told.Media e)) q h = shake _ q h.1
  media_leaves p _ q h = absurd h

  fallible_leaves : LeavesHandshake (TellsFallibleMedia m)
  unfolding TellsFallibleMedia
  fallible_leaves p Nothing q h = shake _ q h.1
  fallible_leaves p (Event (told.Media e)) q h = shake _ q h.1
  fallible_leaves p (Error (MediaFailed cause)) q h = shake _ q h.2
  fallible_leaves p (Error Alloc) q h = shake _ q h.1
  fallible_leaves p _ q h = absurd h

  report : (events : List StatsEvent) (stats : Reporting) → LeavesHandshake (TellsReport events stats)
  report [] stats p r q h = shake p q h.1
  report (e ∷ events) stats p r q h = shake _ q h.1

  reports : (stats : Option Reporting) → LeavesHandshake (TellsReportOf stats)
  reports None p r q h = shake p q h.1
  reports (Some stats) p r q h = report stats.events stats p r q h

  pub arrivals_leave : LeavesHandshake (TellsArrivals m)
  unfolding TellsArrivals TellsStatistics
  arrivals_leave =
      else_leaves (TellsMedia m) _ media_leaves (else_leaves (TellsFallibleMedia m) TellsStatistics fallible_leaves (λ p r q h. reports p.transport.stats p r q h))

  checks_leave : LeavesHandshake (SendsChecks m)
  unfolding SendsChecks
  checks_leave p Nothing q h = shake _ q h.1
  checks_leave p (Sent transmit) q h = shake _ q h.1
  checks_leave p _ q h = absurd h

  packet_leaves : (addr : SendAddr) → LeavesHandshake (SendsDtlsPacket m addr)
  unfolding SendsDtlsPacket
  packet_leaves addr p Nothing q h = shake _ q h.1
  packet_leaves addr p (Sent transmit) q h = shake _ q h.2
  packet_leaves addr p _ q h = absurd h

  datagram_leaves : (addr : SendAddr) → LeavesHandshake (SendsMediaDatagram m addr)
  unfolding SendsMediaDatagram
  datagram_leaves addr p Nothing q h = shake _ q h.1
  datagram_leaves addr p (Sent transmit) q h = shake _ q h.2
  datagram_leaves addr p _ q h = absurd h

  pair_leaves : (addr : Option SendAddr) → LeavesHandshake (SendsBy m addr)
  pair_leaves (Some addr) p r q h = else_leaves (SendsDtlsPacket m addr) (SendsMediaDatagram m addr) (packet_leaves addr) (datagram_leaves addr) p r q h
  pair_leaves None p r q h = shake _ q h.2

  pub datagrams_leave : LeavesHandshake (SendsDatagrams m)
  unfolding SendsDatagrams
  datagrams_leave = else_leaves (SendsChecks m) (SendsByPair m) checks_leave (λ p r q h. pair_leaves p.transport.send_addr p r q h)

  pub streams_quiet : StaysQuiet (TellsStreams m)
  streams_quiet = quiet_stage (TellsStreams m) streams_leave

  pub arrivals_quiet : StaysQuiet (TellsArrivals m)
  arrivals_quiet = quiet_stage (TellsArrivals m) arrivals_leave

  pub datagrams_quiet : StaysQuiet (SendsDatagrams m)
  datagrams_quiet = quiet_stage (SendsDatagrams m) datagrams_leave
