-- The stages of streams lower what a peer weighs.
use Rattle.std.proofs.Common.{◌≡◌, ℕ, ◌+◌, ◌*◌, ◌≤◌, ◌⊎◌, inl, inr, Bool, true, false, List, [], ◌∷◌, length, Option, Some, None, Result, Ok, Err, refl, sym, ap, subst, arith}
use Rattle.std.specs.declared.alloc.AllocError.{AllocError}
use Rattle.rtc_parts.specs.declared.dtls_error.DtlsError.{DtlsError}
use Rattle.rtc_parts.specs.declared.dtls_error.DtlsError.TheVariants.{Fault}
use Rattle.rtc_parts.specs.DtlsState.{DtlsState, SendsData, can_send}
use Rattle.rtc_peer_core.specs.declared.rtc_error.RtcError.TheVariants.{Dtls, Alloc}
use Rattle.rtc_sctp_entries.specs.declared.sctp_event.SctpEvent.{SctpEvent}
use Rattle.rtc_sctp_entries.specs.declared.sctp_event.SctpEvent.TheVariants as event
use Rattle.rtc_sctp.specs.Streams.{SctpStreams}
use Rattle.rtc_sctp.specs.Polls.{PollsStreams}
use Rattle.rtc_channels.specs.Holds.{holds_lost}
use Rattle.rtc_peer_core.specs.Meanings.{Meanings, PartsLaws}
use Rattle.rtc_peer_transport.specs.declared.event.Event.TheVariants as told
use Rattle.rtc_peer_transport.specs.declared.met.Met.{Met}
use Rattle.rtc_peer_transport.specs.declared.met.Met.TheVariants.{Nothing, Again, Event, Error}
use Rattle.rtc_peer_transport.specs.declared.polled_peer.PolledPeer.{PolledPeer}
use Rattle.rtc_peer_transport.specs.Closing.{is_phase_closing}
use Rattle.rtc_peer_transport.specs.Connection.{with_sctp, with_channels, with_pushed, closed_peer}
use Rattle.rtc_peer_polling.specs.StreamStages.{OpensChannelOver, ClosesChannelOver, HearsChannelOver, FallsChannelOver, LosesAssociation, TakesStreamEvent, TakesStreamAnswer, PollsStreamEvent, PollsStreamEvents, SendsPacket, SendsFirst, SendsKeptPackets, TellsStreams, channel_over, left_over}
use Rattle.rtc_peer_polling.proofs.StreamWork.{poll_none}
use Rattle.rtc_peer_laws.specs.Weight.{packets_pushed}
use Rattle.rtc_peer_laws.proofs.PassFalls.{told_cost, poll_costs}
use Rattle.rtc_peer_laws.proofs.PollsUnset.{poll_unset}
use Rattle.rtc_peer_laws.proofs.Measures.{base, whole, Fit, Lowered, Lowers, lowered_as, fit_as, followed_lowers, repeats_lowers}
use Rattle.rtc_peer_laws.proofs.ClosingFalls.{rested_whole, closes_rest, close_fits}

module _ {I D S M E X T W N : Type 0} (m : Meanings I D S M E X T W N) (laws : PartsLaws m) where
  -- the peer with the streams as the poll left them
  abbrev After : (cost : ℕ) → (p s : PolledPeer I D S M N) → Type 0
  After cost p s = Fit m laws s × (whole m laws s + 4 * cost ≤ whole m laws p)

  opens : (stream : ℕ) (label : List ℕ) (p s : PolledPeer I D S M N) (r : Met E) (q : PolledPeer I D S M N) → After 1 p s
      → OpensChannelOver {I = I} {D = D} {S = S} {M = M} {E = E} {N = N} stream label s r q → Lowered m laws r p q
  unfolding OpensChannelOver
  opens stream label p s (Event (told.ChannelOpen id text)) q k h = (fit_as m laws _ q h.2 k.0, omega (arith, ap (whole m laws) h.2, k.1))
  opens stream label p s Again q k h = (fit_as m laws _ q h.1 k.0, omega (arith, ap (whole m laws) h.1, k.1))
  opens stream label p s (Error Alloc) q k h = fit_as m laws _ q h (k.0.0, k.0.1)
  opens stream label p s _ q k h = absurd h

  closes_over : (id : Option ℕ) (pending : Bool) (p s : PolledPeer I D S M N) (r : Met E) (q : PolledPeer I D S M N) → After 1 p s
      → ClosesChannelOver {I = I} {D = D} {S = S} {M = M} {E = E} {N = N} id pending s r q → Lowered m laws r p q
  closes_over (Some id) pending p s r q k h = lowered_as m laws r (Event _) p _ q h.0 h.1 (k.0, omega (arith, k.1))
  closes_over None pending p s r q k h = lowered_as m laws r Again p s q h.0 h.1 (k.0, omega (arith, k.1))

  hears : (id : Option ℕ) (binary : Bool) (bytes : List ℕ) (p s : PolledPeer I D S M N) (r : Met E) (q : PolledPeer I D S M N) → After 1 p s
      → HearsChannelOver {I = I} {D = D} {S = S} {M = M} {E = E} {N = N} id binary bytes s r q → Lowered m laws r p q
  hears (Some id) binary bytes p s r q k h = lowered_as m laws r (Event _) p s q h.0 h.1 (k.0, omega (arith, k.1))
  hears None binary bytes p s r q k h = lowered_as m laws r Again p s q h.0 h.1 (k.0, omega (arith, k.1))

  falls : (id : Option ℕ) (p s : PolledPeer I D S M N) (r : Met E) (q : PolledPeer I D S M N) → After 1 p s
      → FallsChannelOver {I = I} {D = D} {S = S} {M = M} {E = E} {N = N} id s r q → Lowered m laws r p q
  falls (Some id) p s r q k h = lowered_as m laws r (Event _) p s q h.0 h.1 (k.0, omega (arith, k.1))
  falls None p s r q k h = lowered_as m laws r Again p s q h.0 h.1 (k.0, omega (arith, k.1))

  loses : (p s : PolledPeer I D S M N) (r : Met E) (q : PolledPeer I D S M N) → After 1 p s → LosesAssociation m s r q → Lowered m laws r p q
  unfolding LosesAssociation
  loses p s (Event told.Closed) q k h =
      let rest = closes_rest m laws (with_channels (holds_lost s.core.channels) s) q h in
      let less = rested_whole m laws 0 (with_channels (holds_lost s.core.channels) s) q k.0.1 (omega (arith, rest.less)) rest.asks rest.greatest rest.wake in
      (rest.fit k.0, omega (arith, less, k.1))
  loses p s (Error error) q k h = close_fits m laws (with_channels (holds_lost s.core.channels) s) (Err error) q h (k.0.0, k.0.1)
  loses p s _ q k h = absurd h

  takes : (e : SctpEvent) (p s : PolledPeer I D S M N) (r : Met E) (q : PolledPeer I D S M N) → s.core.sctp.pushed ≡ None → After (told_cost e) p s
      → TakesStreamEvent m e s r q → Lowered m laws r p q
  takes (event.Transmit packets) p s r q none k h =
      lowered_as m laws r Nothing p (with_pushed (Some packets) s) q h.0 h.1 ((k.0.0, k.0.1), omega (arith, k.1, ap packets_pushed none))
  takes (event.Open stream label) p s r q none k h = opens stream label p s r q k h
  takes (event.Close stream pending) p s r q none k h = closes_over (channel_over stream s.core.channels) pending p s r q k h
  takes (event.StreamResetComplete stream) p s r q none k h = lowered_as m laws r Again p _ q h.0 h.1 (k.0, omega (arith, k.1))
  takes (event.Data stream binary bytes) p s r q none k h = hears (channel_over stream s.core.channels) binary bytes p s r q k h
  takes (event.BufferedAmountLow stream) p s r q none k h = falls (channel_over stream s.core.channels) p s r q k h
  takes event.AssociationLost p s r q none k h = loses p s r q k h

  taken_by : (answer : Result (Option SctpEvent) AllocError) (streams : SctpStreams S) (p : PolledPeer I D S M N) (r : Met E) (q : PolledPeer I D S M N)
      → Fit m laws p → PollsStreams m.association p.core.sctp answer streams → TakesStreamAnswer m answer (with_sctp streams p) r q → Lowered m laws r p q
  taken_by (Ok None) streams p r q fit polled taken =
      let cost = poll_costs m.association laws.association p.core.sctp None streams polled in
      let unset = poll_unset m.association laws.association p.core.sctp (Ok None) streams polled fit.0 in
      lowered_as m laws r Nothing p (with_sctp streams p) q taken.0 taken.1 ((unset, fit.1), omega (arith, cost))
  taken_by (Ok (Some e)) streams p r q fit polled taken =
      let cost = poll_costs m.association laws.association p.core.sctp (Some e) streams polled in
      let unset = poll_unset m.association laws.association p.core.sctp (Ok (Some e)) streams polled fit.0 in
      let none = poll_none m.association laws.association p.core.sctp (Ok (Some e)) streams polled in
      takes e p (with_sctp streams p) r q none ((unset, fit.1), omega (arith, cost)) taken
  taken_by (Err error) streams p r q fit polled taken =
      let unset = poll_unset m.association laws.association p.core.sctp (Err error) streams polled fit.0 in
      lowered_as m laws r (Error Alloc) p (closed_peer (with_sctp streams p)) q taken.0 taken.1 (unset, fit.1)

  stream_events_lower : Lowers m laws (PollsStreamEvents m)
  stream_events_lower = repeats_lowers m laws (PollsStreamEvent m) (λ p r q fit turn. taken_by turn.answer turn.streams p r q fit turn.by_poll turn.by_answer)

  -- what a packet leaves of the connection
  abbrev SentOne : DtlsState D → DtlsState D → Type 0
  SentOne d e =
      (65 * m.dtls.units e.instance + 2 * m.dtls.packets e.instance + length e.packets ≤ 65 * m.dtls.units d.instance + 2 * m.dtls.packets d.instance + length d.packets + 2)
      × (m.dtls.asks d.instance ≤ m.dtls.asks e.instance)

  sent_one : (can : Bool) (d e : DtlsState D) (bytes : List ℕ) (r : Result (Unit {0}) DtlsError) → SendsData m.dtls d can bytes r e → SentOne d e
  sent_one true d e bytes r h =
      let input = laws.dtls.sent_input d.instance e.instance bytes r h.0 in
      let output = laws.dtls.sent_output d.instance e.instance bytes r h.0 in
      let queue = ap (λ (x : DtlsState D). length x.packets) h.1 in
      (omega (arith, input, output, queue), laws.dtls.sent_asks d.instance e.instance bytes r h.0)
  sent_one false d e bytes r h = subst (λ (x : DtlsState D). SentOne d x) (sym h.1) (omega arith, omega arith)

  sent_or : (n q : PolledPeer I D S M N) (packet : List ℕ)
      → SendsData m.dtls n.core.dtls (can_send m.dtls n.core.dtls) packet (Ok tt) q.core.dtls
      ⊎ ((is_phase_closing n.core.phase ≡ true) × SendsData m.dtls n.core.dtls (can_send m.dtls n.core.dtls) packet (Err Fault) q.core.dtls)
      → SentOne n.core.dtls q.core.dtls
  sent_or n q packet (inl h) = sent_one (can_send m.dtls n.core.dtls) n.core.dtls q.core.dtls packet (Ok tt) h
  sent_or n q packet (inr h) = sent_one (can_send m.dtls n.core.dtls) n.core.dtls q.core.dtls packet (Err Fault) h.1

  left_weighs : (packets : List (List ℕ)) → packets_pushed (left_over packets) ≡ length packets
  left_weighs [] = refl
  left_weighs (packet ∷ packets) = refl

  sends : (packet : List ℕ) (rest : List (List ℕ)) (p : PolledPeer I D S M N) (r : Met E) (q : PolledPeer I D S M N)
      → p.core.sctp.pushed ≡ Some (packet ∷ rest) → Fit m laws p → SendsPacket m packet rest (with_pushed None p) r q → Lowered m laws r p q
  unfolding SendsPacket
  sends packet rest p Nothing q is fit h = (fit_as m laws _ q h.1 (fit.0, fit.1), omega (arith, ap (whole m laws) h.1, ap packets_pushed is))
  sends packet rest p Again q is fit h =
      let one = sent_or (with_pushed None p) q packet h.1 in
      let same = ap (λ (x : PolledPeer I D S M N). base m laws x) h.0 in
      let less : base m laws q ≤ base m laws p = omega (arith, same, one.0, ap packets_pushed is, left_weighs rest) in
      let all = rested_whole m laws 0 p q fit.1 (omega (arith, less)) one.1 (ap (λ (x : PolledPeer I D S M N). x.core.greatest) h.0) (ap (λ (x : PolledPeer I D S M N). x.transport.dtls_wake) h.0) in
      (fit_as m laws _ q h.0 (fit.0, fit.1), omega (arith, all))
  sends packet rest p (Error (Dtls cause)) q is fit h = fit_as m laws _ q h.3 (fit.0, fit.1)
  sends packet rest p (Error Alloc) q is fit h = fit_as m laws _ q h.1 (fit.0, fit.1)
  sends packet rest p _ q is fit h = absurd h

  sends_first : (packets : Option (List (List ℕ))) (p : PolledPeer I D S M N) (r : Met E) (q : PolledPeer I D S M N)
      → p.core.sctp.pushed ≡ packets → Fit m laws p → SendsFirst m packets (with_pushed None p) r q → Lowered m laws r p q
  sends_first None p r q is fit h = lowered_as m laws r Nothing p (with_pushed None p) q h.0 h.1 ((fit.0, fit.1), omega arith)
  sends_first (Some []) p r q is fit h = lowered_as m laws r Again p (with_pushed None p) q h.0 h.1 ((fit.0, fit.1), omega arith)
  sends_first (Some (packet ∷ rest)) p r q is fit h = sends packet rest p r q is fit h

  pub streams_lower : Lowers m laws (TellsStreams m)
  unfolding TellsStreams
  streams_lower =
      followed_lowers m laws (PollsStreamEvents m) (SendsKeptPackets m) stream_events_lower
      (λ p r q fit h. sends_first p.core.sctp.pushed p r q refl fit h)
