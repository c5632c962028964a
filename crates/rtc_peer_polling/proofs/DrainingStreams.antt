-- A visit that met nothing leaves streams that have nothing to give, or whose packets cannot go yet.
use Rattle.std.proofs.Common.{◌≡◌, ◌⊎◌, inl, inr, ℕ, false, List, [], ◌∷◌, Option, Some, None, Result, Ok, Err}
use Rattle.std.proofs.Common.{refl, sym, ap, subst, ◌∙◌}
use Rattle.std.specs.declared.alloc.AllocError.{AllocError}
use Rattle.rtc_parts.specs.DtlsState.{DtlsState, can_send}
use Rattle.rtc_sctp_entries.specs.declared.sctp_event.SctpEvent.{SctpEvent}
use Rattle.rtc_sctp_entries.specs.declared.sctp_event.SctpEvent.TheVariants as event
use Rattle.rtc_sctp.specs.Streams.{SctpStreams}
use Rattle.rtc_sctp.specs.Polls.{PollsStreams}
use Rattle.rtc_sctp.proofs.RestingLemmas.{poll_rests}
use Rattle.rtc_peer_core.specs.Meanings.{Meanings, PartsLaws}
use Rattle.rtc_peer_transport.specs.declared.met.Met.TheVariants.{Nothing}
use Rattle.rtc_peer_transport.specs.declared.polled_peer.PolledPeer.{PolledPeer}
use Rattle.rtc_peer_transport.specs.Connection.{with_sctp, with_pushed}
use Rattle.rtc_peer_polling.specs.StreamStages.{OpensChannelOver, ClosesChannelOver, HearsChannelOver, FallsChannelOver, LosesAssociation, TakesStreamEvent, TakesStreamAnswer}
use Rattle.rtc_peer_polling.specs.StreamStages.{PollsStreamEvents, SendsPacket, SendsFirst, SendsKeptPackets, TellsStreams, channel_over}
use Rattle.rtc_peer_transport.proofs.StageLemmas.{went_through}
use Rattle.rtc_peer_polling.proofs.StreamTurns.{streams_polled, kept_stay}
use Rattle.rtc_peer_polling.proofs.RestingStreams.{StreamsRest, polled_rest}
use Rattle.rtc_peer_polling.proofs.PushedAgain.{StreamsGive, polled_gives}
use Rattle.rtc_peer_polling.proofs.QuietStreams.{quiet_polls, polled_again}
use Rattle.rtc_peer_polling.proofs.RestingStages.{WaitsOver}

module _ {I D S M E X T W N : Type 0} (m : Meanings I D S M E X T W N) (laws : PartsLaws m) where
  -- packets are kept, and nothing else is met by nothing
  pub kept_packets : (e : SctpEvent) (p q : PolledPeer I D S M N) → TakesStreamEvent m e p Nothing q
      → (packets : List (List ℕ)) × ((e ≡ event.Transmit packets) × (q ≡ with_pushed (Some packets) p))
  unfolding OpensChannelOver LosesAssociation
  kept_packets (event.Transmit packets) p q h = (packets, (refl, h.1))
  kept_packets (event.Open stream label) p q h = absurd h
  kept_packets (event.Close stream pending) p q h = absurd (over (channel_over stream p.core.channels) h)
    where
      over : (id : Option ℕ) → ClosesChannelOver {I = I} {D = D} {S = S} {M = M} {E = E} {N = N} id pending p Nothing q → ⊥
      over (Some id) k = cc (k.0)
      over None k = cc (k.0)
  kept_packets (event.StreamResetComplete stream) p q h = cc (h.0)
  kept_packets (event.Data stream binary bytes) p q h = absurd (over (channel_over stream p.core.channels) h)
    where
      over : (id : Option ℕ) → HearsChannelOver {I = I} {D = D} {S = S} {M = M} {E = E} {N = N} id binary bytes p Nothing q → ⊥
      over (Some id) k = cc (k.0)
      over None k = cc (k.0)
  kept_packets (event.BufferedAmountLow stream) p q h = absurd (over (channel_over stream p.core.channels) h)
    where
      over : (id : Option ℕ) → FallsChannelOver {I = I} {D = D} {S = S} {M = M} {E = E} {N = N} id p Nothing q → ⊥
      over (Some id) k = cc (k.0)
      over None k = cc (k.0)
  kept_packets event.AssociationLost p q h = absurd h

  -- where the first of the packets that are kept did not go, no application data can
  not_sent : (packets : Option (List (List ℕ))) (p q : PolledPeer I D S M N) → SendsFirst m packets p Nothing q
      → (packets ≡ None) ⊎ ((packet : List ℕ) × (rest : List (List ℕ)) × (packets ≡ Some (packet ∷ rest)) × (can_send m.dtls p.core.dtls ≡ false))
  unfolding SendsPacket
  not_sent None p q h = inl refl
  not_sent (Some []) p q h = cc (h.0)
  not_sent (Some (packet ∷ rest)) p q h = inr (packet, rest, refl, h.0)

  -- the streams after the last poll of them, by what it answered
  polled_wait : (answer : Result (Option SctpEvent) AllocError) (streams : SctpStreams S) (p n q : PolledPeer I D S M N)
      → PollsStreams m.association p.core.sctp answer streams → TakesStreamAnswer m answer (with_sctp streams p) Nothing n
      → SendsKeptPackets m n Nothing q → q.core.sctp ≡ n.core.sctp → q.core.dtls ≡ n.core.dtls → WaitsOver m laws q.core.sctp q.core.dtls
  polled_wait (Ok None) streams p n q polled taken sends same dtls =
      let is : q.core.sctp ≡ streams = same ∙ ap (λ (x : PolledPeer I D S M N). x.core.sctp) taken.1 in
      let rest = polled_rest m.association laws.association p.core.sctp streams polled in
      inl (subst (λ (s : SctpStreams S). StreamsRest m.association laws.association s × (s.pushed ≡ None) × PollsStreams m.association s (Ok None) s) (sym is)
      (rest.0, rest.1, quiet_polls m.association streams (poll_rests m.association p.core.sctp streams polled)))
  polled_wait (Ok (Some e)) streams p n q polled taken sends same dtls =
      let kept = kept_packets e (with_sctp streams p) n taken in
      let back : n.core.sctp ≡ record streams { pushed = Some kept.0 } = ap (λ (x : PolledPeer I D S M N). x.core.sctp) kept.1.1 in
      by kept.0 (subst (λ (x : SctpEvent). PollsStreams m.association p.core.sctp (Ok (Some x)) streams) kept.1.0 polled) back
      (not_sent n.core.sctp.pushed (with_pushed None n) q sends)
    where
      by : (packets : List (List ℕ)) → PollsStreams m.association p.core.sctp (Ok (Some (event.Transmit packets))) streams
          → n.core.sctp ≡ record streams { pushed = Some packets }
          → (n.core.sctp.pushed ≡ None) ⊎ ((packet : List ℕ) × (rest : List (List ℕ)) × (n.core.sctp.pushed ≡ Some (packet ∷ rest))
          × (can_send m.dtls n.core.dtls ≡ false)) → WaitsOver m laws q.core.sctp q.core.dtls
      by packets given back (inl none) =
          let clash : Some packets ≡ None = sym (ap (λ (s : SctpStreams S). s.pushed) back) ∙ none in
          cc
      by packets given back (inr sent) =
          let both : Some packets ≡ Some (sent.0 ∷ sent.1) = sym (ap (λ (s : SctpStreams S). s.pushed) back) ∙ sent.2 in
          let are : packets ≡ sent.0 ∷ sent.1 = cc (both) in
          let poll = subst (λ (l : List (List ℕ)). PollsStreams m.association p.core.sctp (Ok (Some (event.Transmit l))) streams) are given in
          let gives = polled_gives m.association laws.association sent.0 sent.1 p.core.sctp streams poll in
          let is : q.core.sctp ≡ record streams { pushed = Some (sent.0 ∷ sent.1) } =
          same ∙ back ∙ ap (λ (l : List (List ℕ)). record streams { pushed = Some l }) are in
          inr (
            sent.0,
            sent.1,
            subst (λ (s : SctpStreams S). StreamsGive m.association (sent.0 ∷ sent.1) s) (sym is) gives,
            ap (λ (s : SctpStreams S). s.pushed) is,
            ap (λ (d : DtlsState D). can_send m.dtls d) dtls ∙ sent.3,
            subst (λ (s : SctpStreams S). PollsStreams m.association s (Ok (Some (event.Transmit (sent.0 ∷ sent.1)))) (record s { pushed = None })) (sym is)
                (polled_again m.association laws.association sent.0 sent.1 p.core.sctp streams poll),
          )
  polled_wait (Err error) streams p n q polled taken sends same dtls = cc (taken.0)

  -- what the connection and the streams keep while nothing is met
  pub record Stays (p q : PolledPeer I D S M N) : Type 0 where
    pub transport : q.transport ≡ p.transport
    pub dtls : q.core.dtls ≡ p.core.dtls

  pub streams_drain : (p q : PolledPeer I D S M N) → TellsStreams m p Nothing q → Stays p q × WaitsOver m laws q.core.sctp q.core.dtls
  unfolding TellsStreams
  streams_drain p q h =
      let met = went_through (PollsStreamEvents m) (SendsKeptPackets m) p q h in
      let polled = streams_polled m laws.association p met.0 met.1.0 in
      let kept = kept_stay m met.0 q met.1.1 in
      let ends = met.1.0.ends in (
        record { transport = kept.0 ∙ polled.transport; dtls = kept.2 ∙ polled.dtls },
        polled_wait ends.answer ends.streams met.1.0.last met.0 q ends.by_poll ends.by_answer met.1.1 kept.3 kept.2,
      )
