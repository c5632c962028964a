-- What a poll takes from the streams, and what it sends of their packets, where nothing is told.
use Rattle.std.proofs.Common.{◌≡◌, ◌≤◌, ◌<◌, ◌+◌, ◌⊎◌, inl, inr, ℕ, Bool, true, false, List, [], ◌∷◌, length, Option, Some, None}
use Rattle.std.proofs.Common.{Result, Ok, Err, refl, sym, ap, subst, ◌∙◌, arith}
use Rattle.std.specs.declared.alloc.AllocError.{AllocError}
use Rattle.rtc_parts.specs.AssociationLaws.{AssociationLaws}
use Rattle.rtc_parts.specs.declared.dtls_error.DtlsError.{DtlsError}
use Rattle.rtc_parts.specs.declared.dtls_error.DtlsError.TheVariants.{Fault}
use Rattle.rtc_parts.specs.DtlsState.{DtlsState, SendsData, can_send}
use Rattle.rtc_sctp_entries.specs.declared.sctp_event.SctpEvent.{SctpEvent}
use Rattle.rtc_sctp_entries.specs.declared.sctp_event.SctpEvent.TheVariants as event
use Rattle.rtc_sctp.specs.Streams.{SctpStreams}
use Rattle.rtc_sctp.specs.Polls.{PollsStreams, streams_work}
use Rattle.rtc_peer_core.specs.Meanings.{Meanings}
use Rattle.rtc_peer_transport.specs.declared.met.Met.TheVariants.{Nothing, Again}
use Rattle.rtc_peer_transport.specs.declared.polled_peer.PolledPeer.{PolledPeer}
use Rattle.rtc_peer_transport.specs.Closing.{is_phase_closing}
use Rattle.rtc_peer_transport.specs.Connection.{with_sctp, with_pushed, with_dtls}
use Rattle.rtc_peer_polling.specs.StreamStages.{OpensChannelOver, ClosesChannelOver, HearsChannelOver, FallsChannelOver, LosesAssociation, TakesStreamEvent, TakesStreamAnswer}
use Rattle.rtc_peer_polling.specs.StreamStages.{PollsStreamEvent, PollsStreamEvents, SendsPacket, SendsFirst, SendsKeptPackets, channel_over, left_over}
use Rattle.rtc_peer_transport.proofs.StageLemmas.{over_carries}
use Rattle.rtc_peer_polling.proofs.StreamWork.{waiting, event_waiting, sctp_work, poll_none, poll_works, poll_falls}

-- the connection, the greatest moment and the streams are as they were
abbrev pub SameStreams : {I D S M N : Type 0} → PolledPeer I D S M N → PolledPeer I D S M N → Type 0
SameStreams p q = (q.transport ≡ p.transport) × (q.core.greatest ≡ p.core.greatest) × (q.core.dtls ≡ p.core.dtls) × (q.core.sctp ≡ p.core.sctp)

same_by : {I D S M N : Type 0} (p n q : PolledPeer I D S M N) → q ≡ n → SameStreams p n → SameStreams p q
same_by {I} {D} {S} {M} {N} p n q e same = subst (λ (x : PolledPeer I D S M N). SameStreams p x) (sym e) same

module _ {I D S M E X T W N : Type 0} (m : Meanings I D S M E X T W N) where
  -- an event that is passed over leaves the streams as the poll left them
  passed_over : (e : SctpEvent) (p q : PolledPeer I D S M N) → TakesStreamEvent m e p Again q → SameStreams p q
  unfolding OpensChannelOver LosesAssociation
  passed_over (event.Transmit packets) p q h = cc (h.0)
  passed_over (event.Open stream label) p q h = same_by p _ q h.1 (refl, refl, refl, refl)
  passed_over (event.Close stream pending) p q h = over (channel_over stream p.core.channels) h
    where
      over : (id : Option ℕ) → ClosesChannelOver {I = I} {D = D} {S = S} {M = M} {E = E} {N = N} id pending p Again q → SameStreams p q
      over (Some id) k = cc (k.0)
      over None k = same_by p p q k.1 (refl, refl, refl, refl)
  passed_over (event.StreamResetComplete stream) p q h = same_by p _ q h.1 (refl, refl, refl, refl)
  passed_over (event.Data stream binary bytes) p q h = over (channel_over stream p.core.channels) h
    where
      over : (id : Option ℕ) → HearsChannelOver {I = I} {D = D} {S = S} {M = M} {E = E} {N = N} id binary bytes p Again q → SameStreams p q
      over (Some id) k = cc (k.0)
      over None k = same_by p p q k.1 (refl, refl, refl, refl)
  passed_over (event.BufferedAmountLow stream) p q h = over (channel_over stream p.core.channels) h
    where
      over : (id : Option ℕ) → FallsChannelOver {I = I} {D = D} {S = S} {M = M} {E = E} {N = N} id p Again q → SameStreams p q
      over (Some id) k = cc (k.0)
      over None k = same_by p p q k.1 (refl, refl, refl, refl)
  passed_over event.AssociationLost p q h = absurd h

  -- packets are kept, and nothing else is met by nothing
  kept_packets : (e : SctpEvent) (p q : PolledPeer I D S M N) → TakesStreamEvent m e p Nothing q
      → (packets : List (List ℕ)) × (e ≡ event.Transmit packets) × (q ≡ with_pushed (Some packets) p)
  unfolding OpensChannelOver LosesAssociation
  kept_packets (event.Transmit packets) p q h = (packets, refl, h.1)
  kept_packets (event.Open stream label) p q h = absurd h
  kept_packets (event.Close stream pending) p q h = absurd (over (channel_over stream p.core.channels) h)
    where
      over : (id : Option ℕ) → ClosesChannelOver {I = I} {D = D} {S = S} {M = M} {E = E} {N = N} id pending p Nothing q → ⊥
      over (Some id) k = cc (k.0)
      over None k = cc (k.0)
  kept_packets (event.StreamResetComplete stream) p q h = cc (h.0)
  kept_packets (event.Data stream binary bytes) p q h = absurd (over (channel_over stream p.core.channels) h)
    where
      over : (id : Option ℕ) → HearsChannelOver {I = I} {D = D} {S = S} {M = M} {E = E} {N = N} id binary bytes p Nothing q → ⊥
      over (Some id) k = cc (k.0)
      over None k = cc (k.0)
  kept_packets (event.BufferedAmountLow stream) p q h = absurd (over (channel_over stream p.core.channels) h)
    where
      over : (id : Option ℕ) → FallsChannelOver {I = I} {D = D} {S = S} {M = M} {E = E} {N = N} id p Nothing q → ⊥
      over (Some id) k = cc (k.0)
      over None k = cc (k.0)
  kept_packets event.AssociationLost p q h = absurd h

  -- the work of the streams of a peer
  abbrev pub peer_work : PolledPeer I D S M N → ℕ
  peer_work p = sctp_work m.association p.core.sctp

  -- what turns of streams keep
  pub record Polled (p q : PolledPeer I D S M N) : Type 0 where
    pub transport : q.transport ≡ p.transport
    pub greatest : q.core.greatest ≡ p.core.greatest
    pub dtls : q.core.dtls ≡ p.core.dtls
    pub work : peer_work q ≤ peer_work p

  polled_self : (p : PolledPeer I D S M N) → Polled p p
  polled_self p = record { transport = refl; greatest = refl; dtls = refl; work = omega arith }

  polled_on : (p q r : PolledPeer I D S M N) → Polled p q → Polled q r → Polled p r
  polled_on p q r a b = record {
    transport = b.transport ∙ a.transport;
    greatest = b.greatest ∙ a.greatest;
    dtls = b.dtls ∙ a.dtls;
    work = omega (arith, a.work, b.work);
  }

  module _ (laws : AssociationLaws m.association) where
    -- a turn that passes an event over
    again_by : (answer : Result (Option SctpEvent) AllocError) (streams : SctpStreams S) (p q : PolledPeer I D S M N)
        → PollsStreams m.association p.core.sctp answer streams → TakesStreamAnswer m answer (with_sctp streams p) Again q
        → Polled p q × (streams_work m.association q.core.sctp < streams_work m.association p.core.sctp)
    again_by (Ok None) streams p q polled taken = cc (taken.0)
    again_by (Ok (Some e)) streams p q polled taken =
        let same = passed_over e (with_sctp streams p) q taken in
        let none = poll_none m.association laws p.core.sctp (Ok (Some e)) streams polled in
        let works = poll_works m.association laws p.core.sctp (Some e) streams polled in
        let falls = poll_falls m.association laws p.core.sctp e streams polled in (
          record {
            transport = same.0;
            greatest = same.1;
            dtls = same.2;
            work = omega (arith, works, ap (sctp_work m.association) same.3, ap waiting none);
          },
          omega (arith, falls, ap (streams_work m.association) same.3),
        )
    again_by (Err error) streams p q polled taken = cc (taken.0)

    -- each event that is passed over takes work away
    pub stream_turn_falls : (p q : PolledPeer I D S M N) → PollsStreamEvent m p Again q
        → streams_work m.association q.core.sctp < streams_work m.association p.core.sctp
    stream_turn_falls p q turn = (again_by turn.answer turn.streams p q turn.by_poll turn.by_answer).1

    -- the last turn, where nothing is told
    nothing_by : (answer : Result (Option SctpEvent) AllocError) (streams : SctpStreams S) (p q : PolledPeer I D S M N)
        → PollsStreams m.association p.core.sctp answer streams → TakesStreamAnswer m answer (with_sctp streams p) Nothing q → Polled p q
    nothing_by (Ok None) streams p q polled taken =
        let none = poll_none m.association laws p.core.sctp (Ok None) streams polled in
        let works = poll_works m.association laws p.core.sctp None streams polled in
        record {
          transport = ap (λ (x : PolledPeer I D S M N). x.transport) taken.1;
          greatest = ap (λ (x : PolledPeer I D S M N). x.core.greatest) taken.1;
          dtls = ap (λ (x : PolledPeer I D S M N). x.core.dtls) taken.1;
          work = omega (arith, works, ap (λ (x : PolledPeer I D S M N). peer_work x) taken.1, ap waiting none);
        }
    nothing_by (Ok (Some e)) streams p q polled taken =
        let kept = kept_packets e (with_sctp streams p) q taken in
        let works = poll_works m.association laws p.core.sctp (Some e) streams polled in
        record {
          transport = ap (λ (x : PolledPeer I D S M N). x.transport) kept.2;
          greatest = ap (λ (x : PolledPeer I D S M N). x.core.greatest) kept.2;
          dtls = ap (λ (x : PolledPeer I D S M N). x.core.dtls) kept.2;
          work = omega (arith, works, ap (λ (x : PolledPeer I D S M N). peer_work x) kept.2, ap event_waiting kept.1);
        }
    nothing_by (Err error) streams p q polled taken = cc (taken.0)

    -- turns of the streams that tell nothing
    pub streams_polled : (p q : PolledPeer I D S M N) → PollsStreamEvents m p Nothing q → Polled p q
    streams_polled p q h =
        polled_on p h.last q
        (over_carries (PollsStreamEvent m) Polled polled_self polled_on
        (λ a b turn. (again_by turn.answer turn.streams a b turn.by_poll turn.by_answer).0) h.turns p h.last h.over)
        (nothing_by h.ends.answer h.ends.streams h.last q h.ends.by_poll h.ends.by_answer)

  -- no packet was sent
  stays_by : (packets : Option (List (List ℕ))) (p n q : PolledPeer I D S M N) → n ≡ with_pushed None p → p.core.sctp.pushed ≡ packets
      → SendsFirst m packets n Nothing q → SameStreams p q
  unfolding SendsPacket
  stays_by None p n q e is h = same_by p _ q (h.1 ∙ e) (refl, refl, refl, ap (λ (o : Option (List (List ℕ))). record p.core.sctp { pushed = o }) (sym is))
  stays_by (Some []) p n q e is h = cc (h.0)
  stays_by (Some (packet ∷ rest)) p n q e is h =
      same_by p _ q (h.1 ∙ ap (λ (x : PolledPeer I D S M N). with_pushed (Some (packet ∷ rest)) x) e)
      (refl, refl, refl, ap (λ (o : Option (List (List ℕ))). record p.core.sctp { pushed = o }) (sym is))

  pub kept_stay : (p q : PolledPeer I D S M N) → SendsKeptPackets m p Nothing q → SameStreams p q
  kept_stay p q h = stays_by p.core.sctp.pushed p (with_pushed None p) q refl refl h

  left_waits : (packets : List (List ℕ)) → waiting (left_over packets) ≤ 1 + length packets
  left_waits [] = omega arith
  left_waits (packet ∷ packets) = omega arith

  -- what a packet that was sent leaves of the DTLS connection
  abbrev pub SentData : DtlsState D → DtlsState D → Type 0
  SentData d e =
      (e.active ≡ d.active) × ((e ≡ d) ⊎ ((bytes : List ℕ) × (r : Result (Unit {0}) DtlsError) × m.dtls.sent d.instance bytes r e.instance))

  data_sent : (can : Bool) (d e : DtlsState D) (bytes : List ℕ) (r : Result (Unit {0}) DtlsError) → SendsData m.dtls d can bytes r e → SentData d e
  data_sent true d e bytes r h = (ap (λ (x : DtlsState D). x.active) h.1, inr (bytes, r, h.0))
  data_sent false d e bytes r h = (ap (λ (x : DtlsState D). x.active) h.1, inl h.1)

  data_sent_or : (p q : PolledPeer I D S M N) (packet : List ℕ)
      → SendsData m.dtls p.core.dtls (can_send m.dtls p.core.dtls) packet (Ok tt) q.core.dtls
      ⊎ ((is_phase_closing p.core.phase ≡ true) × SendsData m.dtls p.core.dtls (can_send m.dtls p.core.dtls) packet (Err Fault) q.core.dtls)
      → SentData p.core.dtls q.core.dtls
  data_sent_or p q packet (inl h) = data_sent (can_send m.dtls p.core.dtls) p.core.dtls q.core.dtls packet (Ok tt) h
  data_sent_or p q packet (inr h) = data_sent (can_send m.dtls p.core.dtls) p.core.dtls q.core.dtls packet (Err Fault) h.1

  -- after a packet was sent the walk starts over, with less work left
  pub record Relayed (p q : PolledPeer I D S M N) : Type 0 where
    pub transport : q.transport ≡ p.transport
    pub greatest : q.core.greatest ≡ p.core.greatest
    pub sent : SentData p.core.dtls q.core.dtls
    pub work : peer_work q < peer_work p

  relayed_by : (packets : Option (List (List ℕ))) (p n q : PolledPeer I D S M N) → n ≡ with_pushed None p → p.core.sctp.pushed ≡ packets
      → SendsFirst m packets n Again q → Relayed p q
  unfolding SendsPacket
  relayed_by None p n q e is h = cc (h.0)
  relayed_by (Some []) p n q e is h =
      let to = h.1 ∙ e in
      record {
        transport = ap (λ (x : PolledPeer I D S M N). x.transport) to;
        greatest = ap (λ (x : PolledPeer I D S M N). x.core.greatest) to;
        sent = (ap (λ (x : PolledPeer I D S M N). x.core.dtls.active) to, inl (ap (λ (x : PolledPeer I D S M N). x.core.dtls) to));
        work = omega (arith, ap (λ (x : PolledPeer I D S M N). peer_work x) to, ap waiting is);
      }
  relayed_by (Some (packet ∷ rest)) p n q e is h =
      let to = h.0 ∙ ap (λ (x : PolledPeer I D S M N). with_dtls q.core.dtls (with_pushed (left_over rest) x)) e in
      let same : n.core.dtls ≡ p.core.dtls = ap (λ (x : PolledPeer I D S M N). x.core.dtls) e in
      record {
        transport = ap (λ (x : PolledPeer I D S M N). x.transport) to;
        greatest = ap (λ (x : PolledPeer I D S M N). x.core.greatest) to;
        sent = subst (λ (d : DtlsState D). SentData d q.core.dtls) same (data_sent_or n q packet h.1);
        work = omega (arith, ap (λ (x : PolledPeer I D S M N). peer_work x) to, ap waiting is, left_waits rest);
      }

  pub kept_relayed : (p q : PolledPeer I D S M N) → SendsKeptPackets m p Again q → Relayed p q
  kept_relayed p q h = relayed_by p.core.sctp.pushed p (with_pushed None p) q refl refl h
