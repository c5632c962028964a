-- The stages of a poll of a drained peer give nothing and change nothing, unless memory is wanting.
use Rattle.std.proofs.Common.{if◌then◌else◌, ◌≡◌, ◌≢◌, ◌⊎◌, inl, inr, ℕ, Bool, true, false, List, [], ◌∷◌, Option, Some, None}
use Rattle.std.proofs.Common.{Result, Ok, Err, refl, sym, ap, subst, ◌∙◌, arith}
use Rattle.std.specs.declared.alloc.AllocError.{AllocError}
use Rattle.rtc_parts.specs.declared.dtls_error.DtlsError.TheVariants.{Fault}
use Rattle.rtc_parts.specs.DtlsState.{DtlsState, GivesPacket, SendsData, can_send}
use Rattle.rtc_parts.specs.declared.media_error.MediaError.{MediaError}
use Rattle.rtc_parts.specs.declared.media_error.MediaError.TheVariants.{Alloc as MediaAlloc}
use Rattle.rtc_parts.specs.MediaMeaning.{held_media}
use Rattle.rtc_sctp_entries.specs.declared.sctp_event.SctpEvent.{SctpEvent}
use Rattle.rtc_sctp_entries.specs.declared.sctp_event.SctpEvent.TheVariants as event
use Rattle.rtc_sctp.specs.Streams.{SctpStreams}
use Rattle.rtc_sctp.specs.Polls.{PollsStreams}
use Rattle.rtc_peer_core.specs.declared.rtc_error.RtcError.TheVariants.{Dtls, Media, Alloc}
use Rattle.rtc_peer_core.specs.Meanings.{Meanings, PartsLaws}
use Rattle.rtc_peer_transport.specs.declared.event.Event.TheVariants as told
use Rattle.rtc_peer_transport.specs.declared.handshake.Handshake.TheVariants.{Finished}
use Rattle.rtc_peer_transport.specs.declared.met.Met.{Met}
use Rattle.rtc_peer_transport.specs.declared.met.Met.TheVariants.{Nothing, Again, Transmit, Event as MetEvent, Error}
use Rattle.rtc_peer_transport.specs.declared.polled_peer.PolledPeer.{PolledPeer}
use Rattle.rtc_peer_transport.specs.declared.send_addr.SendAddr.{SendAddr}
use Rattle.rtc_peer_transport.specs.Closing.{is_phase_closing}
use Rattle.rtc_peer_transport.specs.Connection.{with_ice, with_dtls, with_media, with_sctp, with_pushed}
use Rattle.rtc_peer_polling.specs.DtlsStages.{TimesDtls, PollsDtlsOutputs, TellsConnected, is_dtls_due}
use Rattle.rtc_peer_polling.specs.IceStages.{PollsIceEvents}
use Rattle.rtc_peer_polling.specs.MediaStages.{TellsMedia, TellsFallibleMedia}
use Rattle.rtc_peer_polling.specs.SendStages.{SendsChecks, SendsDtlsPacket, SendsMediaDatagram, SendsBy, SendsByPair}
use Rattle.rtc_peer_transport.specs.Statistics.{TellsStatistics}
use Rattle.rtc_peer_transport.proofs.StatisticsTurns.{HasNoReport, statistics_rest}
use Rattle.rtc_peer_polling.specs.StreamStages.{TakesStreamAnswer, PollsStreamEvent, PollsStreamEvents, SendsPacket, SendsFirst, SendsKeptPackets, TellsStreams}
use Rattle.rtc_peer_polling.specs.Walk.{StartsOverWhenDue, TellsConnection, TellsArrivals, SendsDatagrams, VisitsParts}
use Rattle.rtc_peer_polling.proofs.RestingStreams.{StreamsRest}
use Rattle.rtc_peer_polling.proofs.PushedAgain.{StreamsGive}
use Rattle.rtc_peer_polling.proofs.RestingConnection.{Rests, StageRests, else_rests, repeats_rest, DtlsRests, ice_rests, times_rest, outputs_rest, connected_rests}

module _ {I D S M E X T W N : Type 0} (m : Meanings I D S M E X T W N) where
  module _ (laws : PartsLaws m) where
    -- streams that have nothing to give
    stream_answer : (answer : Result (Option SctpEvent) AllocError) (streams : SctpStreams S) (p : PolledPeer I D S M N) (r : Met E)
        (q : PolledPeer I D S M N) → (answer ≡ Ok None) × (streams ≡ p.core.sctp)
        → TakesStreamAnswer m answer (with_sctp streams p) r q → Rests p r q
    stream_answer (Ok None) streams p r q rests taken = inl (taken.0, taken.1 ∙ ap (λ (s : SctpStreams S). with_sctp s p) rests.1)
    stream_answer (Ok (Some e)) streams p r q rests taken = cc (rests.0)
    stream_answer (Err e) streams p r q rests taken = cc (rests.0)

    streams_rest : (p : PolledPeer I D S M N) → StreamsRest m.association laws.association p.core.sctp → p.core.sctp.pushed ≡ None
        → StageRests (TellsStreams m) p
    unfolding TellsStreams
    streams_rest p rests none =
        else_rests (PollsStreamEvents m) (SendsKeptPackets m) p
        (repeats_rest (PollsStreamEvent m) p
        (λ r q turn. stream_answer turn.answer turn.streams p r q (rests turn.answer turn.streams turn.by_poll) turn.by_answer))
        (λ r q h.
        let sends = subst (λ (o : Option (List (List ℕ))). SendsFirst m o (with_pushed None p) r q) none h in
        inl (sends.0, sends.1 ∙ ap (λ (o : Option (List (List ℕ))). with_pushed o p) (sym none)))

    -- a packet that cannot go yet comes back
    packet_waits : (packet : List ℕ) (rest : List (List ℕ)) (p : PolledPeer I D S M N) (r : Met E) (q : PolledPeer I D S M N)
        → can_send m.dtls p.core.dtls ≡ false → SendsPacket m packet rest p r q → Rests (with_pushed (Some (packet ∷ rest)) p) r q
    unfolding SendsPacket
    packet_waits packet rest p Nothing q blocked h = inl (refl, h.1)
    packet_waits packet rest p Again q blocked h = absurd (by h.1)
      where
        by : SendsData m.dtls p.core.dtls (can_send m.dtls p.core.dtls) packet (Ok tt) q.core.dtls
            ⊎ ((is_phase_closing p.core.phase ≡ true) × SendsData m.dtls p.core.dtls (can_send m.dtls p.core.dtls) packet (Err Fault) q.core.dtls) → ⊥
        by (inl k) = cc ((subst (λ (b : Bool). SendsData m.dtls p.core.dtls b packet (Ok tt) q.core.dtls) blocked k).0)
        by (inr k) = cc ((subst (λ (b : Bool). SendsData m.dtls p.core.dtls b packet (Err Fault) q.core.dtls) blocked k.1).0)
    packet_waits packet rest p (Error (Dtls cause)) q blocked h =
        cc ((subst (λ (b : Bool). SendsData m.dtls p.core.dtls b packet (Err Fault) q.core.dtls) blocked h.2).0)
    packet_waits packet rest p (Error Alloc) q blocked h = inr refl
    packet_waits packet rest p _ q blocked h = absurd h

    given_answer : (packets : List (List ℕ)) (answer : Result (Option SctpEvent) AllocError) (streams : SctpStreams S) (p : PolledPeer I D S M N)
        (r : Met E) (q : PolledPeer I D S M N) → p.core.sctp.pushed ≡ Some packets
        → (answer ≡ Ok (Some (event.Transmit packets))) × (streams ≡ record p.core.sctp { pushed = None })
        → TakesStreamAnswer m answer (with_sctp streams p) r q → Rests p r q
    given_answer packets answer streams p r q back gives taken =
        let told = subst (λ (a : Result (Option SctpEvent) AllocError). TakesStreamAnswer m a (with_sctp streams p) r q) gives.0 taken in
        inl (
          told.0,
          told.1
              ∙ ap (λ (s : SctpStreams S). with_pushed (Some packets) (with_sctp s p)) gives.1
              ∙ ap (λ (o : Option (List (List ℕ))). with_pushed o p) (sym back),
        )

    packets_rest : (packet : List ℕ) (rest : List (List ℕ)) (p : PolledPeer I D S M N) → StreamsGive m.association (packet ∷ rest) p.core.sctp
        → p.core.sctp.pushed ≡ Some (packet ∷ rest) → can_send m.dtls p.core.dtls ≡ false → StageRests (TellsStreams m) p
    unfolding TellsStreams
    packets_rest packet rest p gives back blocked =
        else_rests (PollsStreamEvents m) (SendsKeptPackets m) p
        (repeats_rest (PollsStreamEvent m) p
        (λ r q turn. given_answer (packet ∷ rest) turn.answer turn.streams p r q back (gives turn.answer turn.streams turn.by_poll) turn.by_answer))
        (λ r q h.
        let sends = subst (λ (o : Option (List (List ℕ))). SendsFirst m o (with_pushed None p) r q) back h in
        subst (λ (o : Option (List (List ℕ))). Rests (with_pushed o p) r q) (sym back) (packet_waits packet rest (with_pushed None p) r q blocked sends))

    -- a media part that holds nothing
    told_rests : (p : PolledPeer I D S M N) → m.media.held_events p.core.media ≡ 0 → StageRests (TellsMedia m) p
    unfolding TellsMedia
    told_rests p held Nothing q h = inl (refl, h.1 ∙ ap (λ (a : M). with_media a p) (laws.media.event_none p.core.media q.core.media h.0))
    told_rests p held (MetEvent (told.Media event)) q h =
        let none = laws.media.quiet_event p.core.media q.core.media (Some event) held h.0 in
        cc (none)
    told_rests p held _ q h = absurd h

    fallible_rests : (p : PolledPeer I D S M N) → m.media.held_events p.core.media ≡ 0 → StageRests (TellsFallibleMedia m) p
    unfolding TellsFallibleMedia
    fallible_rests p held Nothing q h =
        inl (refl, h.1 ∙ ap (λ (a : M). with_media a p) (laws.media.fallible_none p.core.media q.core.media p.core.greatest h.0))
    fallible_rests p held (MetEvent (told.Media event)) q h =
        absurd (by (laws.media.quiet_fallible p.core.media q.core.media p.core.greatest (Ok (Some event)) held h.0))
      where
        by : (◌≡◌ {A = Result (Option E) MediaError} (Ok (Some event)) (Ok None)) ⊎ (◌≡◌ {A = Result (Option E) MediaError} (Ok (Some event)) (Err MediaAlloc)) → ⊥
        by (inl e) = cc (e)
        by (inr e) = cc (e)
    fallible_rests p held (Error (Media cause)) q h =
        absurd (by (laws.media.quiet_fallible p.core.media q.core.media p.core.greatest (Err cause) held h.1))
      where
        by : (◌≡◌ {A = Result (Option E) MediaError} (Err cause) (Ok None)) ⊎ (◌≡◌ {A = Result (Option E) MediaError} (Err cause) (Err MediaAlloc)) → ⊥
        by (inl e) = cc (e)
        by (inr e) = h.0 (cc (e))
    fallible_rests p held (Error Alloc) q h = inr refl
    fallible_rests p held _ q h = absurd h

    arrivals_rest : (p : PolledPeer I D S M N) → held_media m.media p.core.media ≡ 0 → HasNoReport p.transport.stats
        → StageRests (TellsArrivals m) p
    unfolding TellsArrivals
    arrivals_rest p held none =
        let events : m.media.held_events p.core.media ≡ 0 = omega (arith, held) in
        else_rests (TellsMedia m) _ p (told_rests p events)
        (else_rests (TellsFallibleMedia m) TellsStatistics p (fallible_rests p events) (λ r q h. inl (statistics_rest p r q none h)))

    checks_rest : (p : PolledPeer I D S M N) → m.ice.held p.core.ice ≡ 0 → StageRests (SendsChecks m) p
    unfolding SendsChecks
    checks_rest p held Nothing q h = inl (refl, h.1 ∙ ap (λ (i : I). with_ice i p) (laws.ice.transmit_none p.core.ice q.core.ice h.0))
    checks_rest p held (Transmit transmit) q h =
        let falls = laws.ice.transmit_falls p.core.ice q.core.ice transmit h.0 in
        absurd (omega (arith, held, falls))
    checks_rest p held _ q h = absurd h

    packets_out : (addr : SendAddr) (p : PolledPeer I D S M N) → p.core.dtls.packets ≡ [] → StageRests (SendsDtlsPacket m addr) p
    unfolding SendsDtlsPacket
    packets_out addr p none Nothing q h =
        let same = subst (λ (l : List (List ℕ)). GivesPacket m.dtls p.core.dtls l None q.core.dtls) none h.0 in
        inl (refl, h.1 ∙ ap (λ (d : DtlsState D). with_dtls d p) same)
    packets_out addr p none (Transmit transmit) q h =
        absurd (subst (λ (l : List (List ℕ)). GivesPacket m.dtls p.core.dtls l (Some transmit.contents) q.core.dtls) none h.1)
    packets_out addr p none _ q h = absurd h

    datagrams_out : (addr : SendAddr) (p : PolledPeer I D S M N) → m.media.held_datagrams p.core.media ≡ 0 → StageRests (SendsMediaDatagram m addr) p
    unfolding SendsMediaDatagram
    datagrams_out addr p held Nothing q h =
        inl (refl, h.1 ∙ ap (λ (a : M). with_media a p) (laws.media.datagram_none p.core.media q.core.media p.core.greatest h.0))
    datagrams_out addr p held (Transmit transmit) q h =
        let none = laws.media.quiet_datagram p.core.media q.core.media p.core.greatest (Some transmit.contents) held h.1 in
        cc (none)
    datagrams_out addr p held _ q h = absurd h

    -- no packet waits where a pair is nominated
    abbrev pub AreSent : Option SendAddr → List (List ℕ) → Type 0
    AreSent None packets = Unit {0}
    AreSent (Some addr) packets = packets ≡ []

    pair_rests : (addr : Option SendAddr) (p : PolledPeer I D S M N) → AreSent addr p.core.dtls.packets → held_media m.media p.core.media ≡ 0
        → (r : Met E) (q : PolledPeer I D S M N) → SendsBy m addr p r q → Rests p r q
    pair_rests (Some addr) p sent held =
        let datagrams : m.media.held_datagrams p.core.media ≡ 0 = omega (arith, held) in
        else_rests (SendsDtlsPacket m addr) (SendsMediaDatagram m addr) p (packets_out addr p sent) (datagrams_out addr p datagrams)
    pair_rests None p sent held = λ r q h.
        inl (h.0, h.2 ∙ ap (λ (a : M). with_media a p) (laws.media.clear_quiet p.core.media q.core.media held h.1))

    datagrams_rest : (p : PolledPeer I D S M N) → m.ice.held p.core.ice ≡ 0 → AreSent p.transport.send_addr p.core.dtls.packets
        → held_media m.media p.core.media ≡ 0 → StageRests (SendsDatagrams m) p
    unfolding SendsDatagrams
    datagrams_rest p ice sent held =
        else_rests (SendsChecks m) (SendsByPair m) p (checks_rest p ice) (λ r q h. pair_rests p.transport.send_addr p sent held r q h)

    -- the streams have nothing to give, or their packets cannot go yet
    abbrev pub WaitsOver : SctpStreams S → DtlsState D → Type 0
    WaitsOver s d =
        (StreamsRest m.association laws.association s × (s.pushed ≡ None) × PollsStreams m.association s (Ok None) s)
        ⊎ ((packet : List ℕ) × (rest : List (List ℕ)) × StreamsGive m.association (packet ∷ rest) s × (s.pushed ≡ Some (packet ∷ rest))
        × (can_send m.dtls d ≡ false)
        × PollsStreams m.association s (Ok (Some (event.Transmit (packet ∷ rest)))) (record s { pushed = None }))

    waiting_rests : (p : PolledPeer I D S M N) → WaitsOver p.core.sctp p.core.dtls → StageRests (TellsStreams m) p
    waiting_rests p (inl h) = streams_rest p h.0 h.1
    waiting_rests p (inr h) = packets_rest h.0 h.1 p h.2 h.3 h.4

    -- a drained peer: what each of its parts is
    pub record Drained (p : PolledPeer I D S M N) : Type 0 where
      pub ice : m.ice.held p.core.ice ≡ 0
      pub due : is_dtls_due p ≡ false
      pub dtls : DtlsRests m.dtls laws.dtls p.core.dtls.active p.core.dtls.instance p.transport.dtls_wake
      pub told : p.transport.handshake ≢ Finished
      pub streams : WaitsOver p.core.sctp p.core.dtls
      pub media : held_media m.media p.core.media ≡ 0
      pub sent : AreSent p.transport.send_addr p.core.dtls.packets
      pub reports : HasNoReport p.transport.stats

    pub drained_rests : (p : PolledPeer I D S M N) → Drained p → StageRests (VisitsParts m) p
    unfolding VisitsParts TellsConnection
    drained_rests p drained =
        else_rests (TellsConnection m) _ p
        (else_rests (PollsIceEvents m) _ p (ice_rests m laws p drained.ice)
        (else_rests (TimesDtls m) _ p (times_rest m laws p drained.due)
        (else_rests (PollsDtlsOutputs m) TellsConnected p (outputs_rest m laws p drained.dtls) (connected_rests m laws p drained.told))))
        (else_rests (TellsStreams m) _ p (waiting_rests p drained.streams)
        (else_rests (TellsArrivals m) _ p (arrivals_rest p drained.media drained.reports)
        (else_rests (SendsDatagrams m) StartsOverWhenDue p (datagrams_rest p drained.ice drained.sent drained.media)
        (λ r q h. inl (h.0 ∙ ap (λ (b : Bool). if b then Again else Nothing) drained.due, h.1)))))
