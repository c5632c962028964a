-- A visit of the parts that met nothing leaves a peer of which a visit may meet nothing, and change nothing.
use Rattle.std.proofs.Common.{if◌then◌else◌, ◌≡◌, ◌≢◌, inl, inr, ℕ, Bool, false, List, [], ◌∷◌, Option, Some, None}
use Rattle.std.proofs.Common.{Ok, append-nil, refl, sym, ap, subst, arith}
use Rattle.rtc_parts.specs.declared.reason.Reason.{Reason}
use Rattle.rtc_parts.specs.declared.dtls_output.DtlsOutput.TheVariants as outputs
use Rattle.rtc_parts.specs.DtlsDrawn.{DrewTimeout}
use Rattle.rtc_parts.specs.DtlsState.{DtlsState, PollsOutput, GivesPacket}
use Rattle.rtc_parts.specs.declared.stats_event.StatsEvent.{StatsEvent}
use Rattle.rtc_parts.specs.MediaMeaning.{held_media}
use Rattle.rtc_config.specs.Stats.{Reporting}
use Rattle.rtc_sctp_entries.specs.declared.sctp_event.SctpEvent.TheVariants as event
use Rattle.rtc_peer_core.specs.Meanings.{Meanings, PartsLaws}
use Rattle.rtc_peer_transport.specs.declared.handshake.Handshake.{Handshake}
use Rattle.rtc_peer_transport.specs.declared.handshake.Handshake.TheVariants.{Pending, Finished, Told}
use Rattle.rtc_peer_transport.specs.declared.met.Met.{Met}
use Rattle.rtc_peer_transport.specs.declared.met.Met.TheVariants.{Nothing, Again}
use Rattle.rtc_peer_transport.specs.declared.polled_peer.PolledPeer.{PolledPeer}
use Rattle.rtc_peer_transport.specs.declared.send_addr.SendAddr.{SendAddr}
use Rattle.rtc_peer_transport.specs.Connection.{with_pushed}
use Rattle.rtc_peer_transport.specs.Stages.{Stage, WentOn, RepeatsStage}
use Rattle.rtc_peer_transport.specs.Statistics.{TellsReport, TellsReportOf, TellsStatistics}
use Rattle.rtc_peer_transport.proofs.StatisticsTurns.{HasNoReport}
use Rattle.rtc_peer_polling.specs.DtlsStages.{TimesDtls, TimesDtlsIf, PollsDtlsOutputs, TellsConnectedFrom, is_dtls_due}
use Rattle.rtc_peer_polling.specs.IceStages.{PollsIceEvents}
use Rattle.rtc_peer_polling.specs.MediaStages.{TellsMedia, TellsFallibleMedia}
use Rattle.rtc_peer_polling.specs.SendStages.{SendsChecks, SendsDtlsPacket, SendsMediaDatagram, SendsBy}
use Rattle.rtc_peer_polling.specs.StreamStages.{PollsStreamEvent, SendsPacket, SendsFirst, TellsStreams}
use Rattle.rtc_peer_polling.specs.Walk.{StartsOverWhenDue, TellsConnection, TellsArrivals, SendsDatagrams, VisitsParts, with_reason}
use Rattle.rtc_peer_polling.proofs.RestingConnection.{DtlsRests}
use Rattle.rtc_peer_polling.proofs.RestingStages.{AreSent, WaitsOver, Drained}
use Rattle.rtc_peer_polling.proofs.Draining.{visit_drains}

module _ {P E : Type 0} (stage : Stage P E) where
  goes_on : ◌≡◌ {A = Met E} Nothing Again → ⊥
  goes_on e = cc (e)

  -- one turn that met nothing
  pub repeats_once : (p q : P) → stage p Nothing q → RepeatsStage stage p Nothing q
  repeats_once p q h = record { turns = 0; last = p; over = refl; ends = h; stops = goes_on }

module _ {I D S M E X T W N : Type 0} (m : Meanings I D S M E X T W N) (laws : PartsLaws m) where
  ice_quiet : (p : PolledPeer I D S M N) → m.ice.held p.core.ice ≡ 0 → PollsIceEvents m p Nothing p
  ice_quiet p held =
      repeats_once _ p p (record { event = None; ice = p.core.ice; by_poll = laws.ice.quiet_event p.core.ice held; by_event = (refl, refl) })

  times_quiet : (p : PolledPeer I D S M N) → is_dtls_due p ≡ false → TimesDtls m p Nothing p
  times_quiet p due = subst (λ (b : Bool). TimesDtlsIf m b p Nothing p) (sym due) (refl, refl)

  polled_quiet : (active : Option Bool) (d : DtlsState D) (wake : ℕ) → DtlsRests m.dtls laws.dtls active d.instance wake
      → PollsOutput m.dtls d active (Ok (outputs.Timeout wake)) d
  polled_quiet None d wake rests = (ap (λ (n : ℕ). Ok (outputs.Timeout n)) rests, refl)
  polled_quiet (Some active) d wake rests =
      let drawn = subst (λ (n : ℕ). m.dtls.polled d.instance (DrewTimeout n) d.instance) (sym rests.1) (laws.dtls.quiet d.instance rests.0) in
      (([], (d.instance, (refl, drawn, sym (append-nil d.packets)))), refl)

  outputs_quiet : (p : PolledPeer I D S M N) → DtlsRests m.dtls laws.dtls p.core.dtls.active p.core.dtls.instance p.transport.dtls_wake
      → PollsDtlsOutputs m p Nothing p
  outputs_quiet p rests =
      repeats_once _ p p
      (record {
        answer = Ok (outputs.Timeout p.transport.dtls_wake);
        dtls = p.core.dtls;
        by_poll = polled_quiet p.core.dtls.active p.core.dtls p.transport.dtls_wake rests;
        by_answer = (refl, refl);
      })

  connected_from : (handshake : Handshake) (p : PolledPeer I D S M N) → handshake ≢ Finished → TellsConnectedFrom {E = E} handshake p Nothing p
  connected_from Pending p told = (refl, refl)
  connected_from Finished p told = absurd (told refl)
  connected_from Told p told = (refl, refl)

  connection_quiet : (p : PolledPeer I D S M N) → Drained m laws p → TellsConnection m p Nothing p
  unfolding TellsConnection
  connection_quiet p d =
      WentOn p (ice_quiet p d.ice)
      (WentOn p (times_quiet p d.due) (WentOn p (outputs_quiet p d.dtls) (connected_from p.transport.handshake p d.told)))

  streams_quiet : (p : PolledPeer I D S M N) → WaitsOver m laws p.core.sctp p.core.dtls → TellsStreams m p Nothing p
  unfolding TellsStreams SendsPacket
  streams_quiet p (inl h) =
      let same : p ≡ with_pushed None p = ap (λ (o : Option (List (List ℕ))). with_pushed o p) h.1 in
      WentOn p
      (repeats_once (PollsStreamEvent m) p p (record { answer = Ok None; streams = p.core.sctp; by_poll = h.2; by_answer = (refl, refl) }))
      (subst (λ (o : Option (List (List ℕ))). SendsFirst m o (with_pushed None p) Nothing p) (sym h.1) (refl, same))
  streams_quiet p (inr h) =
      let back : p ≡ with_pushed (Some (h.0 ∷ h.1)) p = ap (λ (o : Option (List (List ℕ))). with_pushed o p) h.3 in
      WentOn p
      (repeats_once (PollsStreamEvent m) p p
      (record {
        answer = Ok (Some (event.Transmit (h.0 ∷ h.1)));
        streams = record p.core.sctp { pushed = None };
        by_poll = h.5;
        by_answer = (refl, back);
      }))
      (subst (λ (o : Option (List (List ℕ))). SendsFirst m o (with_pushed None p) Nothing p) (sym h.3) (h.4, back))

  report_quiet : (stats : Option Reporting) (p : PolledPeer I D S M N) → HasNoReport stats → TellsReportOf {E = E} stats p Nothing p
  report_quiet None p none = (refl, refl)
  report_quiet (Some stats) p none = subst (λ (l : List StatsEvent). TellsReport {E = E} l stats p Nothing p) (sym none) (refl, refl)

  arrivals_quiet : (p : PolledPeer I D S M N) → Drained m laws p → TellsArrivals m p Nothing p
  unfolding TellsArrivals TellsMedia TellsFallibleMedia TellsStatistics
  arrivals_quiet p d =
      let events : m.media.held_events p.core.media ≡ 0 = omega (arith, d.media) in
      WentOn p (laws.media.quiet_told p.core.media events, refl)
      (WentOn p (laws.media.quiet_told_fallible p.core.media p.core.greatest events, refl) (report_quiet p.transport.stats p d.reports))

  packets_quiet : (packets : List (List ℕ)) (d : DtlsState D) → packets ≡ [] → GivesPacket m.dtls d packets None d
  packets_quiet [] d none = refl
  packets_quiet (packet ∷ packets) d none = cc (none)

  pair_quiet : (addr : Option SendAddr) (p : PolledPeer I D S M N) → AreSent m laws addr p.core.dtls.packets → held_media m.media p.core.media ≡ 0
      → SendsBy m addr p Nothing p
  unfolding SendsDtlsPacket SendsMediaDatagram
  pair_quiet None p sent held = (refl, laws.media.quiet_cleared p.core.media held, refl)
  pair_quiet (Some addr) p sent held =
      let datagrams : m.media.held_datagrams p.core.media ≡ 0 = omega (arith, held) in
      WentOn p (packets_quiet p.core.dtls.packets p.core.dtls sent, refl) (laws.media.quiet_gave p.core.media p.core.greatest datagrams, refl)

  datagrams_quiet : (p : PolledPeer I D S M N) → Drained m laws p → SendsDatagrams m p Nothing p
  unfolding SendsDatagrams SendsChecks
  datagrams_quiet p d =
      WentOn p (laws.ice.quiet_transmit p.core.ice d.ice, refl) (pair_quiet p.transport.send_addr p d.sent d.media)

  over_quiet : (p : PolledPeer I D S M N) → is_dtls_due p ≡ false → StartsOverWhenDue {E = E} p Nothing p
  over_quiet p due = (ap (λ (b : Bool). if b then Again else Nothing) (sym due), refl)

  -- a visit of a drained peer
  pub drained_quiet : (p : PolledPeer I D S M N) → Drained m laws p → VisitsParts m p Nothing p
  unfolding VisitsParts
  drained_quiet p d =
      WentOn p (connection_quiet p d)
      (WentOn p (streams_quiet p d.streams) (WentOn p (arrivals_quiet p d) (WentOn p (datagrams_quiet p d) (over_quiet p d.due))))

  -- the reason of the last timeout is not looked at
  drained_with : (reason : Reason) (p : PolledPeer I D S M N) → Drained m laws p → Drained m laws (with_reason reason p)
  drained_with reason p d = record {
    ice = d.ice;
    due = d.due;
    dtls = d.dtls;
    told = d.told;
    streams = d.streams;
    media = d.media;
    sent = d.sent;
    reports = d.reports;
  }

  pub visited_quiet : (p q : PolledPeer I D S M N) (reason : Reason) → VisitsParts m p Nothing q
      → VisitsParts m (with_reason reason q) Nothing (with_reason reason q)
  visited_quiet p q reason h = drained_quiet (with_reason reason q) (drained_with reason q (visit_drains m laws p q h))
