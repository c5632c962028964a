-- What a peer weighs while a poll goes on: its weight, with what is told of its handshake, and the stages that change no moment of DTLS.
use Rattle.std.proofs.Common.{◌≡◌, ℕ, ◌+◌, ◌*◌, ◌-◌, ◌^◌, ◌≤◌, ◌||◌, if◌then◌else◌, Bool, true, false, List, [], ◌∷◌, length, Option, Some, None, refl, sym, ap, subst, arith}
use Rattle.rtc_parts.specs.declared.ice_event.IceEvent.{IceEvent}
use Rattle.rtc_parts.specs.declared.ice_event.IceEvent.TheVariants as ice_events
use Rattle.rtc_parts.specs.DtlsState.{DtlsState, GivesPacket}
use Rattle.rtc_parts.specs.MediaMeaning.{held_media}
use Rattle.rtc_parts.specs.declared.stats_event.StatsEvent.{StatsEvent}
use Rattle.rtc_config.specs.Stats.{Reporting}
use Rattle.rtc_peer_core.specs.Meanings.{Meanings, PartsLaws}
use Rattle.rtc_peer_core.specs.declared.rtc_error.RtcError.TheVariants.{Media as MediaFailed, Alloc}
use Rattle.rtc_peer_transport.specs.declared.event.Event.TheVariants.{Media as MediaTold}
use Rattle.rtc_peer_transport.specs.declared.handshake.Handshake.{Handshake}
use Rattle.rtc_peer_transport.specs.declared.handshake.Handshake.TheVariants.{Pending, Finished, Told}
use Rattle.rtc_peer_transport.specs.declared.met.Met.{Met}
use Rattle.rtc_peer_transport.specs.declared.met.Met.TheVariants.{Nothing, Again, Transmit as Sent, Event, Error}
use Rattle.rtc_peer_transport.specs.declared.polled_peer.PolledPeer.{PolledPeer}
use Rattle.rtc_peer_transport.specs.declared.send_addr.SendAddr.{SendAddr}
use Rattle.rtc_peer_transport.specs.Connection.{with_ice}
use Rattle.rtc_peer_transport.specs.Stages.{Stage, FollowedBy, Stopped, WentOn, RepeatsStage}
use Rattle.rtc_peer_transport.specs.Statistics.{TellsReport, TellsReportOf, TellsStatistics, with_stats}
use Rattle.rtc_peer_transport.proofs.StageLemmas.{over_carries}
use Rattle.rtc_peer_polling.specs.DtlsStages.{TellsConnected, TellsConnectedFrom, has_come, is_dtls_due, with_handshake}
use Rattle.rtc_peer_polling.specs.IceStages.{PollsIceEvent, PollsIceEvents, TakesIceEvent, after_ice_event}
use Rattle.rtc_peer_polling.specs.MediaStages.{TellsMedia, TellsFallibleMedia}
use Rattle.rtc_peer_polling.specs.SendStages.{SendsChecks, SendsDtlsPacket, SendsMediaDatagram, SendsBy, SendsByPair}
use Rattle.rtc_peer_polling.specs.Walk.{TellsArrivals, SendsDatagrams, StartsOverWhenDue}
use Rattle.rtc_peer_laws.specs.Weight.{stats_events, alive_weight, handshake_weight, is_moment_due}
use Rattle.rtc_peer_laws.proofs.PassFalls.{streams_live}
use Rattle.rtc_peer_laws.proofs.PollsUnset.{AreUnset}

abbrev pub moment_weight : Bool → ℕ
moment_weight due = if due then 64 else 0

module _ {I D S M E X T W N : Type 0} (m : Meanings I D S M E X T W N) (laws : PartsLaws m) where
  -- all but a moment of DTLS
  abbrev pub base : PolledPeer I D S M N → ℕ
  base p =
      (65 * m.dtls.units p.core.dtls.instance + 2 * m.dtls.packets p.core.dtls.instance + length p.core.dtls.packets)
      + 4 * streams_live m.association laws.association p.core.sctp
      + m.ice.held p.core.ice
      + held_media m.media p.core.media
      + stats_events p.transport.stats
      + alive_weight p.core.phase
      + handshake_weight p.transport.handshake

  abbrev pub whole : PolledPeer I D S M N → ℕ
  whole p = base p + moment_weight (is_moment_due m p)

  -- no threshold stands or is asked for, and the greatest moment is one
  abbrev pub Fit : PolledPeer I D S M N → Type 0
  Fit p = AreUnset m.association laws.association p.core.sctp × (p.core.greatest ≤ 2 ^ 64 - 1)

  -- each output lowers what a peer weighs
  abbrev pub Lowered : Met E → PolledPeer I D S M N → PolledPeer I D S M N → Type 0
  Lowered Nothing p q = Fit q × (whole q ≤ whole p)
  Lowered Again p q = Fit q × (whole q ≤ whole p)
  Lowered (Sent transmit) p q = Fit q × (whole q + 1 ≤ whole p)
  Lowered (Event event) p q = Fit q × (whole q + 1 ≤ whole p)
  Lowered (Error error) p q = Fit q

  abbrev pub Lowers : Stage (PolledPeer I D S M N) E → Type 0
  Lowers stage = (p : PolledPeer I D S M N) (r : Met E) (q : PolledPeer I D S M N) → Fit p → stage p r q → Lowered r p q

  pub lowered_as : (r n : Met E) (p x q : PolledPeer I D S M N) → r ≡ n → q ≡ x → Lowered n p x → Lowered r p q
  lowered_as r n p x q e f h = subst (λ (y : Met E). Lowered y p q) (sym e) (subst (λ (y : PolledPeer I D S M N). Lowered n p y) (sym f) h)

  pub fit_as : (x q : PolledPeer I D S M N) → q ≡ x → Fit x → Fit q
  fit_as x q e h = subst (λ (y : PolledPeer I D S M N). Fit y) (sym e) h

  pub lowered_from : (r : Met E) (p b q : PolledPeer I D S M N) → whole b ≤ whole p → Lowered r b q → Lowered r p q
  lowered_from Nothing p b q le h = (h.0, omega (arith, le, h.1))
  lowered_from Again p b q le h = (h.0, omega (arith, le, h.1))
  lowered_from (Sent transmit) p b q le h = (h.0, omega (arith, le, h.1))
  lowered_from (Event event) p b q le h = (h.0, omega (arith, le, h.1))
  lowered_from (Error error) p b q le h = h

  pub followed_lowers : (first rest : Stage (PolledPeer I D S M N) E) → Lowers first → Lowers rest → Lowers (FollowedBy first rest)
  followed_lowers first rest f g p r q fit (Stopped met stage) = f p r q fit stage
  followed_lowers first rest f g p r q fit (WentOn between stage after) =
      let one = f p Nothing between fit stage in
      lowered_from r p between q one.1 (g between r q one.0 after)

  abbrev Goes : PolledPeer I D S M N → PolledPeer I D S M N → Type 0
  Goes p q = Fit p → Fit q × (whole q ≤ whole p)

  pub repeats_lowers : (stage : Stage (PolledPeer I D S M N) E) → Lowers stage → Lowers (RepeatsStage stage)
  repeats_lowers stage f p r q fit h =
      let over = over_carries stage Goes (λ x k. (k, omega arith))
      (λ a b c one two k. let first = one k in let second = two first.0 in (second.0, omega (arith, first.1, second.1)))
      (λ a b turn k. f a Again b k turn) h.turns p h.last h.over fit in
      lowered_from r p h.last q over.1 (f h.last r q over.0 h.ends)

  -- ---- ICE

  ice_whole : (e : IceEvent) (ice : I) (p : PolledPeer I D S M N) → whole (record (with_ice ice p) { transport = after_ice_event e p.transport }) + m.ice.held p.core.ice ≡ whole p + m.ice.held ice
  ice_whole ice_events.IceRestart ice p = omega arith
  ice_whole (ice_events.StateChange state) ice p = omega arith
  ice_whole (ice_events.DiscoveredRecv proto source) ice p = omega arith
  ice_whole (ice_events.NominatedSend proto source destination) ice p = omega arith

  ice_event : (e : IceEvent) (ice : I) (p : PolledPeer I D S M N) (r : Met E) (q : PolledPeer I D S M N) → Fit p → m.ice.polled p.core.ice (Some e) ice
      → TakesIceEvent (Some e) (with_ice ice p) r q → Lowered r p q
  ice_event ice_events.IceRestart ice p r q fit polled taken =
      let falls = laws.ice.event_falls p.core.ice ice _ polled in
      lowered_as r Again p _ q taken.0 taken.1 (fit, omega (arith, falls, ice_whole ice_events.IceRestart ice p))
  ice_event (ice_events.StateChange state) ice p r q fit polled taken =
      let falls = laws.ice.event_falls p.core.ice ice _ polled in
      lowered_as r (Event _) p _ q taken.0 taken.1 (fit, omega (arith, falls, ice_whole (ice_events.StateChange state) ice p))
  ice_event (ice_events.DiscoveredRecv proto source) ice p r q fit polled taken =
      let falls = laws.ice.event_falls p.core.ice ice _ polled in
      lowered_as r Again p _ q taken.0 taken.1 (fit, omega (arith, falls, ice_whole (ice_events.DiscoveredRecv proto source) ice p))
  ice_event (ice_events.NominatedSend proto source destination) ice p r q fit polled taken =
      let falls = laws.ice.event_falls p.core.ice ice _ polled in
      lowered_as r Again p _ q taken.0 taken.1 (fit, omega (arith, falls, ice_whole (ice_events.NominatedSend proto source destination) ice p))

  ice_by : (event : Option IceEvent) (ice : I) (p : PolledPeer I D S M N) (r : Met E) (q : PolledPeer I D S M N) → Fit p → m.ice.polled p.core.ice event ice
      → TakesIceEvent event (with_ice ice p) r q → Lowered r p q
  ice_by (Some e) ice p r q fit polled taken = ice_event e ice p r q fit polled taken
  ice_by None ice p r q fit polled taken =
      let same = ap m.ice.held (laws.ice.event_none p.core.ice ice polled) in
      lowered_as r Nothing p (with_ice ice p) q taken.0 taken.1 (fit, omega (arith, same))

  pub ice_lowers : Lowers (PollsIceEvents m)
  ice_lowers = repeats_lowers (PollsIceEvent m) (λ p r q fit turn. ice_by turn.event turn.ice p r q fit turn.by_poll turn.by_event)

  -- ---- what is told

  connected_by : (h : Handshake) (p : PolledPeer I D S M N) (r : Met E) (q : PolledPeer I D S M N) → p.transport.handshake ≡ h → Fit p
      → TellsConnectedFrom h p r q → Lowered r p q
  connected_by Pending p r q is fit told = lowered_as r Nothing p p q told.0 told.1 (fit, omega arith)
  connected_by Finished p r q is fit told =
      lowered_as r (Event _) p (with_handshake Told p) q told.0 told.1 (fit, omega (arith, ap handshake_weight is))
  connected_by Told p r q is fit told = lowered_as r Nothing p p q told.0 told.1 (fit, omega arith)

  pub connected_lowers : Lowers TellsConnected
  connected_lowers p r q fit h = connected_by p.transport.handshake p r q refl fit h

  media_lowers : Lowers (TellsMedia m)
  unfolding TellsMedia
  media_lowers p Nothing q fit h =
      let same = ap (held_media m.media) (laws.media.event_none p.core.media q.core.media h.0) in
      (fit_as _ q h.1 fit, omega (arith, ap whole h.1, same))
  media_lowers p (Event (MediaTold event)) q fit h =
      let falls = laws.media.event_falls p.core.media q.core.media event h.0 in
      (fit_as _ q h.1 fit, omega (arith, ap whole h.1, falls))
  media_lowers p _ q fit h = absurd h

  fallible_lowers : Lowers (TellsFallibleMedia m)
  unfolding TellsFallibleMedia
  fallible_lowers p Nothing q fit h =
      let same = ap (held_media m.media) (laws.media.fallible_none p.core.media q.core.media p.core.greatest h.0) in
      (fit_as _ q h.1 fit, omega (arith, ap whole h.1, same))
  fallible_lowers p (Event (MediaTold event)) q fit h =
      let falls = laws.media.fallible_falls p.core.media q.core.media p.core.greatest event h.0 in
      (fit_as _ q h.1 fit, omega (arith, ap whole h.1, falls))
  fallible_lowers p (Error (MediaFailed cause)) q fit h = fit_as _ q h.2 fit
  fallible_lowers p (Error Alloc) q fit h = fit_as _ q h.1 (fit.0, fit.1)
  fallible_lowers p _ q fit h = absurd h

  report_by : (events : List StatsEvent) (stats : Reporting) (p : PolledPeer I D S M N) (r : Met E) (q : PolledPeer I D S M N)
      → p.transport.stats ≡ Some stats → stats.events ≡ events → Fit p → TellsReport events stats p r q → Lowered r p q
  report_by [] stats p r q is has fit h = lowered_as r Nothing p p q h.0 h.1 (fit, omega arith)
  report_by (report ∷ events) stats p r q is has fit h =
      lowered_as r (Event _) p (with_stats (record stats { events = events }) p) q h.0 h.1
      (fit, omega (arith, ap stats_events is, ap (λ (l : List StatsEvent). length l) has))

  reports_by : (stats : Option Reporting) (p : PolledPeer I D S M N) (r : Met E) (q : PolledPeer I D S M N)
      → p.transport.stats ≡ stats → Fit p → TellsReportOf stats p r q → Lowered r p q
  reports_by None p r q is fit h = lowered_as r Nothing p p q h.0 h.1 (fit, omega arith)
  reports_by (Some stats) p r q is fit h = report_by stats.events stats p r q is refl fit h

  statistics_lower : Lowers TellsStatistics
  unfolding TellsStatistics
  statistics_lower p r q fit h = reports_by p.transport.stats p r q refl fit h

  pub arrivals_lower : Lowers (TellsArrivals m)
  unfolding TellsArrivals
  arrivals_lower = followed_lowers (TellsMedia m) _ media_lowers (followed_lowers (TellsFallibleMedia m) TellsStatistics fallible_lowers statistics_lower)

  -- ---- what is sent

  checks_lower : Lowers (SendsChecks m)
  unfolding SendsChecks
  checks_lower p Nothing q fit h =
      let same = ap m.ice.held (laws.ice.transmit_none p.core.ice q.core.ice h.0) in
      (fit_as _ q h.1 fit, omega (arith, ap whole h.1, same))
  checks_lower p (Sent transmit) q fit h =
      let falls = laws.ice.transmit_falls p.core.ice q.core.ice transmit h.0 in
      (fit_as _ q h.1 fit, omega (arith, ap whole h.1, falls))
  checks_lower p _ q fit h = absurd h

  given_none : (l : List (List ℕ)) (d e : DtlsState D) → GivesPacket m.dtls d l None e → e ≡ d
  given_none [] d e h = h
  given_none (b ∷ packets) d e h = absurd h

  given_packet : (l : List (List ℕ)) (d e : DtlsState D) (packet : List ℕ) → d.packets ≡ l → GivesPacket m.dtls d l (Some packet) e
      → (e.instance ≡ d.instance) × (length e.packets + 1 ≤ length d.packets)
  given_packet [] d e packet is h = absurd h
  given_packet (b ∷ packets) d e packet is h =
      (ap (λ (x : DtlsState D). x.instance) h.1, omega (arith, ap (λ (x : DtlsState D). length x.packets) h.1, ap (λ (x : List (List ℕ)). length x) is))

  -- what a DTLS connection weighs with a moment that may be due
  abbrev pub connection_weight : (wake greatest : ℕ) → D → (queue : ℕ) → ℕ
  connection_weight wake greatest d queue =
      65 * m.dtls.units d + 2 * m.dtls.packets d + queue + moment_weight (has_come (m.dtls.asks d) greatest || has_come wake greatest)

  packets_lower : (addr : SendAddr) → Lowers (SendsDtlsPacket m addr)
  unfolding SendsDtlsPacket
  packets_lower addr p Nothing q fit h =
      let same = given_none p.core.dtls.packets p.core.dtls q.core.dtls h.0 in
      let weighs = ap (λ (d : DtlsState D). connection_weight p.transport.dtls_wake p.core.greatest d.instance (length d.packets)) same in
      (fit_as _ q h.1 fit, omega (arith, ap whole h.1, weighs))
  packets_lower addr p (Sent transmit) q fit h =
      let given = given_packet p.core.dtls.packets p.core.dtls q.core.dtls transmit.contents refl h.1 in
      let weighs = ap (λ (d : D). connection_weight p.transport.dtls_wake p.core.greatest d (length q.core.dtls.packets)) given.0 in
      (fit_as _ q h.2 fit, omega (arith, ap whole h.2, weighs, given.1))
  packets_lower addr p _ q fit h = absurd h

  datagram_lowers : (addr : SendAddr) → Lowers (SendsMediaDatagram m addr)
  unfolding SendsMediaDatagram
  datagram_lowers addr p Nothing q fit h =
      let same = ap (held_media m.media) (laws.media.datagram_none p.core.media q.core.media p.core.greatest h.0) in
      (fit_as _ q h.1 fit, omega (arith, ap whole h.1, same))
  datagram_lowers addr p (Sent transmit) q fit h =
      let falls = laws.media.datagram_falls p.core.media q.core.media p.core.greatest transmit.contents h.1 in
      (fit_as _ q h.2 fit, omega (arith, ap whole h.2, falls))
  datagram_lowers addr p _ q fit h = absurd h

  sent_by_pair : (addr : Option SendAddr) (p : PolledPeer I D S M N) (r : Met E) (q : PolledPeer I D S M N) → Fit p → SendsBy m addr p r q → Lowered r p q
  sent_by_pair (Some addr) p r q fit h = followed_lowers (SendsDtlsPacket m addr) (SendsMediaDatagram m addr) (packets_lower addr) (datagram_lowers addr) p r q fit h
  sent_by_pair None p r q fit h =
      let less = laws.media.clear_held p.core.media q.core.media h.1 in
      subst (λ (y : Met E). Lowered y p q) (sym h.0) (fit_as _ q h.2 fit, omega (arith, ap whole h.2, less))

  pub datagrams_lower : Lowers (SendsDatagrams m)
  unfolding SendsDatagrams
  datagrams_lower = followed_lowers (SendsChecks m) (SendsByPair m) checks_lower (λ p r q fit h. sent_by_pair p.transport.send_addr p r q fit h)

  starts_over : (due : Bool) (p : PolledPeer I D S M N) (r : Met E) (q : PolledPeer I D S M N) → Fit p → r ≡ (if due then Again else Nothing) → q ≡ p → Lowered r p q
  starts_over true p r q fit e f = lowered_as r Again p p q e f (fit, omega arith)
  starts_over false p r q fit e f = lowered_as r Nothing p p q e f (fit, omega arith)

  pub start_lowers : Lowers StartsOverWhenDue
  start_lowers p r q fit h = starts_over (is_dtls_due p) p r q fit h.0 h.1
