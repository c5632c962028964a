-- When a peer reports statistics, and what it gathers for a round of them.
use Rattle.std.specs.Prelude.{ℕ, ◌≡◌, Bool, true, false, List, [], ◌∷◌, Option, Some, None, Result, Ok, Err, alloc_error}
use Rattle.std.specs.declared.alloc.AllocError.{AllocError}
use Rattle.std.specs.BTreeMap.{IsEmpty}
use Rattle.rtc_parts.specs.declared.candidate_pair_stats.CandidatePairStats.{CandidatePairStats}
use Rattle.rtc_parts.specs.declared.stats_event.StatsEvent.{StatsEvent}
use Rattle.rtc_parts.specs.declared.stats_event.StatsEvent.TheVariants as reports
use Rattle.rtc_parts.specs.declared.stats_snapshot.StatsSnapshot.{StatsSnapshot}
use Rattle.rtc_parts.specs.MediaMeaning.{MediaMeaning}
use Rattle.rtc_config.specs.Stats.{Reporting, is_round_due, next_round, reported, since}
use Rattle.rtc_peer_core.specs.Meanings.{Meanings}
use Rattle.rtc_peer_core.specs.declared.rtc_error.RtcError.TheVariants.{Alloc}
use Rattle.rtc_peer_transport.specs.declared.event.Event.{Event}
use Rattle.rtc_peer_transport.specs.declared.event.Event.TheVariants.{PeerStats, MediaIngressStats, MediaEgressStats}
use Rattle.rtc_peer_transport.specs.declared.met.Met.TheVariants.{Nothing, Event as MetEvent}
use Rattle.rtc_peer_transport.specs.declared.polled_peer.PolledPeer.{PolledPeer}
use Rattle.rtc_peer_transport.specs.declared.send_addr.SendAddr.{SendAddr}
use Rattle.rtc_peer_transport.specs.Connection.{with_media, closed_peer}
use Rattle.rtc_peer_transport.specs.Stages.{Stage, Call}

-- the peer with other statistics
abbrev pub with_stats : {I D S M N : Type 0} → Reporting → PolledPeer I D S M N → PolledPeer I D S M N
with_stats stats p = record p { transport = record p.transport { stats = Some stats } }

-- the moment of the next round, if statistics are reported and a moment is known
abbrev pub stats_wake : Option Reporting → Option ℕ
stats_wake None = None
stats_wake (Some stats) = next_round stats

-- a report as an event
abbrev pub event_of_report : {E : Type 0} → StatsEvent → Event E
event_of_report (reports.Peer stats) = PeerStats stats
event_of_report (reports.MediaIngress stats) = MediaIngressStats stats
event_of_report (reports.MediaEgress stats) = MediaEgressStats stats

abbrev pub TellsReport : {I D S M E N : Type 0} → List StatsEvent → Reporting → Stage (PolledPeer I D S M N) E
TellsReport [] stats p r q = (r ≡ Nothing) × (q ≡ p)
TellsReport (report ∷ events) stats p r q =
    (r ≡ MetEvent (event_of_report report)) × (q ≡ with_stats (record stats { events = events }) p)

abbrev pub TellsReportOf : {I D S M E N : Type 0} → Option Reporting → Stage (PolledPeer I D S M N) E
TellsReportOf None p r q = (r ≡ Nothing) × (q ≡ p)
TellsReportOf (Some stats) p r q = TellsReport stats.events stats p r q

-- the next report
unfoldable pub TellsStatistics : {I D S M E N : Type 0} → Stage (PolledPeer I D S M N) E
TellsStatistics p r q = TellsReportOf p.transport.stats p r q

module _ {M E X T W : Type 0} (m : MediaMeaning M E X T W) where
  -- a round of reports, to which the media part adds what it has; if memory runs out for that or for the reports, these are unchanged
  abbrev pub ReportsRound : ℕ → StatsSnapshot → Reporting → M → Result (Unit {0}) AllocError → Reporting → M → Type 0
  ReportsRound now gathered stats a (Ok done) stats' b =
      (visited : StatsSnapshot) × m.stats_visited a now gathered (Ok tt) visited b × (stats' ≡ reported stats visited)
  ReportsRound now gathered stats a (Err error) stats' b =
      (answer : Result (Unit {0}) AllocError)
      × (visited : StatsSnapshot)
      × m.stats_visited a now gathered answer visited b
      × (stats' ≡ stats)

  -- if no round is due, the first moment is learned
  abbrev pub ReportsIf : (due : Bool) → ℕ → StatsSnapshot → Reporting → M → Result (Unit {0}) AllocError → Reporting → M → Type 0
  ReportsIf false now gathered stats a r stats' b = (r ≡ Ok tt) × (stats' ≡ record stats { last = Some (since stats.last now) }) × (b ≡ a)
  ReportsIf true now gathered stats a r stats' b = ReportsRound now gathered stats a r stats' b

  abbrev pub Reports : ℕ → StatsSnapshot → Reporting → M → Result (Unit {0}) AllocError → Reporting → M → Type 0
  Reports now gathered stats a r stats' b = ReportsIf (is_round_due stats.interval stats.last now) now gathered stats a r stats' b

module _ {I D S M E X T W N : Type 0} (m : Meanings I D S M E X T W N) where
  -- the pair of addresses that ICE nominated, with what the agent reports of its checks
  abbrev pub pair_stats : Option SendAddr → I → Option CandidatePairStats
  pair_stats None ice = None
  pair_stats (Some sends) ice = Some (record {
    protocol = sends.proto;
    local = record { addr = sends.source };
    remote = record { addr = sends.destination };
    current_round_trip_time = m.ice.pair_rtt ice;
    total_round_trip_time = m.ice.pair_total_rtt ice;
    responses_received = m.ice.pair_responses ice;
  })

  -- what a peer gathers at a moment, before its media part adds what it has
  pub record IsGathered (now : ℕ) (p : PolledPeer I D S M N) (s : StatsSnapshot) : Type 0 where
    pub sent : s.peer_tx ≡ p.transport.sent
    pub received : s.peer_rx ≡ p.transport.received
    pub tx : s.tx ≡ 0
    pub rx : s.rx ≡ 0
    pub rtt : s.rtt ≡ None
    pub ingress : IsEmpty s.ingress
    pub egress : IsEmpty s.egress
    pub pair : s.selected_candidate_pair ≡ pair_stats p.transport.send_addr p.core.ice
    pub timestamp : s.timestamp ≡ now

  -- what becomes of the statistics of a peer and of its media part; running out of memory closes the peer
  abbrev pub TimesReports : Option Reporting → ℕ → Call (PolledPeer I D S M N)
  TimesReports None now p r q = (r ≡ Ok tt) × (q ≡ p)
  TimesReports (Some stats) now p (Ok done) q =
      (gathered : StatsSnapshot)
      × IsGathered now p gathered
      × (stats' : Reporting)
      × Reports m.media now gathered stats p.core.media (Ok tt) stats' q.core.media
      × (q ≡ with_stats stats' (with_media q.core.media p))
  TimesReports (Some stats) now p (Err Alloc) q =
      (gathered : StatsSnapshot)
      × IsGathered now p gathered
      × (stats' : Reporting)
      × Reports m.media now gathered stats p.core.media (Err alloc_error) stats' q.core.media
      × (q ≡ closed_peer (with_stats stats' (with_media q.core.media p)))
  TimesReports (Some stats) now p (Err error) q = ⊥

  -- the statistics are given a moment
  unfoldable pub TimesStatistics : ℕ → Call (PolledPeer I D S M N)
  TimesStatistics now p r q = TimesReports p.transport.stats now p r q
