-- What a poll tells of statistics, and a moment that is handed to them, leave of a peer.
use Rattle.std.proofs.Common.{◌≡◌, ◌⊎◌, inl, inr, ℕ, Bool, true, false, List, [], ◌∷◌, Option, Some, None, Result, Ok, Err, alloc_error, refl, sym, ap, subst, ◌∙◌}
use Rattle.std.specs.declared.alloc.AllocError.{AllocError}
use Rattle.rtc_parts.specs.declared.stats_event.StatsEvent.{StatsEvent}
use Rattle.rtc_parts.specs.MediaMeaning.{MediaMeaning}
use Rattle.rtc_parts.specs.declared.stats_snapshot.StatsSnapshot.{StatsSnapshot}
use Rattle.rtc_config.specs.Stats.{Reporting, is_round_due, since}
use Rattle.rtc_peer_core.specs.Meanings.{Meanings}
use Rattle.rtc_peer_core.specs.declared.phase.Phase.TheVariants.{Closed}
use Rattle.rtc_peer_core.specs.declared.rtc_error.RtcError.{RtcError}
use Rattle.rtc_peer_core.specs.declared.rtc_error.RtcError.TheVariants.{Alloc}
use Rattle.rtc_peer_transport.specs.declared.met.Met.{Met}
use Rattle.rtc_peer_transport.specs.declared.met.Met.TheVariants.{Nothing, Again, Error}
use Rattle.rtc_peer_transport.specs.declared.polled_peer.PolledPeer.{PolledPeer}
use Rattle.rtc_peer_transport.specs.Connection.{with_media, closed_peer}
use Rattle.rtc_peer_transport.specs.Statistics.{TellsReport, TellsReportOf, TellsStatistics, ReportsRound, ReportsIf, Reports, TimesReports, TimesStatistics, with_stats}
use Rattle.rtc_peer_transport.proofs.StageLemmas.{NeverAgain}

-- nothing but the statistics is another
abbrev pub KeepsAllButStats : {I D S M N : Type 0} → PolledPeer I D S M N → PolledPeer I D S M N → Type 0
KeepsAllButStats p q = q ≡ record p { transport = record p.transport { stats = q.transport.stats } }

keeps_as : {I D S M N : Type 0} (p n q : PolledPeer I D S M N) → q ≡ n → KeepsAllButStats p n → KeepsAllButStats p q
keeps_as {I} {D} {S} {M} {N} p n q e kept = subst (λ (x : PolledPeer I D S M N). KeepsAllButStats p x) (sym e) kept

-- no report is left to tell
abbrev pub HasNoReport : Option Reporting → Type 0
HasNoReport None = Unit {0}
HasNoReport (Some stats) = stats.events ≡ []

module _ {I D S M E N : Type 0} where
  report_told : (events : List StatsEvent) (stats : Reporting) (p : PolledPeer I D S M N) (r : Met E) (q : PolledPeer I D S M N)
      → TellsReport events stats p r q → KeepsAllButStats p q
  report_told [] stats p r q h = keeps_as p p q h.1 refl
  report_told (report ∷ events) stats p r q h = keeps_as p _ q h.1 refl

  report_told_of : (stats : Option Reporting) (p : PolledPeer I D S M N) (r : Met E) (q : PolledPeer I D S M N)
      → TellsReportOf stats p r q → KeepsAllButStats p q
  report_told_of None p r q h = keeps_as p p q h.1 refl
  report_told_of (Some stats) p r q h = report_told stats.events stats p r q h

  -- a report changes nothing else
  pub statistics_told : (p : PolledPeer I D S M N) (r : Met E) (q : PolledPeer I D S M N) → TellsStatistics p r q → KeepsAllButStats p q
  unfolding TellsStatistics
  statistics_told p r q h = report_told_of p.transport.stats p r q h

  told_without : (events : List StatsEvent) (stats : Reporting) (p : PolledPeer I D S M N) (r : Met E) (q : PolledPeer I D S M N) → events ≡ []
      → TellsReport events stats p r q → (r ≡ Nothing) × (q ≡ p)
  told_without [] stats p r q none h = h
  told_without (report ∷ events) stats p r q none h = cc (none)

  told_without_of : (stats : Option Reporting) (p : PolledPeer I D S M N) (r : Met E) (q : PolledPeer I D S M N) → HasNoReport stats
      → TellsReportOf stats p r q → (r ≡ Nothing) × (q ≡ p)
  told_without_of None p r q none h = h
  told_without_of (Some stats) p r q none h = told_without stats.events stats p r q none h

  -- where none is left, none is told
  pub statistics_rest : (p : PolledPeer I D S M N) (r : Met E) (q : PolledPeer I D S M N) → HasNoReport p.transport.stats → TellsStatistics p r q
      → (r ≡ Nothing) × (q ≡ p)
  unfolding TellsStatistics
  statistics_rest p r q none h = told_without_of p.transport.stats p r q none h

module _ {I D S M N : Type 0} (E : Type 0) where
  none_told : (events : List StatsEvent) (stats : Reporting) (p q : PolledPeer I D S M N) → TellsReport {E = E} events stats p Nothing q → q ≡ p
  none_told [] stats p q h = h.1
  none_told (report ∷ events) stats p q h = cc (h.0)

  none_told_of : (stats : Option Reporting) (p q : PolledPeer I D S M N) → TellsReportOf {E = E} stats p Nothing q → q ≡ p
  none_told_of None p q h = h.1
  none_told_of (Some stats) p q h = none_told stats.events stats p q h

  -- where there is none, nothing changes
  pub no_statistics_told : (p q : PolledPeer I D S M N) → TellsStatistics {E = E} p Nothing q → q ≡ p
  unfolding TellsStatistics
  no_statistics_told p q h = none_told_of p.transport.stats p q h

  report_left : (events : List StatsEvent) (stats : Reporting) (p q : PolledPeer I D S M N) → TellsReport {E = E} events stats p Nothing q → events ≡ []
  report_left [] stats p q h = refl
  report_left (report ∷ events) stats p q h = cc (h.0)

  report_left_of : (stats : Option Reporting) (p q : PolledPeer I D S M N) → TellsReportOf {E = E} stats p Nothing q → HasNoReport stats
  report_left_of None p q h = tt
  report_left_of (Some stats) p q h = report_left stats.events stats p q h

  -- where none is told, none is left
  pub no_report_left : (p q : PolledPeer I D S M N) → TellsStatistics {E = E} p Nothing q → HasNoReport q.transport.stats
  unfolding TellsStatistics
  no_report_left p q h =
      subst (λ (x : PolledPeer I D S M N). HasNoReport x.transport.stats) (sym (none_told_of p.transport.stats p q h)) (report_left_of p.transport.stats p q h)

  again_not_told : (events : List StatsEvent) (stats : Reporting) (p q : PolledPeer I D S M N) → TellsReport {E = E} events stats p Again q → ⊥
  again_not_told [] stats p q h = cc (h.0)
  again_not_told (report ∷ events) stats p q h = cc (h.0)

  again_not_told_of : (stats : Option Reporting) (p q : PolledPeer I D S M N) → TellsReportOf {E = E} stats p Again q → ⊥
  again_not_told_of None p q h = cc (h.0)
  again_not_told_of (Some stats) p q h = again_not_told stats.events stats p q h

  -- they never start a walk over
  pub statistics_never : NeverAgain (TellsStatistics {I = I} {D = D} {S = S} {M = M} {E = E} {N = N})
  unfolding TellsStatistics
  statistics_never p q h = again_not_told_of p.transport.stats p q h

  error_not_told : (events : List StatsEvent) (stats : Reporting) (error : RtcError) (p q : PolledPeer I D S M N)
      → TellsReport {E = E} events stats p (Error error) q → ⊥
  error_not_told [] stats error p q h = cc (h.0)
  error_not_told (report ∷ events) stats error p q h = cc (h.0)

  error_not_told_of : (stats : Option Reporting) (error : RtcError) (p q : PolledPeer I D S M N)
      → TellsReportOf {E = E} stats p (Error error) q → ⊥
  error_not_told_of None error p q h = cc (h.0)
  error_not_told_of (Some stats) error p q h = error_not_told stats.events stats error p q h

  -- they do not fail
  pub statistics_told_well : (error : RtcError) (p q : PolledPeer I D S M N) → TellsStatistics {E = E} p (Error error) q → ⊥
  unfolding TellsStatistics
  statistics_told_well error p q h = error_not_told_of p.transport.stats error p q h

module _ {I D S M E X T W N : Type 0} (m : Meanings I D S M E X T W N) where
  -- the media part was not visited, or once
  abbrev pub VisitedOnce : ℕ → M → M → Type 0
  VisitedOnce now p q =
      (q ≡ p)
      ⊎ ((gathered : StatsSnapshot) × ((answer : Result (Unit {0}) AllocError) × ((visited : StatsSnapshot) × m.media.stats_visited p now gathered answer visited q)))

  -- nothing but the statistics, the media part and the phase is another
  abbrev pub KeepsAllButRound : PolledPeer I D S M N → PolledPeer I D S M N → Type 0
  KeepsAllButRound p q =
      q ≡ record p { core = record p.core { media = q.core.media; phase = q.core.phase }; transport = record p.transport { stats = q.transport.stats } }

  -- a moment that was handed to the statistics
  pub record StatisticsTimed (now : ℕ) (p : PolledPeer I D S M N) (r : Result (Unit {0}) RtcError) (q : PolledPeer I D S M N) : Type 0 where
    pub kept : KeepsAllButRound p q
    pub media : VisitedOnce now p.core.media q.core.media
    pub ends : ((r ≡ Ok tt) × (q.core.phase ≡ p.core.phase)) ⊎ ((r ≡ Err Alloc) × (q.core.phase ≡ Closed))

  round_visited : (now : ℕ) (gathered : StatsSnapshot) (stats : Reporting) (a : M) (r : Result (Unit {0}) AllocError) (stats' : Reporting) (b : M)
      → ReportsRound m.media now gathered stats a r stats' b → VisitedOnce now a b
  round_visited now gathered stats a (Ok done) stats' b h = inr (gathered, (Ok tt, (h.0, h.1)))
  round_visited now gathered stats a (Err error) stats' b h = inr (gathered, (h.0, (h.1, h.2)))

  reports_visited : (due : Bool) (now : ℕ) (gathered : StatsSnapshot) (stats : Reporting) (a : M) (r : Result (Unit {0}) AllocError)
      (stats' : Reporting) (b : M) → ReportsIf m.media due now gathered stats a r stats' b → VisitedOnce now a b
  reports_visited false now gathered stats a r stats' b h = inl h.2
  reports_visited true now gathered stats a r stats' b h = round_visited now gathered stats a r stats' b h

  kept_on : (p n q : PolledPeer I D S M N) → q ≡ n → KeepsAllButRound p n → KeepsAllButRound p q
  kept_on p n q e kept = subst (λ (x : PolledPeer I D S M N). KeepsAllButRound p x) (sym e) kept

  timed_by : (stats : Option Reporting) (now : ℕ) (p : PolledPeer I D S M N) (r : Result (Unit {0}) RtcError) (q : PolledPeer I D S M N)
      → TimesReports m stats now p r q → StatisticsTimed now p r q
  timed_by None now p r q h =
      record {
        kept = kept_on p p q h.1 refl;
        media = inl (ap (λ (x : PolledPeer I D S M N). x.core.media) h.1);
        ends = inl (h.0, ap (λ (x : PolledPeer I D S M N). x.core.phase) h.1);
      }
  timed_by (Some stats) now p (Ok done) q h =
      record {
        kept = kept_on p (with_stats h.2 (with_media q.core.media p)) q h.4 refl;
        media = reports_visited (is_round_due stats.interval stats.last now) now h.0 stats p.core.media (Ok tt) h.2 q.core.media h.3;
        ends = inl (refl, ap (λ (x : PolledPeer I D S M N). x.core.phase) h.4);
      }
  timed_by (Some stats) now p (Err Alloc) q h =
      record {
        kept = kept_on p (closed_peer (with_stats h.2 (with_media q.core.media p))) q h.4 refl;
        media = reports_visited (is_round_due stats.interval stats.last now) now h.0 stats p.core.media (Err alloc_error) h.2 q.core.media h.3;
        ends = inr (refl, ap (λ (x : PolledPeer I D S M N). x.core.phase) h.4);
      }
  timed_by (Some stats) now p (Err error) q h = absurd h

  -- a moment that is handed to the statistics changes nothing else
  pub statistics_timed : (now : ℕ) (p : PolledPeer I D S M N) (r : Result (Unit {0}) RtcError) (q : PolledPeer I D S M N)
      → TimesStatistics m now p r q → StatisticsTimed now p r q
  unfolding TimesStatistics
  statistics_timed now p r q h = timed_by p.transport.stats now p r q h

-- a round is due at or behind a last moment alone, which then stays
due_stays : (interval : ℕ) (last : Option ℕ) (now : ℕ) → is_round_due interval last now ≡ true → Some (since last now) ≡ last
due_stays interval None now due = cc (due)
due_stays interval (Some last) now due = refl

-- a round that is due is reported
pub due_reports : {M E X T W : Type 0} (m : MediaMeaning M E X T W) (now : ℕ) (gathered : StatsSnapshot) (stats s : Reporting) (a : M)
    (r : Result (Unit {0}) AllocError) (stats' : Reporting) (b : M) → is_round_due stats.interval stats.last now ≡ true
    → s ≡ record stats { last = Some (since stats.last now) } → ReportsRound m now gathered s a r stats' b → Reports m now gathered stats a r stats' b
due_reports m now gathered stats s a r stats' b due is h =
    let same : s ≡ stats = is ∙ ap (λ (l : Option ℕ). record stats { last = l }) (due_stays stats.interval stats.last now due) in
    subst (λ (d : Bool). ReportsIf m d now gathered stats a r stats' b) (sym due)
    (subst (λ (x : Reporting). ReportsRound m now gathered x a r stats' b) same h)
