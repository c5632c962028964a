-- What a poll does to the counts of faults: none falls, and an error that tells a fault of a part comes only where that part's count rose.
use Rattle.std.proofs.Common.{◌≡◌, ◌≤◌, inr, if◌then◌else◌, ◌∙◌, ℕ, Bool, true, false, List, [], ◌∷◌, Option, Some, None, Result, Ok, Err, refl, sym, ap, subst}
use Rattle.rtc_parts.specs.Why.{Other}
use Rattle.rtc_parts.specs.MediaActs.{MediaTaken, MediaStirred, EventTold, FallibleTold, FeedbackCleared}
use Rattle.rtc_parts.specs.declared.media_error.MediaError.{MediaError}
use Rattle.rtc_parts.specs.declared.media_error.MediaError.TheVariants.{Alloc as MediaAlloc}
use Rattle.rtc_peer_core.specs.declared.phase.Phase.{Phase}
use Rattle.rtc_peer_core.specs.declared.phase.Phase.TheVariants.{Alive, Closing, Closed}
use Rattle.rtc_peer_core.specs.declared.rtc_error.RtcError.{RtcError}
use Rattle.rtc_peer_core.specs.declared.rtc_error.RtcError.TheVariants.{Media as MediaFailed, Alloc}
use Rattle.rtc_peer_core.specs.Meanings.{Meanings, PartsLaws}
use Rattle.rtc_peer_transport.specs.declared.event.Event.TheVariants as told
use Rattle.rtc_peer_transport.specs.declared.met.Met.{Met}
use Rattle.rtc_peer_transport.specs.declared.met.Met.TheVariants.{Nothing, Again, Transmit, Event as MetEvent, Error}
use Rattle.rtc_peer_transport.specs.declared.output.Output.{Output}
use Rattle.rtc_peer_transport.specs.declared.polled_peer.PolledPeer.{PolledPeer}
use Rattle.rtc_peer_transport.specs.declared.send_addr.SendAddr.{SendAddr}
use Rattle.rtc_peer_transport.specs.Closing.{is_closing_complete}
use Rattle.rtc_peer_polling.specs.DtlsStages.{is_dtls_due}
use Rattle.rtc_peer_polling.specs.MediaStages.{TellsMedia, TellsFallibleMedia}
use Rattle.rtc_peer_polling.specs.SendStages.{SendsChecks, SendsDtlsPacket, SendsMediaDatagram, SendsBy, SendsByPair}
use Rattle.rtc_parts.specs.declared.stats_event.StatsEvent.{StatsEvent}
use Rattle.rtc_parts.specs.declared.stats_event.StatsEvent.TheVariants as reports
use Rattle.rtc_config.specs.Stats.{Reporting}
use Rattle.rtc_peer_transport.specs.Statistics.{TellsReport, TellsReportOf, TellsStatistics}
use Rattle.rtc_peer_polling.specs.StreamStages.{TellsStreams}
use Rattle.rtc_peer_polling.specs.Walk.{StartsOverWhenDue, TellsConnection, TellsArrivals, SendsDatagrams, VisitsParts, WaitsIf, AnswersMet, Walks, PollsPeerFrom, PollsPeer}
use Rattle.rtc_run_history.specs.Memory.{CountedPart}
use Rattle.rtc_run_laws.proofs.GrowingCounts.{grows_quiet, answer_tells, gives_later, Counts, SameParts, later_of, counts_on, counts_as, same_dtls, same_media, same_association, quiet_counts, still_counts, dtls_counts, media_counts}
use Rattle.rtc_run_laws.proofs.StageCounts.{CountsStage, met_tells, over_untold, else_counts, repeats_count, still}
use Rattle.rtc_run_laws.proofs.ConnectionCounts.{connection_counts}
use Rattle.rtc_run_laws.proofs.StreamCounts.{streams_count}

module _ {I D S M E X T W N : Type 0} (m : Meanings I D S M E X T W N) (laws : PartsLaws m) where
  -- ---- media

  media_told_counts : CountsStage m (TellsMedia m)
  unfolding TellsMedia
  media_told_counts p Nothing q h =
      media_counts m p q (met_tells {E = E} Nothing) refl refl (ap (λ (x : PolledPeer I D S M N). x.core.sctp.association) h.1) (ap (λ (x : PolledPeer I D S M N). x.core.dtls.instance) h.1)
      (grows_quiet (m.media.faults p.core.media) (m.media.faults q.core.media) false refl (same_media m p q (laws.media.event_none p.core.media q.core.media h.0)))
  media_told_counts p (MetEvent (told.Media event)) q h =
      media_counts m p q (met_tells (MetEvent (told.Media event))) refl refl (ap (λ (x : PolledPeer I D S M N). x.core.sctp.association) h.1) (ap (λ (x : PolledPeer I D S M N). x.core.dtls.instance) h.1)
      (grows_quiet (m.media.faults p.core.media) (m.media.faults q.core.media) false refl
      (laws.media.faults_rise p.core.media q.core.media (MediaStirred Other) (inr (inr (EventTold event h.0)))))
  media_told_counts p _ q h = absurd h

  -- an event whose making may fail
  fallible_later : (p q : M) (now : ℕ) (r : Result (Option E) MediaError) → m.media.told_fallible p now r q → m.media.faults p ≤ m.media.faults q
  fallible_later p q now r h = laws.media.faults_rise p q (MediaStirred Other) (inr (inr (FallibleTold now r h)))

  fallible_told_counts : CountsStage m (TellsFallibleMedia m)
  unfolding TellsFallibleMedia
  fallible_told_counts p Nothing q h =
      media_counts m p q (met_tells {E = E} Nothing) refl refl (ap (λ (x : PolledPeer I D S M N). x.core.sctp.association) h.1) (ap (λ (x : PolledPeer I D S M N). x.core.dtls.instance) h.1)
      (grows_quiet (m.media.faults p.core.media) (m.media.faults q.core.media) false refl (fallible_later p.core.media q.core.media p.core.greatest (Ok None) h.0))
  fallible_told_counts p (MetEvent (told.Media event)) q h =
      media_counts m p q (met_tells (MetEvent (told.Media event))) refl refl (ap (λ (x : PolledPeer I D S M N). x.core.sctp.association) h.1) (ap (λ (x : PolledPeer I D S M N). x.core.dtls.instance) h.1)
      (grows_quiet (m.media.faults p.core.media) (m.media.faults q.core.media) false refl (fallible_later p.core.media q.core.media p.core.greatest (Ok (Some event)) h.0))
  fallible_told_counts p (Error (MediaFailed cause)) q h =
      media_counts m p q (met_tells {E = E} (Error (MediaFailed cause))) refl refl (ap (λ (x : PolledPeer I D S M N). x.core.sctp.association) h.2) (ap (λ (x : PolledPeer I D S M N). x.core.dtls.instance) h.2) (
        fallible_later p.core.media q.core.media p.core.greatest (Err cause) h.1,
        λ is. laws.media.event_fault p.core.media q.core.media p.core.greatest cause h.0 h.1,
      )
  fallible_told_counts p (Error Alloc) q h =
      media_counts m p q (met_tells {E = E} (Error Alloc)) refl refl (ap (λ (x : PolledPeer I D S M N). x.core.sctp.association) h.1) (ap (λ (x : PolledPeer I D S M N). x.core.dtls.instance) h.1)
      (grows_quiet (m.media.faults p.core.media) (m.media.faults q.core.media) false refl (fallible_later p.core.media q.core.media p.core.greatest (Err MediaAlloc) h.0))
  fallible_told_counts p _ q h = absurd h

  -- statistics
  report_counts : (events : List StatsEvent) (stats : Reporting) (p : PolledPeer I D S M N) (r : Met E) (q : PolledPeer I D S M N)
      → TellsReport events stats p r q → Counts m p (met_tells r) q
  report_counts [] stats p r q h = still m p p Nothing r q (λ part. refl) h.0 h.1 (record { dtls = refl; media = refl; association = refl })
  report_counts (reports.Peer report ∷ events) stats p r q h =
      still m p _ (MetEvent (told.PeerStats report)) r q (λ part. refl) h.0 h.1 (record { dtls = refl; media = refl; association = refl })
  report_counts (reports.MediaIngress report ∷ events) stats p r q h =
      still m p _ (MetEvent (told.MediaIngressStats report)) r q (λ part. refl) h.0 h.1 (record { dtls = refl; media = refl; association = refl })
  report_counts (reports.MediaEgress report ∷ events) stats p r q h =
      still m p _ (MetEvent (told.MediaEgressStats report)) r q (λ part. refl) h.0 h.1 (record { dtls = refl; media = refl; association = refl })

  report_counts_of : (stats : Option Reporting) (p : PolledPeer I D S M N) (r : Met E) (q : PolledPeer I D S M N)
      → TellsReportOf stats p r q → Counts m p (met_tells r) q
  report_counts_of None p r q h = still m p p Nothing r q (λ part. refl) h.0 h.1 (record { dtls = refl; media = refl; association = refl })
  report_counts_of (Some stats) p r q h = report_counts stats.events stats p r q h

  statistics_told_count : CountsStage m (TellsStatistics {I = I} {D = D} {S = S} {M = M} {E = E} {N = N})
  unfolding TellsStatistics
  statistics_told_count p r q h = report_counts_of p.transport.stats p r q h

  arrivals_count : CountsStage m (TellsArrivals m)
  unfolding TellsArrivals
  arrivals_count =
      else_counts m (TellsMedia m) _ media_told_counts
      (else_counts m (TellsFallibleMedia m) TellsStatistics fallible_told_counts statistics_told_count)

  -- ---- datagrams

  checks_count : CountsStage m (SendsChecks m)
  unfolding SendsChecks
  checks_count p Nothing q h = still m p _ Nothing Nothing q (λ part. refl) refl h.1 (record { dtls = refl; media = refl; association = refl })
  checks_count p (Transmit transmit) q h = still m p _ (Transmit transmit) (Transmit transmit) q (λ part. refl) refl h.1 (record { dtls = refl; media = refl; association = refl })
  checks_count p _ q h = absurd h

  packets_count : (addr : SendAddr) → CountsStage m (SendsDtlsPacket m addr)
  unfolding SendsDtlsPacket
  packets_count addr p Nothing q h =
      dtls_counts m p q (met_tells {E = E} Nothing) refl refl (ap (λ (x : PolledPeer I D S M N). x.core.sctp.association) h.1) (ap (λ (x : PolledPeer I D S M N). x.core.media) h.1)
      (grows_quiet (m.dtls.faults p.core.dtls.instance) (m.dtls.faults q.core.dtls.instance) false refl (gives_later m.dtls laws.dtls p.core.dtls p.core.dtls.packets None q.core.dtls h.0))
  packets_count addr p (Transmit transmit) q h =
      dtls_counts m p q (met_tells {E = E} (Transmit transmit)) refl refl (ap (λ (x : PolledPeer I D S M N). x.core.sctp.association) h.2) (ap (λ (x : PolledPeer I D S M N). x.core.media) h.2)
      (grows_quiet (m.dtls.faults p.core.dtls.instance) (m.dtls.faults q.core.dtls.instance) false refl
      (gives_later m.dtls laws.dtls p.core.dtls p.core.dtls.packets (Some transmit.contents) q.core.dtls h.1))
  packets_count addr p _ q h = absurd h

  media_sent_counts : (addr : SendAddr) → CountsStage m (SendsMediaDatagram m addr)
  unfolding SendsMediaDatagram
  media_sent_counts addr p Nothing q h =
      media_counts m p q (met_tells {E = E} Nothing) refl refl (ap (λ (x : PolledPeer I D S M N). x.core.sctp.association) h.1) (ap (λ (x : PolledPeer I D S M N). x.core.dtls.instance) h.1)
      (grows_quiet (m.media.faults p.core.media) (m.media.faults q.core.media) false refl (same_media m p q (laws.media.datagram_none p.core.media q.core.media p.core.greatest h.0)))
  media_sent_counts addr p (Transmit transmit) q h =
      media_counts m p q (met_tells {E = E} (Transmit transmit)) refl refl (ap (λ (x : PolledPeer I D S M N). x.core.sctp.association) h.2) (ap (λ (x : PolledPeer I D S M N). x.core.dtls.instance) h.2)
      (grows_quiet (m.media.faults p.core.media) (m.media.faults q.core.media) false refl
      (laws.media.faults_rise p.core.media q.core.media (MediaTaken transmit.contents) (p.core.greatest, h.1)))
  media_sent_counts addr p _ q h = absurd h

  sends_count : (addr : Option SendAddr) (p : PolledPeer I D S M N) (r : Met E) (q : PolledPeer I D S M N) → SendsBy m addr p r q → Counts m p (met_tells r) q
  sends_count (Some addr) p r q h = else_counts m (SendsDtlsPacket m addr) (SendsMediaDatagram m addr) (packets_count addr) (media_sent_counts addr) p r q h
  sends_count None p r q h =
      quiet_counts m p q (met_tells r) (λ part. ap (λ (x : Met E). met_tells x part) h.0) (
      record {
        dtls = same_dtls m p q (ap (λ (x : PolledPeer I D S M N). x.core.dtls.instance) h.2);
        media = laws.media.faults_rise p.core.media q.core.media (MediaStirred Other) (inr (inr (FeedbackCleared h.1)));
        association = same_association m p q (ap (λ (x : PolledPeer I D S M N). x.core.sctp.association) h.2);
      }
      )

  datagrams_count : CountsStage m (SendsDatagrams m)
  unfolding SendsDatagrams
  datagrams_count = else_counts m (SendsChecks m) (SendsByPair m) checks_count (λ p r q h. sends_count p.transport.send_addr p r q h)

  -- ---- the walk

  visits_count : CountsStage m (VisitsParts m)
  unfolding VisitsParts
  visits_count =
      else_counts m (TellsConnection m) _ (connection_counts m laws)
      (else_counts m (TellsStreams m) _ (streams_count m laws)
      (else_counts m (TellsArrivals m) _ arrivals_count
      (else_counts m (SendsDatagrams m) StartsOverWhenDue datagrams_count
      (λ p r q h. still m p p (if is_dtls_due p then Again else Nothing) r q (over_untold E (is_dtls_due p)) h.0 h.1 (record { dtls = refl; media = refl; association = refl })))))

  -- an answer that tells no fault, of a peer whose parts stay
  answered : (p n : PolledPeer I D S M N) (s answer : Result (Output E) RtcError) (q : PolledPeer I D S M N) → ((part : CountedPart) → answer_tells s part ≡ false)
      → answer ≡ s → q ≡ n → SameParts m n p → Counts m p (answer_tells answer) q
  answered p n s answer q quiet same is parts =
      still_counts m p n q (answer_tells answer) (λ part. ap (λ (x : Result (Output E) RtcError). answer_tells x part) same ∙ quiet part) is parts

  waits_count : (complete : Bool) (p : PolledPeer I D S M N) (answer : Result (Output E) RtcError) (q : PolledPeer I D S M N)
      → WaitsIf m complete p answer q → Counts m p (answer_tells answer) q
  waits_count true p answer q h = answered p _ _ answer q (λ part. refl) h.0 h.1 (record { dtls = refl; media = refl; association = refl })
  waits_count false p answer q h = answered p _ _ answer q (λ part. refl) h.0 h.1 (record { dtls = refl; media = refl; association = refl })

  met_counts : (met : Met E) (p v : PolledPeer I D S M N) (answer : Result (Output E) RtcError) (q : PolledPeer I D S M N)
      → Counts m p (met_tells met) v → AnswersMet m met v answer q → Counts m p (answer_tells answer) q
  met_counts Nothing p v answer q first h =
      counts_on m p v q (answer_tells answer) (later_of m p (met_tells {E = E} Nothing) v first) (waits_count (is_closing_complete m v) v answer q h)
  met_counts Again p v answer q first h = absurd h
  met_counts (Transmit transmit) p v answer q first h =
      counts_on m p v q (answer_tells answer) (later_of m p (met_tells {E = E} (Transmit transmit)) v first) (answered v v _ answer q (λ part. refl) h.0 h.1 (record { dtls = refl; media = refl; association = refl }))
  met_counts (MetEvent event) p v answer q first h =
      counts_on m p v q (answer_tells answer) (later_of m p (met_tells (MetEvent event)) v first) (answered v v _ answer q (λ part. refl) h.0 h.1 (record { dtls = refl; media = refl; association = refl }))
  met_counts (Error error) p v answer q first h =
      counts_as m p q (met_tells {E = E} (Error error)) (answer_tells answer) (λ part. ap (λ (x : Result (Output E) RtcError). answer_tells x part) h.0)
      (subst (λ (x : PolledPeer I D S M N). Counts m p (met_tells {E = E} (Error error)) x) (sym h.1) first)

  walks_count : (p : PolledPeer I D S M N) (answer : Result (Output E) RtcError) (q : PolledPeer I D S M N) → Walks m p answer q → Counts m p (answer_tells answer) q
  walks_count p answer q h =
      met_counts h.met p h.visited answer q (repeats_count m (VisitsParts m) visits_count p h.met h.visited h.by_visits) h.by_answer

  polls_from_count : (phase : Phase) (p : PolledPeer I D S M N) (answer : Result (Output E) RtcError) (q : PolledPeer I D S M N)
      → PollsPeerFrom m phase p answer q → Counts m p (answer_tells answer) q
  polls_from_count Alive p answer q h = walks_count p answer q h
  polls_from_count Closing p answer q h = walks_count p answer q h
  polls_from_count Closed p answer q h = answered p _ _ answer q (λ part. refl) h.0 h.1 (record { dtls = refl; media = refl; association = refl })

  -- a poll
  pub poll_counts : (p : PolledPeer I D S M N) (answer : Result (Output E) RtcError) (q : PolledPeer I D S M N) → PollsPeer m p answer q
      → Counts m p (answer_tells answer) q
  poll_counts p answer q h = polls_from_count p.core.phase p answer q h
