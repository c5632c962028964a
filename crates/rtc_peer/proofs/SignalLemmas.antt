-- What is known while a signal is off outlives calls that leave it off.
use Rattle.std.specs.Prelude.{max}
use Rattle.std.proofs.Common.{if◌then◌else◌, ◌≡◌, ◌≢◌, ◌-◌, ◌^◌, ℕ, Bool, true, false, List, Option, Some, Result, Ok, refl, sym, ap, subst, ◌∙◌}
use Rattle.rtc_parts.specs.declared.reason.Reason.{Reason}
use Rattle.rtc_parts.specs.declared.reason.Reason.TheVariants.{DTLS, Ice, Sctp, Channel, Stats as StatsReason}
use Rattle.rtc_sdp_values.specs.declared.ssrc.Ssrc.{Ssrc}
use Rattle.rtc_ready.specs.Signals.{Signals, both}
use Rattle.rtc_sctp.specs.Calls.{streams_wake}
use Rattle.rtc_channels.specs.Openings.{channels_wake}
use Rattle.rtc_peer_core.specs.declared.phase.Phase.{Phase}
use Rattle.rtc_peer_core.specs.declared.phase.Phase.TheVariants.{Alive, Closing, Closed}
use Rattle.rtc_peer_core.specs.Meanings.{Meanings, PartsLaws}
use Rattle.rtc_peer_core.specs.declared.rtc_error.RtcError.{RtcError}
use Rattle.rtc_peer_transport.specs.declared.met.Met.{Met}
use Rattle.rtc_peer_transport.specs.declared.met.Met.TheVariants.{Nothing, Again, Transmit, Event, Error}
use Rattle.rtc_peer_transport.specs.declared.output.Output.{Output}
use Rattle.rtc_peer_transport.specs.declared.output.Output.TheVariants.{Timeout}
use Rattle.rtc_peer_transport.specs.declared.polled_peer.PolledPeer.{PolledPeer}
use Rattle.rtc_peer_transport.specs.Closing.{is_closing_complete}
use Rattle.rtc_peer_transport.specs.Connection.{closed_peer}
use Rattle.rtc_peer_transport.specs.Deadlines.{least_deadline, wake_moment, sooner, wanted_for}
use Rattle.rtc_peer_transport.specs.Stages.{RepeatsStage}
use Rattle.rtc_peer_transport.specs.Statistics.{stats_wake}
use Rattle.rtc_peer_polling.specs.Walk.{VisitsParts, Waits, WaitsIf, RestsClosed, Walks, AnswersMet, PollsPeerFrom, PollsPeer, with_reason}
use Rattle.rtc_peer_polling.proofs.QuietVisits.{repeats_once, visited_quiet}
use Rattle.rtc_peer_polling.proofs.KeptTurns.{phase_of_peer, turns_keep, visits_kept}
use Rattle.rtc_peer_polling.proofs.Draining.{visit_drains}
use Rattle.rtc_peer_direct.specs.SourcesAndFeedback.{SendsAppFeedback}
use Rattle.rtc_peer.specs.CachedPeer.{CachedPeer, AnswersKept, polled_of, kept_if, kept_in, kept_timeout_of}
use Rattle.rtc_peer.specs.PeerSignals.{MeetsNothing, IsTimed, AreSignals, MeetsParts, EndsClosing}

module _ {I D S M E X T W N : Type 0} (m : Meanings I D S M E X T W N) (laws : PartsLaws m) where
  -- the least deadline, by what the media part waits for
  abbrev least_by : PolledPeer I D S M N → Option (ℕ × Reason) → ℕ × Reason
  least_by p wanted =
      sooner
      (sooner
      (sooner (sooner (sooner (p.transport.dtls_wake, DTLS) (wanted_for Ice (m.ice.wake p.core.ice))) wanted)
      (wanted_for Sctp (streams_wake m.association p.core.sctp)))
      (wanted_for Channel (channels_wake m.association p.core.channels p.core.sctp)))
      (wanted_for StatsReason (stats_wake p.transport.stats))

  -- feedback of the application moves no timer
  pub feedback_timed : (sender source : Ssrc) (payload : List ℕ) (r : _) (p q : PolledPeer I D S M N) (kept : ℕ)
      → SendsAppFeedback m.media sender source payload p r q → IsTimed m p kept → IsTimed m q kept
  feedback_timed sender source payload r p q kept h k =
      let wake = laws.media.app_wake p.core.media q.core.media sender source payload r h.0 in
      let least = ap (λ (o : Option (ℕ × Reason)). least_by p o) wake in
      subst (λ (x : PolledPeer I D S M N). IsTimed m x kept) (sym h.1)
      (record { moment = k.moment ∙ ap (λ (l : ℕ × Reason). max p.core.greatest l.0) (sym least); reason = k.reason ∙ ap (λ (l : ℕ × Reason). l.1) (sym least) })

  -- what is known outlives feedback of the application, which wakes events alone
  pub feedback_signals : (sender source : Ssrc) (payload : List ℕ) (r : _) (p q : PolledPeer I D S M N) (before after : Signals) (kept : ℕ)
      → SendsAppFeedback m.media sender source payload p r q → after ≡ record before { events = true } → AreSignals m p before kept
      → AreSignals m q after kept
  feedback_signals sender source payload r p q before after kept h is known = record {
    events = λ off. let clash : true ≡ false = sym (ap (λ (s : Signals). s.events) is) ∙ off in absurd (cc);
    timeout = λ off. feedback_timed sender source payload r p q kept h (known.timeout (sym (ap (λ (s : Signals). s.timeout) is) ∙ off));
  }

  -- what a walk that met nothing leaves, for whatever reason the last timeout was
  pub walked_quiet : (p q : PolledPeer I D S M N) (reason : Reason) → RepeatsStage (VisitsParts m) p Nothing q → is_closing_complete m q ≡ false
      → MeetsNothing m (with_reason reason q)
  walked_quiet p q reason h complete = record {
    walk = visited_quiet m laws h.last q reason h.ends;
    due = (visit_drains m laws h.last q h.ends).due;
    closing = complete;
  }

  -- a quiet peer is so for whatever reason the last timeout was
  pub quiet_with : (p : PolledPeer I D S M N) (reason : Reason) → MeetsNothing m p → MeetsNothing m (with_reason reason p)
  quiet_with p reason h = walked_quiet p p reason (repeats_once (VisitsParts m) p p h.walk) h.closing

  -- a walk over a quiet peer
  pub quiet_met : (p : PolledPeer I D S M N) → MeetsNothing m p → MeetsParts m p Nothing p
  quiet_met p h = record { visited = p; by_visits = repeats_once (VisitsParts m) p p h.walk; by_end = rw h.closing refl }

  -- once a walk met nothing, and the closing is not complete
  pub signals_walked : (p q : PolledPeer I D S M N) (signals cleared : Signals) (kept : ℕ) → RepeatsStage (VisitsParts m) p Nothing q
      → is_closing_complete m q ≡ false → signals ≡ both → cleared ≡ record signals { events = false } → AreSignals m q cleared kept
  signals_walked p q signals cleared kept walked unclosed is cleared_is = record {
    events = λ off. walked_quiet p q q.transport.last_reason walked unclosed;
    timeout = λ off.
        let clash : true ≡ false = sym (ap (λ (s : Signals). s.timeout) (cleared_is ∙ ap (λ (s : Signals). record s { events = false }) is)) ∙ off in
        absurd (cc);
  }

  -- once the deadlines were read
  pub signals_waiting : (p : PolledPeer I D S M N) (signals cleared : Signals) (before kept : ℕ) (least : ℕ × Reason) → AreSignals m p signals before
      → cleared ≡ record signals { timeout = false } → least ≡ least_deadline m p → kept ≡ max p.core.greatest least.0
      → AreSignals m (with_reason least.1 p) cleared kept
  signals_waiting p signals cleared before kept least known is read most = record {
    events = λ off. quiet_with p least.1 (known.events (sym (ap (λ (s : Signals). s.events) is) ∙ off));
    timeout = λ off. record {
      moment = most ∙ ap (λ (x : ℕ × Reason). max p.core.greatest x.0) read;
      reason = ap (λ (x : ℕ × Reason). x.1) read;
    };
  }

pub timeout_is : {E : Type 0} (a b : ℕ) → ◌≡◌ {A = Result (Output E) RtcError} (Ok (Timeout a)) (Ok (Timeout b)) → a ≡ b
timeout_is a b e = cc (e)

-- the moment is kept by a peer that is not closed if neither signal is set
pub kept_alive : (phase : Phase) (events timeout : Bool) (kept moment : ℕ) → phase ≢ Closed → events ≡ false → timeout ≡ false → kept ≡ moment
    → kept_in phase (record { events = events; timeout = timeout }) kept ≡ Some moment
kept_alive Alive events timeout kept moment live e t k = rw (e, t, k) refl
kept_alive Closing events timeout kept moment live e t k = rw (e, t, k) refl
kept_alive Closed events timeout kept moment live e t k = absurd (live refl)

-- if a moment is kept, neither signal is set
pub kept_signals : (events timeout : Bool) (kept moment : ℕ) → kept_if events timeout kept ≡ Some moment
    → (events ≡ false) × (timeout ≡ false) × (kept ≡ moment)
kept_signals true timeout kept moment h = cc (h)
kept_signals false true kept moment h = cc (h)
kept_signals false false kept moment h = (refl, refl, cc (h))

pub kept_closed : (phase : Phase) (signals : Signals) (kept : ℕ) → phase ≡ Closed → kept_in phase signals kept ≡ Some (2 ^ 64 - 1)
kept_closed phase signals kept is = rw is refl

-- what a walk met, with whether it ended the closing, and what is returned then
module _ {I D S M E X T W N : Type 0} (m : Meanings I D S M E X T W N) where
  -- a peer that is not closed is polled by a walk, and what that met ends it
  pub live_polls : (phase : Phase) (p : PolledPeer I D S M N) (answer : Result (Output E) RtcError) (q : PolledPeer I D S M N) → p.core.phase ≡ phase → phase ≢ Closed
      → Walks m p answer q → PollsPeer m p answer q
  live_polls Alive p answer q is live h = subst (λ (x : Phase). PollsPeerFrom m x p answer q) (sym is) h
  live_polls Closing p answer q is live h = subst (λ (x : Phase). PollsPeerFrom m x p answer q) (sym is) h
  live_polls Closed p answer q is live h = absurd (live refl)

  -- it met nothing, and the peer is not closed
  pub waits_open : (b : Bool) (visited q last : PolledPeer I D S M N) (moment : ℕ) (answer : Result (Output E) RtcError)
      → is_closing_complete m visited ≡ b → q ≡ (if b then closed_peer visited else visited) → q.core.phase ≢ Closed
      → answer ≡ Ok (Timeout moment) → moment ≡ wake_moment m q → last ≡ with_reason (least_deadline m q).1 q → Waits m visited answer last
  waits_open true visited q last moment answer complete is live ok at left =
      absurd (live (ap (λ (x : PolledPeer I D S M N). x.core.phase) is))
  waits_open false visited q last moment answer complete is live ok at left =
      subst (λ (b : Bool). WaitsIf m b visited answer last) (sym complete)
      (subst (λ (x : PolledPeer I D S M N). WaitsIf m false x answer last) is (ok ∙ ap (λ (n : ℕ). Ok (Timeout n)) at, left))

  -- it met nothing, and the closing was complete
  pub waits_closed : (b : Bool) (visited q last : PolledPeer I D S M N) (answer : Result (Output E) RtcError)
      → is_closing_complete m visited ≡ b → q ≡ (if b then closed_peer visited else visited) → q.core.phase ≡ Closed → visited.core.phase ≢ Closed
      → RestsClosed q answer last → Waits m visited answer last
  waits_closed true visited q last answer complete is closed live rests =
      subst (λ (b : Bool). WaitsIf m b visited answer last) (sym complete) (subst (λ (x : PolledPeer I D S M N). RestsClosed x answer last) is rests)
  waits_closed false visited q last answer complete is closed live rests =
      absurd (live (sym (ap (λ (x : PolledPeer I D S M N). x.core.phase) is) ∙ closed))

  -- a walk that met nothing leaves the phase
  pub walked_phase : (p q : PolledPeer I D S M N) → RepeatsStage (VisitsParts m) p Nothing q → q.core.phase ≡ p.core.phase
  walked_phase p q h =
      visits_kept m h.last Nothing q h.ends ∙ turns_keep phase_of_peer (VisitsParts m) (visits_kept m) h.turns p h.last h.over

-- what is shown of a poll
pub record PolledSo {I D S M E X T W N : Type 0} (m : Meanings I D S M E X T W N) (c : CachedPeer I D S M N) (answer : Result (Output E) RtcError) (d : CachedPeer I D S M N) : Type 0 where
  pub polls : PollsPeer m (polled_of c) answer (polled_of d)
  pub answers_kept : (moment : ℕ) → kept_timeout_of c ≡ Some moment → AnswersKept c.core.phase moment c answer d
  pub keeps : (moment : ℕ) → answer ≡ Ok (Timeout moment) → kept_timeout_of d ≡ Some moment

-- a peer that is not closed keeps a moment while neither signal is set
pub kept_live : (phase : Phase) (signals : Signals) (kept moment : ℕ) → phase ≢ Closed → kept_in phase signals kept ≡ Some moment
    → (signals.events ≡ false) × (signals.timeout ≡ false) × (kept ≡ moment)
kept_live Alive signals kept moment live h = kept_signals signals.events signals.timeout kept moment h
kept_live Closing signals kept moment live h = kept_signals signals.events signals.timeout kept moment h
kept_live Closed signals kept moment live h = absurd (live refl)

pub answers_live : {I D S M E N : Type 0} (phase : Phase) (moment : ℕ) (c : CachedPeer I D S M N) (answer : Result (Output E) RtcError) (d : CachedPeer I D S M N) → phase ≢ Closed
    → answer ≡ Ok (Timeout moment) → polled_of d ≡ polled_of c → AnswersKept phase moment c answer d
answers_live Alive moment c answer d live ok same = (ok, same)
answers_live Closing moment c answer d live ok same = (ok, same)
answers_live Closed moment c answer d live ok same = absurd (live refl)

module _ {I D S M E X T W N : Type 0} (m : Meanings I D S M E X T W N) where
  -- only a walk that met nothing may end a closing
  ends_other : (met : Met E) (v q : PolledPeer I D S M N) → met ≢ Nothing → EndsClosing m met v q → q ≡ v
  ends_other Nothing v q other h = absurd (other refl)
  ends_other Again v q other h = h
  ends_other (Transmit t) v q other h = h
  ends_other (Event e) v q other h = h
  ends_other (Error e) v q other h = h

  begins_other : (met : Met E) (v : PolledPeer I D S M N) → met ≢ Nothing → EndsClosing m met v v
  begins_other Nothing v other = absurd (other refl)
  begins_other Again v other = refl
  begins_other (Transmit t) v other = refl
  begins_other (Event e) v other = refl
  begins_other (Error e) v other = refl

  -- a walk that met something
  pub meets_other : (met : Met E) (p q v : PolledPeer I D S M N) → p ≡ q → met ≢ Nothing → RepeatsStage (VisitsParts m) p met v → MeetsParts m q met v
  meets_other met p q v is other h =
      subst (λ (x : PolledPeer I D S M N). MeetsParts m x met v) is (record { visited = v; by_visits = h; by_end = begins_other met v other })

  -- a walk that met nothing, with whether the closing is complete
  pub meets_nothing : (b : Bool) (p q v w : PolledPeer I D S M N) → p ≡ q → RepeatsStage (VisitsParts m) p Nothing v → is_closing_complete m v ≡ b
      → w ≡ (if b then closed_peer v else v) → MeetsParts m q Nothing w
  meets_nothing b p q v w is h complete ends =
      subst (λ (x : PolledPeer I D S M N). MeetsParts m x Nothing w) is
      (record { visited = v; by_visits = h; by_end = subst (λ (b : Bool). w ≡ (if b then closed_peer v else v)) (sym complete) ends })

  -- what was met is returned
  pub gives : (c d : CachedPeer I D S M N) (met : Met E) (answer : Result (Output E) RtcError) → c.core.phase ≢ Closed → MeetsParts m (polled_of c) met (polled_of d)
      → met ≢ Nothing → AnswersMet m met (polled_of d) answer (polled_of d) → (c.signals.events ≡ false → (met ≡ Nothing) × (d ≡ c))
      → ((moment : ℕ) → answer ≢ Ok (Timeout moment)) → PolledSo m c answer d
  gives c d met answer live h other by passed never = record {
    polls = live_polls m c.core.phase (polled_of c) answer (polled_of d) refl live (record {
      met = met;
      visited = polled_of d;
      by_visits = subst (λ (x : PolledPeer I D S M N). RepeatsStage (VisitsParts m) (polled_of c) met x) (sym (ends_other met h.visited (polled_of d) other h.by_end)) h.by_visits;
      by_answer = by;
    });
    answers_kept = λ moment kept. absurd (other (passed (kept_live c.core.phase c.signals c.kept moment live kept).0).0);
    keeps = λ moment e. absurd (never moment e);
  }

  -- nothing was met, and the peer waits
  pub waits : (c d e : CachedPeer I D S M N) (moment : ℕ) → c.core.phase ≢ Closed → MeetsParts m (polled_of c) Nothing (polled_of d)
      → d.core.phase ≢ Closed → (◌≡◌ {A = Met E} Nothing Nothing → d.core.phase ≢ Closed → d.signals.events ≡ false)
      → (c.signals.events ≡ false → ◌≡◌ {A = Met E} Nothing Nothing × (d ≡ c)) → moment ≡ wake_moment m (polled_of d)
      → polled_of e ≡ with_reason (least_deadline m (polled_of d)).1 (polled_of d) → e.signals ≡ record d.signals { timeout = false } → e.kept ≡ moment
      → (d.signals.timeout ≡ false → (moment ≡ d.kept) × (e ≡ d)) → PolledSo m c (Ok (Timeout moment)) e
  waits c d e moment live h alive quiet passed at reason signals kept rested = record {
    polls = live_polls m c.core.phase (polled_of c) (Ok (Timeout moment)) (polled_of e) refl live (record {
      met = Nothing;
      visited = h.visited;
      by_visits = h.by_visits;
      by_answer = waits_open m (is_closing_complete m h.visited) h.visited (polled_of d) (polled_of e) moment (Ok (Timeout moment)) refl h.by_end alive refl at reason;
    });
    answers_kept = λ other known.
        let off = kept_live c.core.phase c.signals c.kept other live known in
        let same : d ≡ c = (passed off.0).1 in
        let rest = rested (ap (λ (x : CachedPeer I D S M N). x.signals.timeout) same ∙ off.1) in
        answers_live c.core.phase other c (Ok (Timeout moment)) e live
        (ap (λ (n : ℕ). Ok (Timeout n)) (rest.0 ∙ ap (λ (x : CachedPeer I D S M N). x.kept) same ∙ off.2))
        (ap (λ (x : CachedPeer I D S M N). polled_of x) (rest.1 ∙ same));
    keeps = λ other known.
        kept_alive e.core.phase e.signals.events e.signals.timeout e.kept other
        (λ closed. alive (sym (ap (λ (x : PolledPeer I D S M N). x.core.phase) reason) ∙ closed))
        (ap (λ (s : Signals). s.events) signals ∙ quiet refl alive) (ap (λ (s : Signals). s.timeout) signals) (kept ∙ timeout_is {E = E} moment other known);
  }

  -- nothing was met, and the closing was complete
  pub ends : (c d e : CachedPeer I D S M N) (answer : Result (Output E) RtcError) → c.core.phase ≢ Closed → MeetsParts m (polled_of c) Nothing (polled_of d)
      → d.core.phase ≡ Closed → (c.signals.events ≡ false → ◌≡◌ {A = Met E} Nothing Nothing × (d ≡ c)) → RestsClosed (polled_of d) answer (polled_of e)
      → PolledSo m c answer e
  ends c d e answer live h closed passed rests = record {
    polls = live_polls m c.core.phase (polled_of c) answer (polled_of e) refl live (record {
      met = Nothing;
      visited = h.visited;
      by_visits = h.by_visits;
      by_answer = waits_closed m (is_closing_complete m h.visited) h.visited (polled_of d) (polled_of e) answer refl h.by_end closed
          (λ shut. live (sym (walked_phase m (polled_of c) h.visited h.by_visits) ∙ shut)) rests;
    });
    answers_kept = λ moment known.
        let off = kept_live c.core.phase c.signals c.kept moment live known in
        absurd (live (sym (ap (λ (x : CachedPeer I D S M N). x.core.phase) (passed off.0).1) ∙ closed));
    keeps = λ moment known.
        kept_closed e.core.phase e.signals e.kept (ap (λ (x : PolledPeer I D S M N). x.core.phase) rests.1 ∙ closed)
        ∙ ap (λ (n : ℕ). Some n) (timeout_is {E = E} (2 ^ 64 - 1) moment (sym rests.0 ∙ known));
  }
