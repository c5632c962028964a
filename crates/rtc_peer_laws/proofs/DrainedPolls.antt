-- A peer that answered a timeout answers it again.
use Rattle.std.proofs.Common.{◌≡◌, ◌≢◌, ◌≤◌, ◌-◌, ◌^◌, inl, inr, ℕ, Bool, true, false, Result, Ok, Err, refl, sym, ap, subst, ◌∙◌, arith}
use Rattle.std.specs.Prelude.{max}
use Rattle.rtc_parts.specs.declared.reason.Reason.{Reason}
use Rattle.rtc_parts.specs.declared.reason.Reason.TheVariants.{NotHappening}
use Rattle.rtc_peer_core.specs.declared.phase.Phase.{Phase}
use Rattle.rtc_peer_core.specs.declared.phase.Phase.TheVariants.{Alive, Closing, Closed}
use Rattle.rtc_peer_core.specs.declared.rtc_error.RtcError.{RtcError}
use Rattle.rtc_peer_core.specs.declared.rtc_error.RtcError.TheVariants.{Alloc}
use Rattle.rtc_peer_core.specs.Meanings.{Meanings, PartsLaws}
use Rattle.rtc_peer_transport.specs.declared.met.Met.{Met}
use Rattle.rtc_peer_transport.specs.declared.met.Met.TheVariants.{Nothing, Again, Transmit, Event as MetEvent, Error}
use Rattle.rtc_peer_transport.specs.declared.output.Output.{Output}
use Rattle.rtc_peer_transport.specs.declared.output.Output.TheVariants.{Timeout}
use Rattle.rtc_peer_transport.specs.declared.polled_peer.PolledPeer.{PolledPeer}
use Rattle.rtc_peer_transport.specs.Closing.{is_closing_complete}
use Rattle.rtc_peer_transport.specs.Deadlines.{least_deadline, wake_moment}
use Rattle.rtc_peer_polling.specs.Walk.{VisitsParts, Waits, WaitsIf, AnswersMet, Walks, PollsPeerFrom, PollsPeer, with_reason}
use Rattle.rtc_peer_laws.specs.Drained.{AnswersAgain}
use Rattle.rtc_peer_polling.proofs.RestingConnection.{Rests, repeats_rest}
use Rattle.rtc_peer_polling.proofs.RestingStages.{Drained, drained_rests}
use Rattle.rtc_peer_polling.proofs.KeptTurns.{phase_of_peer, turns_keep, visits_kept}
use Rattle.rtc_peer_polling.proofs.Draining.{visit_drains}

module _ {I D S M E X T W N : Type 0} (m : Meanings I D S M E X T W N) where
  -- how a poll that answered a timeout ended: the peer is closed, or a visit met nothing and it waits
  pub data Ends (moment : ℕ) (q : PolledPeer I D S M N) : Type 0 where
    AtRest : q.core.phase ≡ Closed → moment ≡ 2 ^ 64 - 1 → q.transport.last_reason ≡ NotHappening → Ends moment q
    Waiting : (last visited : PolledPeer I D S M N) → VisitsParts m last Nothing visited → visited.core.phase ≢ Closed
        → is_closing_complete m visited ≡ false → moment ≡ wake_moment m visited → q ≡ with_reason (least_deadline m visited).1 visited → Ends moment q

  moment_is : (a b : ℕ) → ◌≡◌ {A = Result (Output E) RtcError} (Ok (Timeout a)) (Ok (Timeout b)) → a ≡ b
  moment_is a b e = cc (e)

  waits_end : (complete : Bool) (moment : ℕ) (last visited q : PolledPeer I D S M N) → VisitsParts m last Nothing visited → visited.core.phase ≢ Closed
      → is_closing_complete m visited ≡ complete → WaitsIf m complete visited (Ok (Timeout moment)) q → Ends moment q
  waits_end true moment last visited q visit phase is h =
      AtRest (ap (λ (x : PolledPeer I D S M N). x.core.phase) h.1) (moment_is moment (2 ^ 64 - 1) h.0)
      (ap (λ (x : PolledPeer I D S M N). x.transport.last_reason) h.1)
  waits_end false moment last visited q visit phase is h = Waiting last visited visit phase is (moment_is moment (wake_moment m visited) h.0) h.1

  met_ends : (met : Met E) (moment : ℕ) (last visited q : PolledPeer I D S M N) → VisitsParts m last met visited → visited.core.phase ≢ Closed
      → AnswersMet m met visited (Ok (Timeout moment)) q → Ends moment q
  met_ends Nothing moment last visited q visit phase h = waits_end (is_closing_complete m visited) moment last visited q visit phase refl h
  met_ends Again moment last visited q visit phase h = absurd h
  met_ends (Transmit transmit) moment last visited q visit phase h = cc (h.0)
  met_ends (MetEvent event) moment last visited q visit phase h = cc (h.0)
  met_ends (Error error) moment last visited q visit phase h = cc (h.0)

  -- a walk that met nothing leaves the phase
  visited_phase : (met : Met E) (last visited : PolledPeer I D S M N) → last.core.phase ≢ Closed → VisitsParts m last met visited → (met ≡ Nothing)
      → visited.core.phase ≢ Closed
  visited_phase Nothing last visited live visit is = λ closed. live (sym (visits_kept m last Nothing visited visit) ∙ closed)
  visited_phase Again last visited live visit is = cc (is)
  visited_phase (Transmit transmit) last visited live visit is = cc (is)
  visited_phase (MetEvent event) last visited live visit is = cc (is)
  visited_phase (Error error) last visited live visit is = cc (is)

  nothing_met : (met : Met E) (moment : ℕ) (visited q : PolledPeer I D S M N) → AnswersMet m met visited (Ok (Timeout moment)) q → met ≡ Nothing
  nothing_met Nothing moment visited q h = refl
  nothing_met Again moment visited q h = absurd h
  nothing_met (Transmit transmit) moment visited q h = cc (h.0)
  nothing_met (MetEvent event) moment visited q h = cc (h.0)
  nothing_met (Error error) moment visited q h = cc (h.0)

  walk_ends : (moment : ℕ) (p q : PolledPeer I D S M N) → p.core.phase ≢ Closed → Walks m p (Ok (Timeout moment)) q → Ends moment q
  walk_ends moment p q live h =
      let v = h.by_visits in
      let kept = turns_keep phase_of_peer (VisitsParts m) (visits_kept m) v.turns p v.last v.over in
      let phase = visited_phase h.met v.last h.visited (λ closed. live (sym kept ∙ closed)) v.ends (nothing_met h.met moment h.visited q h.by_answer) in
      met_ends h.met moment v.last h.visited q v.ends phase h.by_answer

  pub poll_ends : (phase : Phase) (moment : ℕ) (p q : PolledPeer I D S M N) → p.core.phase ≡ phase → PollsPeerFrom m phase p (Ok (Timeout moment)) q
      → Ends moment q
  poll_ends Alive moment p q is h = walk_ends moment p q (λ closed. let clash : Alive ≡ Closed = sym is ∙ closed in cc) h
  poll_ends Closing moment p q is h = walk_ends moment p q (λ closed. let clash : Closing ≡ Closed = sym is ∙ closed in cc) h
  poll_ends Closed moment p q is h =
      AtRest (ap (λ (x : PolledPeer I D S M N). x.core.phase) h.1 ∙ is) (moment_is moment (2 ^ 64 - 1) h.0)
      (ap (λ (x : PolledPeer I D S M N). x.transport.last_reason) h.1)

  -- a closed peer that rests, polled again
  rest_again : (moment : ℕ) (q : PolledPeer I D S M N) (answer : Result (Output E) RtcError) (s : PolledPeer I D S M N) → q.core.phase ≡ Closed
      → moment ≡ 2 ^ 64 - 1 → q.transport.last_reason ≡ NotHappening → PollsPeer m q answer s → (answer ≡ Ok (Timeout moment)) × (s ≡ q)
  rest_again moment q answer s closed is reason h =
      let rests = subst (λ (x : Phase). PollsPeerFrom m x q answer s) closed h in
      (rests.0 ∙ ap (λ (n : ℕ). Ok (Timeout n)) (sym is), rests.1 ∙ ap (λ (r : Reason). with_reason r q) (sym reason))

  -- a peer that is not closed is polled by a walk
  walks_by : (phase : Phase) (q : PolledPeer I D S M N) (answer : Result (Output E) RtcError) (s : PolledPeer I D S M N) → phase ≢ Closed
      → PollsPeerFrom m phase q answer s → Walks m q answer s
  walks_by Alive q answer s live h = h
  walks_by Closing q answer s live h = h
  walks_by Closed q answer s live h = absurd (live refl)

  module _ (laws : PartsLaws m) where
    met_again : (met : Met E) (n visited : PolledPeer I D S M N) (answer : Result (Output E) RtcError) (s : PolledPeer I D S M N) (moment : ℕ)
        → is_closing_complete m n ≡ false → wake_moment m n ≡ moment → with_reason (least_deadline m n).1 n ≡ n → Rests n met visited
        → AnswersMet m met visited answer s → AnswersAgain moment n answer s
    met_again Nothing n visited answer s moment unclosed wake reason (inl rests) h =
        let waits = subst (λ (x : PolledPeer I D S M N). Waits m x answer s) rests.1 h in
        let own = subst (λ (b : Bool). WaitsIf m b n answer s) unclosed waits in
        inl (own.0 ∙ ap (λ (k : ℕ). Ok (Timeout k)) wake, own.1 ∙ reason)
    met_again Nothing n visited answer s moment unclosed wake reason (inr lacks) h = cc (lacks)
    met_again Again n visited answer s moment unclosed wake reason rests h = absurd h
    met_again (Transmit transmit) n visited answer s moment unclosed wake reason (inl rests) h = cc (rests.0)
    met_again (Transmit transmit) n visited answer s moment unclosed wake reason (inr lacks) h = cc (lacks)
    met_again (MetEvent event) n visited answer s moment unclosed wake reason (inl rests) h = cc (rests.0)
    met_again (MetEvent event) n visited answer s moment unclosed wake reason (inr lacks) h = cc (lacks)
    met_again (Error error) n visited answer s moment unclosed wake reason (inl rests) h = cc (rests.0)
    met_again (Error error) n visited answer s moment unclosed wake reason (inr lacks) h =
        let is : error ≡ Alloc = cc (lacks) in
        inr (h.0 ∙ ap (λ (e : RtcError). Err e) is)

    -- the peer that waits differs by its reason alone
    drained_with : (reason : Reason) (p : PolledPeer I D S M N) → Drained m laws p → Drained m laws (with_reason reason p)
    drained_with reason p d =
        record { ice = d.ice; due = d.due; dtls = d.dtls; told = d.told; streams = d.streams; media = d.media; sent = d.sent; reports = d.reports }

    waiting_again : (last v : PolledPeer I D S M N) (reason : Reason) (moment : ℕ) (answer : Result (Output E) RtcError) (s : PolledPeer I D S M N)
        → VisitsParts m last Nothing v → v.core.phase ≢ Closed → is_closing_complete m v ≡ false → moment ≡ wake_moment m v
        → reason ≡ (least_deadline m v).1 → PollsPeer m (with_reason reason v) answer s
        → AnswersAgain moment (with_reason reason v) answer s
    waiting_again last v reason moment answer s visit live unclosed is by h =
        let n : PolledPeer I D S M N = with_reason reason v in
        let drained = drained_with reason v (visit_drains m laws last v visit) in
        let walk = walks_by v.core.phase n answer s live h in
        let rests = repeats_rest (VisitsParts m) n (drained_rests m laws n drained) walk.met walk.visited walk.by_visits in
        met_again walk.met n walk.visited answer s moment unclosed (sym is)
        (ap (λ (r : Reason). with_reason r v) (sym by)) rests walk.by_answer

    again_by : (moment : ℕ) (q : PolledPeer I D S M N) (answer : Result (Output E) RtcError) (s : PolledPeer I D S M N) → Ends moment q
        → PollsPeer m q answer s → AnswersAgain moment q answer s
    again_by moment q answer s (AtRest closed is reason) h = inl (rest_again moment q answer s closed is reason h)
    again_by moment q answer s (Waiting last v visit live unclosed is at) h =
        subst (λ (x : PolledPeer I D S M N). AnswersAgain moment x answer s) (sym at)
        (waiting_again last v (least_deadline m v).1 moment answer s visit live unclosed is refl
        (subst (λ (x : PolledPeer I D S M N). PollsPeer m x answer s) at h))

    -- a peer that answered a timeout, polled again
    pub polled_again : (p q s : PolledPeer I D S M N) (moment : ℕ) (answer : Result (Output E) RtcError) → PollsPeer m p (Ok (Timeout moment)) q
        → PollsPeer m q answer s → AnswersAgain moment q answer s
    polled_again p q s moment answer first second = again_by moment q answer s (poll_ends p.core.phase moment p q refl first) second

  closed_by : (moment : ℕ) (q : PolledPeer I D S M N) → Ends moment q → q.core.phase ≡ Closed
      → (moment ≡ 2 ^ 64 - 1) × (q.transport.last_reason ≡ NotHappening)
  closed_by moment q (AtRest closed is reason) at = (is, reason)
  closed_by moment q (Waiting last v visit live unclosed is same) at = absurd (live (sym (ap (λ (x : PolledPeer I D S M N). x.core.phase) same) ∙ at))

  pub closed_again : (p q s : PolledPeer I D S M N) (moment : ℕ) (answer : Result (Output E) RtcError) → PollsPeer m p (Ok (Timeout moment)) q
      → q.core.phase ≡ Closed → PollsPeer m q answer s → (answer ≡ Ok (Timeout moment)) × (s ≡ q)
  closed_again p q s moment answer first closed second =
      let by = closed_by moment q (poll_ends p.core.phase moment p q refl first) closed in
      rest_again moment q answer s closed by.0 by.1 second

  pub closed_wake : (p q : PolledPeer I D S M N) (moment : ℕ) → PollsPeer m p (Ok (Timeout moment)) q → q.core.phase ≡ Closed → moment ≡ 2 ^ 64 - 1
  closed_wake p q moment first closed = (closed_by moment q (poll_ends p.core.phase moment p q refl first) closed).0

  wake_by : (moment : ℕ) (q : PolledPeer I D S M N) → Ends moment q → q.core.phase ≢ Closed → q.core.greatest ≤ moment
  wake_by moment q (AtRest closed is reason) live = absurd (live closed)
  wake_by moment q (Waiting last v visit alive unclosed is same) live =
      let greatest : q.core.greatest ≡ v.core.greatest = ap (λ (x : PolledPeer I D S M N). x.core.greatest) same in
      subst (λ (n : ℕ). q.core.greatest ≤ n) (sym is) (subst (λ (n : ℕ). n ≤ wake_moment m v) (sym greatest) (max_left v.core.greatest (least_deadline m v).0))
    where
      max_left : (a b : ℕ) → a ≤ max a b
      max_left a b = grind arith

  pub live_wake : (p q : PolledPeer I D S M N) (moment : ℕ) → PollsPeer m p (Ok (Timeout moment)) q → q.core.phase ≢ Closed → q.core.greatest ≤ moment
  live_wake p q moment first live = wake_by moment q (poll_ends p.core.phase moment p q refl first) live
