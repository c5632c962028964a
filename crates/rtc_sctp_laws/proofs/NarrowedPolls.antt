-- Polls of streams whose association is not established: the moment that is kept changes none of them.
use Rattle.std.proofs.Common.{◌≡◌, ◌∙◌, ℕ, zero, suc, Bool, true, false, true≢false, List, [], ◌∷◌, Option, Some, None, Result, refl, sym, ap, subst}
use Rattle.std.specs.Prelude.{◌&&◌, not, if◌then◌else◌}
use Rattle.std.specs.List.{filter}
use Rattle.std.specs.declared.alloc.AllocError.{AllocError}
use Rattle.rtc_parts.specs.declared.assoc_event.AssocEvent.{AssocEvent}
use Rattle.rtc_parts.specs.declared.assoc_event.AssocEvent.TheVariants as assoc
use Rattle.rtc_parts.specs.AssociationMeaning.{AssociationMeaning}
use Rattle.rtc_ready.specs.Signals.{Signals}
use Rattle.rtc_sctp_entries.specs.declared.stream_entry.StreamEntry.{StreamEntry}
use Rattle.rtc_sctp_entries.specs.declared.sctp_event.SctpEvent.{SctpEvent}
use Rattle.rtc_sctp_entries.specs.declared.met.Met.{Met}
use Rattle.rtc_sctp_entries.specs.declared.met.Met.TheVariants.{Nothing, Again, Output, OutOfMemory}
use Rattle.rtc_sctp_entries.specs.Entries.{unclosed, is_closed_state}
use Rattle.rtc_sctp.specs.declared.rtc_sctp_state.RtcSctpState.{RtcSctpState}
use Rattle.rtc_sctp.specs.declared.rtc_sctp_state.RtcSctpState.TheVariants.{Uninited, AwaitRemoteAssociation, AwaitAssociationEstablished, Established}
use Rattle.rtc_sctp.specs.Streams.{SctpStreams, is_established}
use Rattle.rtc_sctp.specs.Calls.{timed_streams, TimedBy, streams_wake}
use Rattle.rtc_sctp.specs.Polls.{Book, book_of, AfterEvent, ThenBy, Else, unclosed_streams, CompletionOf, GivesCompletion, TransmitIf, TransmitOf, GivesTransmit, TakesEvent, NotStarted, NoRoom, NoEvent, Event, HandlesEvent, VisitsIf, VisitsEntries, TakesSteps, PassIf, MakesPass, Over, PollsStreams}
use Rattle.rtc_sctp.proofs.RestingLemmas.{transmit_awake, event_awake, visits_awake}
use Rattle.rtc_sctp_laws.specs.NarrowedTimeouts.{LeavesUnestablishedPolls}

filter_again : {X : Type 0} (f : X → Bool) (xs : List X) → filter f (filter f xs) ≡ filter f xs
filter_again f [] = refl
filter_again {X} f (x ∷ xs) = by (filter_again f xs) (f x) refl
  where
    by : filter f (filter f xs) ≡ filter f xs → (b : Bool) → f x ≡ b
        → filter f (if b then x ∷ filter f xs else filter f xs) ≡ (if b then x ∷ filter f xs else filter f xs)
    by rest true is = rw is (ap (λ (list : List X). x ∷ list) rest)
    by rest false is = rest

unclosed_again : (entries : List StreamEntry) → unclosed (unclosed entries) ≡ unclosed entries
unclosed_again entries = filter_again (λ (own : StreamEntry). not (is_closed_state own.state)) entries

-- ---- streams that did not rest do not after a pass that made work

module _ {S : Type 0} where
  then_awake : (next : SctpStreams S → Met → SctpStreams S → Type 0) (own : Met) (x y : SctpStreams S)
      → ((z : SctpStreams S) → z.rests ≡ false → next z Again y → y.rests ≡ false) → x.rests ≡ false → ThenBy next own x Again y → y.rests ≡ false
  then_awake next Nothing x y later e h = later x e h
  then_awake next Again x y later e h = ap (λ (s : SctpStreams S). s.rests) h.1 ∙ e
  then_awake next (Output o) x y later e h = ap (λ (s : SctpStreams S). s.rests) h.1 ∙ e
  then_awake next OutOfMemory x y later e h = ap (λ (s : SctpStreams S). s.rests) h.1 ∙ e

  else_awake : (first next : SctpStreams S → Met → SctpStreams S → Type 0)
      → ((x : SctpStreams S) (met : Met) (y : SctpStreams S) → x.rests ≡ false → first x met y → y.rests ≡ false)
      → ((x y : SctpStreams S) → x.rests ≡ false → next x Again y → y.rests ≡ false)
      → (x y : SctpStreams S) → x.rests ≡ false → Else first next x Again y → y.rests ≡ false
  else_awake first next keeps later x y e h =
      then_awake next h.0 h.1.0 y (λ z d k. later z y d k) (keeps x h.0 h.1.0 e h.1.1.0) h.1.1.1

  completion_awake : (l : List ℕ) (x y : SctpStreams S) → x.rests ≡ false → CompletionOf l x Again y → y.rests ≡ false
  completion_awake [] x y e h = cc (h.0)
  completion_awake (id ∷ rest) x y e h = ap (λ (s : SctpStreams S). s.rests) h.1 ∙ e

module _ {S : Type 0} (m : AssociationMeaning S) where
  steps_awake : (x y : SctpStreams S) → x.rests ≡ false → TakesSteps m x Again y → y.rests ≡ false
  unfolding TakesSteps
  steps_awake x y e h =
      else_awake (GivesTransmit m) (Else (HandlesEvent m) (Else (VisitsEntries m) GivesCompletion)) (transmit_awake m)
      (else_awake (HandlesEvent m) (Else (VisitsEntries m) GivesCompletion) (event_awake m)
      (else_awake (VisitsEntries m) GivesCompletion (visits_awake m) (λ z d k. completion_awake z.completed z d k))) (unclosed_streams x) y e h

  pass_awake : (x y : SctpStreams S) → x.rests ≡ false → MakesPass m x Again y → y.rests ≡ false
  unfolding MakesPass
  pass_awake x y e h = steps_awake x y e (subst (λ (b : Bool). PassIf m b x Again y) e h)

  pub over_awake : (n : ℕ) (x y : SctpStreams S) → x.rests ≡ false → Over m n x y → y.rests ≡ false
  over_awake zero x y e h = ap (λ (s : SctpStreams S). s.rests) h ∙ e
  over_awake (suc n) x y e h = pass_awake h.0 y (over_awake n x h.0 e h.1) h.2

-- ---- steps at another moment

abbrev pub kept_at : {S : Type 0} → ℕ → SctpStreams S → SctpStreams S
kept_at moment p = record p { last = moment }

module _ {S : Type 0} (m : AssociationMeaning S) (moment : ℕ) where
  abbrev Waits : SctpStreams S → Type 0
  Waits p = is_established p.state ≡ false

  -- a step that leaves streams waiting found them so, and does the same at the other moment
  abbrev Moves : (SctpStreams S → Met → SctpStreams S → Type 0) → Type 0
  Moves step = (x : SctpStreams S) (met : Met) (y : SctpStreams S) → Waits y → step x met y → Waits x × step (kept_at moment x) met (kept_at moment y)

  waited : (x y : SctpStreams S) → y.state ≡ x.state → Waits y → Waits x
  waited x y is w = subst (λ (s : RtcSctpState). is_established s ≡ false) is w

  moved : (x y : SctpStreams S) → y ≡ x → kept_at moment y ≡ kept_at moment x
  moved x y is = ap (λ (s : SctpStreams S). kept_at moment s) is

  stopped : (x y : SctpStreams S) → y ≡ x → Waits y → Waits x
  stopped x y is w = waited x y (ap (λ (s : SctpStreams S). s.state) is) w

  then_moves : (next : SctpStreams S → Met → SctpStreams S → Type 0) (own : Met) (x : SctpStreams S) (met : Met) (y : SctpStreams S) → Moves next
      → Waits y → ThenBy next own x met y → Waits x × ThenBy next own (kept_at moment x) met (kept_at moment y)
  then_moves next Nothing x met y later w h = later x met y w h
  then_moves next Again x met y later w h = (stopped x y h.1 w, (h.0, moved x y h.1))
  then_moves next (Output o) x met y later w h = (stopped x y h.1 w, (h.0, moved x y h.1))
  then_moves next OutOfMemory x met y later w h = (stopped x y h.1 w, (h.0, moved x y h.1))

  else_moves : (first next : SctpStreams S → Met → SctpStreams S → Type 0) → Moves first → Moves next → Moves (Else first next)
  else_moves first next now later x met y w h =
      let behind = then_moves next h.0 h.1.0 met y later w h.1.1.1 in
      let before = now x h.0 h.1.0 behind.0 h.1.1.0 in
      (before.0, (h.0, (kept_at moment h.1.0, (before.1, behind.1))))

  transmit_if_moves : (b : Bool) (x : SctpStreams S) (met : Met) (y : SctpStreams S) → Waits y → TransmitIf m b x met y
      → Waits x × TransmitIf m b (kept_at moment x) met (kept_at moment y)
  transmit_if_moves false x met y w h = (stopped x y h.1 w, (h.0, moved x y h.1))
  transmit_if_moves true x met y w h =
      (waited x y (ap (λ (s : SctpStreams S). s.state) h.1) w, (h.0, ap (λ (s : SctpStreams S). kept_at moment s) h.1))

  transmit_of_moves : (o : Option (List (List ℕ))) (x : SctpStreams S) (met : Met) (y : SctpStreams S) → Waits y → TransmitOf m o x met y
      → Waits x × TransmitOf m o (kept_at moment x) met (kept_at moment y)
  transmit_of_moves None x met y w h = transmit_if_moves (m.started x.association) x met y w h
  transmit_of_moves (Some packets) x met y w h =
      (waited x y (ap (λ (s : SctpStreams S). s.state) h.1) w, (h.0, ap (λ (s : SctpStreams S). kept_at moment s) h.1))

  transmit_moves : Moves (GivesTransmit m)
  transmit_moves x met y w h = transmit_of_moves x.pushed x met y w h

  book_waited : (b b' : Book) → b'.state ≡ b.state → is_established b'.state ≡ false → is_established b.state ≡ false
  book_waited b b' is w = subst (λ (s : RtcSctpState). is_established s ≡ false) is w

  after_waited : (e : AssocEvent) (b b' : Book) → is_established b'.state ≡ false → AfterEvent e b b' → is_established b.state ≡ false
  after_waited assoc.Connected b b' w h = absurd (true≢false (sym (ap (λ (x : Book). is_established x.state) h) ∙ w))
  after_waited assoc.Lost b b' w h = book_waited b b' (ap (λ (x : Book). x.state) h) w
  after_waited (assoc.Readable id) b b' w h = book_waited b b' (ap (λ (x : Book). x.state) h) w
  after_waited (assoc.Writable id) b b' w h = book_waited b b' (ap (λ (x : Book). x.state) h) w
  after_waited (assoc.Finished id) b b' w h = book_waited b b' (ap (λ (x : Book). x.state) h.1) w
  after_waited (assoc.ResetComplete id) b b' w h = book_waited b b' (ap (λ (x : Book). x.state) h) w
  after_waited (assoc.BufferedAmountLow id) b b' w h = book_waited b b' (ap (λ (x : Book). x.state) h) w

  event_waited : (a : S) (b : Book) (met : Met) (a' : S) (b' : Book) → TakesEvent m a b met a' b' → is_established b'.state ≡ false
      → is_established b.state ≡ false
  event_waited a b met a' b' (NotStarted s e f g) w = book_waited b b' (ap (λ (x : Book). x.state) g) w
  event_waited a b met a' b' (NoRoom e f g) w = book_waited b b' (ap (λ (x : Book). x.state) g) w
  event_waited a b met a' b' (NoEvent s k e g) w = book_waited b b' (ap (λ (x : Book). x.state) g) w
  event_waited a b met a' b' (Event event s k e g) w = after_waited event b b' w g

  event_moves : Moves (HandlesEvent m)
  event_moves x met y w h =
      (event_waited x.association (book_of x) met y.association (book_of y) h.0 w, (h.0, ap (λ (s : SctpStreams S). kept_at moment s) h.1))

  visits_state : (b : Bool) (x : SctpStreams S) (met : Met) (y : SctpStreams S) → VisitsIf m b x met y → y.state ≡ x.state
  visits_state false x met y h = ap (λ (s : SctpStreams S). s.state) h.1
  visits_state true x met y h = ap (λ (s : SctpStreams S). s.state) h.1

  visits_moves : Moves (VisitsEntries m)
  visits_moves x met y w h =
      let still = waited x y (visits_state (is_established x.state && m.started x.association) x met y h) w in
      let none = subst (λ (b : Bool). VisitsIf m (b && m.started x.association) x met y) still h in
      (still, subst (λ (b : Bool). VisitsIf m (b && m.started x.association) (kept_at moment x) met (kept_at moment y)) (sym still) (none.0, moved x y none.1))

  completion_of_moves : (l : List ℕ) (x : SctpStreams S) (met : Met) (y : SctpStreams S) → Waits y → CompletionOf l x met y
      → Waits x × CompletionOf l (kept_at moment x) met (kept_at moment y)
  completion_of_moves [] x met y w h =
      (waited x y (ap (λ (s : SctpStreams S). s.state) h.1) w, (h.0, ap (λ (s : SctpStreams S). kept_at moment s) h.1))
  completion_of_moves (id ∷ rest) x met y w h =
      (waited x y (ap (λ (s : SctpStreams S). s.state) h.1) w, (h.0, ap (λ (s : SctpStreams S). kept_at moment s) h.1))

  completion_moves : Moves GivesCompletion
  completion_moves x met y w h = completion_of_moves x.completed x met y w h

  -- the steps, of streams that are the same once closed entries are dropped, but for the moment
  steps_move : (x z : SctpStreams S) (met : Met) (y : SctpStreams S) → unclosed_streams z ≡ kept_at moment (unclosed_streams x) → Waits y
      → TakesSteps m x met y → Waits x × TakesSteps m z met (kept_at moment y)
  unfolding TakesSteps
  steps_move x z met y is w h =
      let k =
      else_moves (GivesTransmit m) (Else (HandlesEvent m) (Else (VisitsEntries m) GivesCompletion)) transmit_moves
      (else_moves (HandlesEvent m) (Else (VisitsEntries m) GivesCompletion) event_moves
      (else_moves (VisitsEntries m) GivesCompletion visits_moves completion_moves)) (unclosed_streams x) met y w h in
      (k.0, subst (λ (u : SctpStreams S). Else (GivesTransmit m) (Else (HandlesEvent m) (Else (VisitsEntries m) GivesCompletion)) u met (kept_at moment y)) (sym is) k.1)

  pass_moves : (x z : SctpStreams S) (met : Met) (y : SctpStreams S) → x.rests ≡ false → z.rests ≡ false
      → unclosed_streams z ≡ kept_at moment (unclosed_streams x) → Waits y → MakesPass m x met y → Waits x × MakesPass m z met (kept_at moment y)
  unfolding MakesPass
  pass_moves x z met y e f is w h =
      let k = steps_move x z met y is w (subst (λ (b : Bool). PassIf m b x met y) e h) in
      (k.0, subst (λ (b : Bool). PassIf m b z met (kept_at moment y)) (sym f) k.1)

  module _ (p p' : SctpStreams S) (e : p.rests ≡ false) (f : p'.rests ≡ false) (is : unclosed_streams p' ≡ kept_at moment (unclosed_streams p)) where
    run_moves : (n : ℕ) (b : SctpStreams S) (met : Met) (y : SctpStreams S) → Waits y → Over m n p b → MakesPass m b met y
        → (c : SctpStreams S) × (Over m n p' c × MakesPass m c met (kept_at moment y))
    run_moves zero b met y w over pass =
        (p', (refl, (pass_moves p p' met y e f is w (subst (λ (s : SctpStreams S). MakesPass m s met y) over pass)).1))
    run_moves (suc n) b met y w over pass =
        let awake = over_awake m (suc n) p b e over in
        let last = pass_moves b (kept_at moment b) met y awake awake refl w pass in
        let before = run_moves n over.0 Again b last.0 over.1 over.2 in
        (kept_at moment b, ((before.0, before.1.0, before.1.1), last.1))

    poll_moves : (r : Result (Option SctpEvent) AllocError) (y : SctpStreams S) → Waits y → PollsStreams m p r y → PollsStreams m p' r (kept_at moment y)
    poll_moves r y w h =
        let k = run_moves h.passes h.between h.met y w h.over h.last in
        record { passes = h.passes; between = k.0; met = h.met; over = k.1.0; last = k.1.1; answers = h.answers }

-- ---- timeouts

module _ {S : Type 0} (m : AssociationMeaning S) where
  same_polls : (p : SctpStreams S) → LeavesUnestablishedPolls m p p
  same_polls p = record {
    after = λ e r q w h. poll_moves m p.last p p e e refl r q w h;
    before = λ e r q w h. poll_moves m p.last p p e e refl r q w h;
  }

  timed_is : (now : ℕ) (p : SctpStreams S) → p.rests ≡ false
      → unclosed_streams (timed_streams now p) ≡ record p { last = now; entries = unclosed p.entries }
  timed_is now p e =
      ap (λ (entries : List StreamEntry). record p { last = now; entries = entries; rests = false }) (unclosed_again p.entries)
      ∙ ap (λ (b : Bool). record p { last = now; entries = unclosed p.entries; rests = b }) (sym e)

  timed_polls : (now : ℕ) (p : SctpStreams S) → LeavesUnestablishedPolls m p (timed_streams now p)
  timed_polls now p = record {
    after = λ e r q w h.
        poll_moves m p.last (timed_streams now p) p refl e (sym (ap (λ (s : SctpStreams S). kept_at p.last s) (timed_is now p e))) r q w h;
    before = λ e r q w h. poll_moves m now p (timed_streams now p) e refl (timed_is now p e) r q w h;
  }

  -- a mark that was cleared was not kept
  not_kept : (a b : Bool) → b ≡ a → a ≡ true → b ≡ false → ⊥
  not_kept a b same set cleared = true≢false (sym set ∙ (sym same ∙ cleared))

  pub narrowed_polls : (state : RtcSctpState) (now : ℕ) (p : SctpStreams S) (wake : Signals) (r : Result (Unit {0}) AllocError) (q : SctpStreams S)
      (wake' : Signals) → TimedBy m state now p wake r q wake' → wake.events ≡ true → wake'.events ≡ false → LeavesUnestablishedPolls m p q
  narrowed_polls Uninited now p wake r q wake' h set cleared = subst (λ (s : SctpStreams S). LeavesUnestablishedPolls m p s) (sym h.1) (same_polls p)
  narrowed_polls AwaitRemoteAssociation now p wake r q wake' h set cleared =
      subst (λ (s : SctpStreams S). LeavesUnestablishedPolls m p s) (sym h.1) (timed_polls now p)
  narrowed_polls AwaitAssociationEstablished now p wake r q wake' h set cleared =
      absurd (not_kept wake.events wake'.events (ap (λ (w : Signals). w.events) h.2) set cleared)
  narrowed_polls Established now p wake r q wake' h set cleared =
      absurd (not_kept wake.events wake'.events (ap (λ (w : Signals). w.events) h.2) set cleared)

  pub narrowed_deadline : (state : RtcSctpState) (now : ℕ) (p : SctpStreams S) (wake : Signals) (r : Result (Unit {0}) AllocError) (q : SctpStreams S)
      (wake' : Signals) → TimedBy m state now p wake r q wake' → wake.timeout ≡ true → wake'.timeout ≡ false → streams_wake m q ≡ streams_wake m p
  narrowed_deadline Uninited now p wake r q wake' h set cleared = ap (λ (s : SctpStreams S). streams_wake m s) h.1
  narrowed_deadline AwaitRemoteAssociation now p wake r q wake' h set cleared =
      absurd (not_kept wake.timeout wake'.timeout (ap (λ (w : Signals). w.timeout) h.2) set cleared)
  narrowed_deadline AwaitAssociationEstablished now p wake r q wake' h set cleared =
      absurd (not_kept wake.timeout wake'.timeout (ap (λ (w : Signals). w.timeout) h.2) set cleared)
  narrowed_deadline Established now p wake r q wake' h set cleared =
      absurd (not_kept wake.timeout wake'.timeout (ap (λ (w : Signals). w.timeout) h.2) set cleared)
