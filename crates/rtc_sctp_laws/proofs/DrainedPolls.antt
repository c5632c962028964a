-- Streams that a poll left with nothing to give, over an association that is not established, give nothing after a timeout either.
use Rattle.std.proofs.Common.{◌≡◌, ◌∙◌, ◌<◌, ◌⊎◌, inl, inr, ℕ, zero, suc, Bool, true, false, true≢false, List, [], ◌∷◌, Option, Some, None, Result, Ok, Err, refl, sym, ap, subst, arith}
use Rattle.std.specs.Prelude.{◌&&◌}
use Rattle.std.specs.declared.alloc.AllocError.{AllocError}
use Rattle.rtc_parts.specs.declared.assoc_event.AssocEvent.{AssocEvent}
use Rattle.rtc_parts.specs.declared.assoc_event.AssocEvent.TheVariants as assoc
use Rattle.rtc_parts.specs.AssociationMeaning.{AssociationMeaning}
use Rattle.rtc_parts.specs.AssociationLaws.{AssociationLaws}
use Rattle.rtc_ready.specs.Signals.{Signals}
use Rattle.rtc_sctp_entries.specs.declared.sctp_event.SctpEvent.{SctpEvent}
use Rattle.rtc_sctp_entries.specs.declared.sctp_event.SctpEvent.TheVariants as event
use Rattle.rtc_sctp_entries.specs.declared.met.Met.{Met}
use Rattle.rtc_sctp_entries.specs.declared.met.Met.TheVariants.{Nothing, Again, Output, OutOfMemory}
use Rattle.rtc_sctp.specs.declared.rtc_sctp_state.RtcSctpState.{RtcSctpState}
use Rattle.rtc_sctp.specs.declared.rtc_sctp_state.RtcSctpState.TheVariants.{Uninited, AwaitRemoteAssociation, AwaitAssociationEstablished, Established}
use Rattle.rtc_sctp.specs.Streams.{SctpStreams, is_established}
use Rattle.rtc_sctp.specs.Calls.{timed_streams, TimedBy}
use Rattle.rtc_sctp.specs.Polls.{Book, book_of, event_met, ThenBy, Else, unclosed_streams, CompletionOf, GivesCompletion, TakesPacket, TransmitIf, TransmitOf, GivesTransmit, TakesEvent, NotStarted, NoRoom, NoEvent, Event, HandlesEvent, VisitsIf, VisitsEntries, TakesSteps, PassIf, MakesPass, Over, PollsStreams, Answers}
use Rattle.rtc_sctp.proofs.RestingLemmas.{else_nothing, pass_rests, resting_poll, AnswersResting}
use Rattle.rtc_sctp_laws.specs.NarrowedTimeouts.{GivesNothing}
use Rattle.rtc_sctp_laws.proofs.NarrowedPolls.{over_awake}

event_works : (e : AssocEvent) → event_met e ≡ Nothing → ⊥
event_works assoc.Connected h = cc (h)
event_works assoc.Lost h = cc (h)
event_works (assoc.Readable id) h = cc (h)
event_works (assoc.Writable id) h = cc (h)
event_works (assoc.Finished id) h = cc (h)
event_works (assoc.ResetComplete id) h = cc (h)
event_works (assoc.BufferedAmountLow id) h = cc (h)

none_lost : (n : ℕ) (k : ℕ) → n < k → k ≡ 0 → ⊥
none_lost n k less none = omega (arith, less, none)

module _ {S : Type 0} (m : AssociationMeaning S) (w : AssociationLaws m) where
  -- the association gives nothing: it was not started, or holds nothing
  abbrev IsSilentPart : S → Type 0
  IsSilentPart a = (m.started a ≡ false) ⊎ (m.held a ≡ 0)

  -- nothing is left to be given
  record IsIdle (p : SctpStreams S) : Type 0 where
    unpushed : p.pushed ≡ None
    reported : p.completed ≡ []
    waits : is_established p.state ≡ false
    silent : IsSilentPart p.association

  -- ---- what a pass that met nothing says of the association

  transmit_if_none : (b : Bool) (x y : SctpStreams S) → m.started x.association ≡ b → TransmitIf m b x Nothing y
      → (y ≡ x) × ((m.started x.association ≡ false) ⊎ m.gave x.association None x.association)
  transmit_if_none false x y is h = (h.1, inl is)
  transmit_if_none true x y is h =
      let same : y.association ≡ x.association = w.packet_none x.association y.association h.0 in
      (h.1 ∙ ap (λ (a : S). record x { association = a }) same, inr (subst (λ (a : S). m.gave x.association None a) same h.0))

  transmit_none : (o : Option (List (List ℕ))) (x y : SctpStreams S) → TransmitOf m o x Nothing y
      → (y ≡ x) × ((m.started x.association ≡ false) ⊎ m.gave x.association None x.association)
  transmit_none None x y h = transmit_if_none (m.started x.association) x y refl h
  transmit_none (Some packets) x y h = cc (h.0)

  event_none_of : (a : S) (b : Book) (met : Met) (a' : S) (b' : Book) → met ≡ Nothing → TakesEvent m a b met a' b'
      → (a' ≡ a) × (b' ≡ b) × ((m.started a ≡ false) ⊎ m.polled a None a)
  event_none_of a b met a' b' is (NotStarted s e f g) = (f, g, inl s)
  event_none_of a b met a' b' is (NoRoom e f g) = let clash : OutOfMemory ≡ Nothing = sym e ∙ is in cc
  event_none_of a b met a' b' is (NoEvent s k e g) =
      let same : a' ≡ a = w.event_none a a' k in (same, g, inr (subst (λ (c : S). m.polled a None c) same k))
  event_none_of a b met a' b' is (Event e s k f g) = absurd (event_works e (sym f ∙ is))

  visits_none : (x y : SctpStreams S) → is_established y.state ≡ false → VisitsEntries m x Nothing y → y ≡ x
  visits_none x y waits h = by (is_established x.state && m.started x.association) refl h
    where
      by : (b : Bool) → (is_established x.state && m.started x.association) ≡ b → VisitsIf m b x Nothing y → y ≡ x
      by false is k = k.1
      by true is k =
          let same : y.state ≡ x.state = ap (λ (s : SctpStreams S). s.state) k.1 in
          let still : is_established x.state ≡ false = subst (λ (s : RtcSctpState). is_established s ≡ false) same waits in
          absurd (true≢false (sym is ∙ rw still refl))

  completion_none : (l : List ℕ) (x y : SctpStreams S) → x.completed ≡ l → CompletionOf l x Nothing y → (x.completed ≡ []) × (y ≡ record x { rests = true })
  completion_none [] x y is h = (is, h.1)
  completion_none (id ∷ rest) x y is h = cc (h.0)

  silent_by : (a : S) → (m.started a ≡ false) ⊎ m.gave a None a → (m.started a ≡ false) ⊎ m.polled a None a → IsSilentPart a
  silent_by a (inl off) told = inl off
  silent_by a (inr gave) (inl off) = inl off
  silent_by a (inr gave) (inr told) = inr (w.silent a a a told gave)

  steps_idle : (p q : SctpStreams S) → q.pushed ≡ None → is_established q.state ≡ false → TakesSteps m p Nothing q → IsIdle q
  unfolding TakesSteps
  steps_idle p q unpushed waits h =
      let one = else_nothing (GivesTransmit m) (Else (HandlesEvent m) (Else (VisitsEntries m) GivesCompletion)) (unclosed_streams p) q h in
      let two = else_nothing (HandlesEvent m) (Else (VisitsEntries m) GivesCompletion) one.0 q one.1.1 in
      let three = else_nothing (VisitsEntries m) GivesCompletion two.0 q two.1.1 in
      let done = completion_none three.0.completed three.0 q refl three.1.1 in
      let passed = visits_none two.0 three.0 (subst (λ (s : RtcSctpState). is_established s ≡ false) (ap (λ (x : SctpStreams S). x.state) done.1) waits) three.1.0 in
      let told = event_none_of one.0.association (book_of one.0) Nothing two.0.association (book_of two.0) refl two.1.0.0 in
      let sent = transmit_none p.pushed (unclosed_streams p) one.0 one.1.0 in
      let first : one.0.association ≡ p.association = ap (λ (x : SctpStreams S). x.association) sent.0 in
      let here : q.association ≡ one.0.association =
      ap (λ (x : SctpStreams S). x.association) done.1 ∙ (ap (λ (x : SctpStreams S). x.association) passed ∙ told.0) in
      record {
        unpushed = unpushed;
        reported = ap (λ (x : SctpStreams S). x.completed) done.1 ∙ done.0;
        waits = waits;
        silent =
            subst (λ (a : S). IsSilentPart a) (sym here)
            (silent_by one.0.association (subst (λ (a : S). (m.started a ≡ false) ⊎ m.gave a None a) (sym first) sent.1) told.2);
      }

  -- ---- idle streams

  -- a step gives nothing and leaves streams idle, unless memory runs out
  abbrev Idles : (SctpStreams S → Met → SctpStreams S → Type 0) → Type 0
  Idles step = (x : SctpStreams S) (met : Met) (y : SctpStreams S) → IsIdle x → step x met y → (met ≡ OutOfMemory) ⊎ ((met ≡ Nothing) × IsIdle y)

  idle_is : (x y : SctpStreams S) → y ≡ x → IsIdle x → IsIdle y
  idle_is x y is h = subst (λ (s : SctpStreams S). IsIdle s) (sym is) h

  then_idles : (next : SctpStreams S → Met → SctpStreams S → Type 0) → Idles next → (own : Met) (x : SctpStreams S) (met : Met) (y : SctpStreams S)
      → (own ≡ OutOfMemory) ⊎ ((own ≡ Nothing) × IsIdle x) → ThenBy next own x met y → (met ≡ OutOfMemory) ⊎ ((met ≡ Nothing) × IsIdle y)
  then_idles next later Nothing x met y (inl e) h = let clash : Nothing ≡ OutOfMemory = e in cc
  then_idles next later Nothing x met y (inr k) h = later x met y k.1 h
  then_idles next later Again x met y (inl e) h = let clash : Again ≡ OutOfMemory = e in cc
  then_idles next later Again x met y (inr k) h = let clash : Again ≡ Nothing = k.0 in cc
  then_idles next later (Output o) x met y (inl e) h = let clash : Output o ≡ OutOfMemory = e in cc
  then_idles next later (Output o) x met y (inr k) h = let clash : Output o ≡ Nothing = k.0 in cc
  then_idles next later OutOfMemory x met y k h = inl h.0

  else_idles : (first next : SctpStreams S → Met → SctpStreams S → Type 0) → Idles first → Idles next → Idles (Else first next)
  else_idles first next now later x met y idle h = then_idles next later h.0 h.1.0 met y (now x h.0 h.1.0 idle h.1.1.0) h.1.1.1

  no_packet : (a b : S) (packet : List ℕ) → m.started a ≡ true → IsSilentPart a → m.gave a (Some packet) b → ⊥
  no_packet a b packet on (inl off) h = true≢false (sym on ∙ off)
  no_packet a b packet on (inr none) h = none_lost (m.held b) (m.held a) (w.packet_falls a b packet h) none

  takes_idle : (met : Met) (x y : SctpStreams S) → IsIdle x → m.started x.association ≡ true → TakesPacket m x.association met y.association
      → y ≡ record x { association = y.association } → (met ≡ OutOfMemory) ⊎ ((met ≡ Nothing) × IsIdle y)
  takes_idle Nothing x y idle on h is =
      inr (refl, idle_is x y (is ∙ ap (λ (a : S). record x { association = a }) (w.packet_none x.association y.association h)) idle)
  takes_idle OutOfMemory x y idle on h is = inl refl
  takes_idle Again x y idle on h is = absurd h
  takes_idle (Output (event.Transmit packets)) x y idle on h is = absurd (no_packet x.association y.association h.0 on idle.silent h.1)
  takes_idle (Output _) x y idle on h is = absurd h

  transmit_if_idle : (b : Bool) (x : SctpStreams S) (met : Met) (y : SctpStreams S) → m.started x.association ≡ b → IsIdle x → TransmitIf m b x met y
      → (met ≡ OutOfMemory) ⊎ ((met ≡ Nothing) × IsIdle y)
  transmit_if_idle false x met y is idle h = inr (h.0, idle_is x y h.1 idle)
  transmit_if_idle true x met y is idle h = takes_idle met x y idle is h.0 h.1

  transmit_idles : Idles (GivesTransmit m)
  transmit_idles x met y idle h =
      transmit_if_idle (m.started x.association) x met y refl idle (subst (λ (o : Option (List (List ℕ))). TransmitOf m o x met y) idle.unpushed h)

  event_idle : (x : SctpStreams S) (met : Met) (a' : S) (b' : Book) → IsIdle x → TakesEvent m x.association (book_of x) met a' b'
      → (met ≡ OutOfMemory) ⊎ ((met ≡ Nothing) × (a' ≡ x.association) × (b' ≡ book_of x))
  event_idle x met a' b' idle (NotStarted s e f g) = inr (e, f, g)
  event_idle x met a' b' idle (NoRoom e f g) = inl e
  event_idle x met a' b' idle (NoEvent s k e g) = inr (e, w.event_none x.association a' k, g)
  event_idle x met a' b' idle (Event e s k f g) = absurd (by idle.silent)
    where
      by : IsSilentPart x.association → ⊥
      by (inl off) = true≢false (sym s ∙ off)
      by (inr none) = none_lost (m.held a') (m.held x.association) (w.event_falls x.association a' e k) none

  event_idles : Idles (HandlesEvent m)
  event_idles x met y idle h = by (event_idle x met y.association (book_of y) idle h.0)
    where
      by : (met ≡ OutOfMemory) ⊎ ((met ≡ Nothing) × (y.association ≡ x.association) × (book_of y ≡ book_of x))
          → (met ≡ OutOfMemory) ⊎ ((met ≡ Nothing) × IsIdle y)
      by (inl out) = inl out
      by (inr k) = inr (
        k.0,
        record {
          unpushed = ap (λ (s : SctpStreams S). s.pushed) h.1 ∙ idle.unpushed;
          reported = ap (λ (b : Book). b.completed) k.2 ∙ idle.reported;
          waits = ap (λ (b : Book). is_established b.state) k.2 ∙ idle.waits;
          silent = subst (λ (a : S). IsSilentPart a) (sym k.1) idle.silent;
        },
      )

  visits_idles : Idles (VisitsEntries m)
  visits_idles x met y idle h =
      let none = subst (λ (b : Bool). VisitsIf m (b && m.started x.association) x met y) idle.waits h in inr (none.0, idle_is x y none.1 idle)

  completion_idles : Idles GivesCompletion
  completion_idles x met y idle h =
      let none = subst (λ (l : List ℕ). CompletionOf l x met y) idle.reported h in
      inr (
        none.0,
        subst (λ (s : SctpStreams S). IsIdle s) (sym none.1)
            (record { unpushed = idle.unpushed; reported = idle.reported; waits = idle.waits; silent = idle.silent }),
      )

  steps_idles : Idles (TakesSteps m)
  unfolding TakesSteps
  steps_idles x met y idle h =
      else_idles (GivesTransmit m) (Else (HandlesEvent m) (Else (VisitsEntries m) GivesCompletion)) transmit_idles
      (else_idles (HandlesEvent m) (Else (VisitsEntries m) GivesCompletion) event_idles
      (else_idles (VisitsEntries m) GivesCompletion visits_idles completion_idles)) (unclosed_streams x) met y
      (record { unpushed = idle.unpushed; reported = idle.reported; waits = idle.waits; silent = idle.silent }) h

  pass_idle : (x : SctpStreams S) (met : Met) (y : SctpStreams S) → x.rests ≡ false → IsIdle x → MakesPass m x met y
      → (met ≡ OutOfMemory) ⊎ ((met ≡ Nothing) × IsIdle y)
  unfolding MakesPass
  pass_idle x met y e idle h = steps_idles x met y idle (subst (λ (b : Bool). PassIf m b x met y) e h)

  -- no pass makes work
  over_idle : (n : ℕ) (x b : SctpStreams S) → x.rests ≡ false → IsIdle x → Over m n x b → b ≡ x
  over_idle zero x b e idle h = h
  over_idle (suc n) x b e idle h = by (pass_idle x Again b e idle (subst (λ (s : SctpStreams S). MakesPass m s Again b) (over_idle n x h.0 e idle h.1) h.2))
    where
      by : (Again ≡ OutOfMemory) ⊎ ((Again ≡ Nothing) × IsIdle b) → b ≡ x
      by (inl clash) = cc (clash)
      by (inr k) = cc (k.0)

  answers_none : (r : Result (Option SctpEvent) AllocError) (met : Met) → Answers r met → (met ≡ OutOfMemory) ⊎ (met ≡ Nothing) → GivesNothing r
  answers_none (Ok None) met h k = tt
  answers_none (Ok (Some e)) met h (inl out) = let clash : Output e ≡ OutOfMemory = sym h ∙ out in cc
  answers_none (Ok (Some e)) met h (inr none) = let clash : Output e ≡ Nothing = sym h ∙ none in cc
  answers_none (Err x) met h k = tt

  idle_poll : (p : SctpStreams S) (r : Result (Option SctpEvent) AllocError) (q : SctpStreams S) → p.rests ≡ false → IsIdle p → PollsStreams m p r q
      → GivesNothing r
  idle_poll p r q e idle h =
      answers_none r h.met h.answers
      (by (pass_idle p h.met q e idle (subst (λ (s : SctpStreams S). MakesPass m s h.met q) (over_idle h.passes p h.between e idle h.over) h.last)))
    where
      by : (h.met ≡ OutOfMemory) ⊎ ((h.met ≡ Nothing) × IsIdle q) → (h.met ≡ OutOfMemory) ⊎ (h.met ≡ Nothing)
      by (inl out) = inl out
      by (inr k) = inr k.0

  -- ---- after a poll that gave nothing

  drained_idle : (p q : SctpStreams S) → p.rests ≡ false → is_established q.state ≡ false → PollsStreams m p (Ok None) q → IsIdle q
  unfolding MakesPass
  drained_idle p q e waits h =
      let last = subst (λ (x : Met). MakesPass m h.between x q) h.answers h.last in
      steps_idle h.between q (pass_rests m h.between q last).1 waits
      (subst (λ (b : Bool). PassIf m b h.between Nothing q) (over_awake m h.passes p h.between e h.over) last)

  drained_rests : (p q : SctpStreams S) → PollsStreams m p (Ok None) q → (q.rests ≡ true) × (q.pushed ≡ None)
  drained_rests p q h =
      let k = pass_rests m h.between q (subst (λ (x : Met). MakesPass m h.between x q) h.answers h.last) in (k.0, k.1)

  resting_none : (o : Option (List (List ℕ))) (p : SctpStreams S) (r : Result (Option SctpEvent) AllocError) (q : SctpStreams S) → o ≡ None
      → AnswersResting m o p r q → GivesNothing r
  resting_none None p r q is h = subst (λ (x : Result (Option SctpEvent) AllocError). GivesNothing x) (sym h.0) tt
  resting_none (Some packets) p r q is h = cc (is)

  pub drained_polls : (state : RtcSctpState) (now : ℕ) (before p : SctpStreams S) (wake : Signals) (r : Result (Unit {0}) AllocError) (q : SctpStreams S)
      (wake' : Signals) → p.state ≡ state → before.rests ≡ false → PollsStreams m before (Ok None) p → TimedBy m state now p wake r q wake'
      → wake.events ≡ true → wake'.events ≡ false → (answer : Result (Option SctpEvent) AllocError) (after : SctpStreams S)
      → PollsStreams m q answer after → GivesNothing answer
  drained_polls Uninited now before p wake r q wake' is e polled h set cleared answer after polls =
      let k = drained_rests before p polled in
      resting_none p.pushed p answer after k.1
      (resting_poll m p answer after k.0 (subst (λ (s : SctpStreams S). PollsStreams m s answer after) h.1 polls))
  drained_polls AwaitRemoteAssociation now before p wake r q wake' is e polled h set cleared answer after polls =
      let idle = drained_idle before p e (ap (λ (s : RtcSctpState). is_established s) is) polled in
      idle_poll (timed_streams now p) answer after refl
      (record { unpushed = idle.unpushed; reported = idle.reported; waits = idle.waits; silent = idle.silent })
      (subst (λ (s : SctpStreams S). PollsStreams m s answer after) h.1 polls)
  drained_polls AwaitAssociationEstablished now before p wake r q wake' is e polled h set cleared answer after polls =
      absurd (true≢false (sym set ∙ (sym (ap (λ (x : Signals). x.events) h.2) ∙ cleared)))
  drained_polls Established now before p wake r q wake' is e polled h set cleared answer after polls =
      absurd (true≢false (sym set ∙ (sym (ap (λ (x : Signals). x.events) h.2) ∙ cleared)))
