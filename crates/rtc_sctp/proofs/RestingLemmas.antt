-- Steps of a pass that met nothing leave streams at rest, and a poll of these gives packets that were pushed back, or nothing.
use Rattle.std.proofs.Common.{◌≡◌, ℕ, zero, suc, Bool, true, false, List, [], ◌∷◌, Option, Some, None, Result, Ok, Err, refl, sym, ap, subst, ◌∙◌}
use Rattle.std.specs.Prelude.{◌&&◌}
use Rattle.std.specs.declared.alloc.AllocError.{AllocError}
use Rattle.rtc_parts.specs.AssociationMeaning.{AssociationMeaning}
use Rattle.rtc_sctp_entries.specs.declared.sctp_event.SctpEvent.{SctpEvent}
use Rattle.rtc_sctp_entries.specs.declared.sctp_event.SctpEvent.TheVariants as event
use Rattle.rtc_sctp_entries.specs.declared.met.Met.{Met}
use Rattle.rtc_sctp_entries.specs.declared.met.Met.TheVariants.{Nothing, Again, Output, OutOfMemory}
use Rattle.rtc_sctp.specs.Streams.{SctpStreams, is_established}
use Rattle.rtc_sctp.specs.Polls.{ThenBy, Else, unclosed_streams, CompletionOf, GivesCompletion, TransmitIf, TransmitOf, GivesTransmit, HandlesEvent, VisitsIf, VisitsEntries, TakesSteps, TakesFirstSteps, AreResting, RestsBy, PassIf, MakesPass, Over, PollsStreams, Answers}
use Rattle.rtc_sctp.proofs.StepLemmas.{else_go}

-- ---- steps that met nothing

module _ {S : Type 0} where
  pub then_nothing : (rest : SctpStreams S → Met → SctpStreams S → Type 0) (own : Met) (b q : SctpStreams S) → ThenBy rest own b Nothing q
      → (own ≡ Nothing) × rest b Nothing q
  then_nothing rest Nothing b q k = (refl, k)
  then_nothing rest Again b q k = cc (k.0)
  then_nothing rest (Output o) b q k = cc (k.0)
  then_nothing rest OutOfMemory b q k = cc (k.0)

  pub else_nothing : (first rest : SctpStreams S → Met → SctpStreams S → Type 0) (p q : SctpStreams S) → Else first rest p Nothing q
      → (b : SctpStreams S) × (first p Nothing b × rest b Nothing q)
  else_nothing first rest p q h =
      let k = then_nothing rest h.0 h.1.0 q h.1.1.1 in
      (h.1.0, (subst (λ (x : Met). first p x h.1.0) k.0 h.1.1.0, k.1))

  pub completion_nothing : (l : List ℕ) (p q : SctpStreams S) → CompletionOf l p Nothing q → q ≡ record p { rests = true }
  completion_nothing [] p q h = h.1
  completion_nothing (id ∷ rest) p q h = cc (h.0)

module _ {S : Type 0} (m : AssociationMeaning S) where
  transmit_if_pushed : (b : Bool) (p q : SctpStreams S) → TransmitIf m b p Nothing q → q.pushed ≡ p.pushed
  transmit_if_pushed false p q h = ap (λ (x : SctpStreams S). x.pushed) h.1
  transmit_if_pushed true p q h = ap (λ (x : SctpStreams S). x.pushed) h.1

  transmit_pushed : (o : Option (List (List ℕ))) (p q : SctpStreams S) → p.pushed ≡ o → TransmitOf m o p Nothing q → q.pushed ≡ None
  transmit_pushed None p q is h = transmit_if_pushed (m.started p.association) p q h ∙ is
  transmit_pushed (Some packets) p q is h = cc (h.0)

  visits_if_pushed : (b : Bool) (p q : SctpStreams S) → VisitsIf m b p Nothing q → q.pushed ≡ p.pushed
  visits_if_pushed false p q h = ap (λ (x : SctpStreams S). x.pushed) h.1
  visits_if_pushed true p q h = ap (λ (x : SctpStreams S). x.pushed) h.1

  -- what the first steps leave
  pub resting_by : (p u y z q : SctpStreams S) → u ≡ unclosed_streams p → GivesTransmit m u Nothing y → HandlesEvent m y Nothing z
      → VisitsEntries m z Nothing q → AreResting m q.association q.state q.last q.entries
  unfolding TakesFirstSteps
  resting_by p u y z q is sent told visits = record {
    before = p;
    after = q;
    steps =
        subst (λ (x : SctpStreams S). Else (GivesTransmit m) (Else (HandlesEvent m) (VisitsEntries m)) x Nothing q) is
        (else_go (GivesTransmit m) (Else (HandlesEvent m) (VisitsEntries m)) u Nothing y Nothing q sent refl
        (else_go (HandlesEvent m) (VisitsEntries m) y Nothing z Nothing q told refl visits));
    association_left = refl;
    state_left = refl;
    last_left = refl;
    entries_left = refl;
  }

  -- the same by what each step met
  pub resting_left : (p u y z q : SctpStreams S) (first second third : Met) → u ≡ unclosed_streams p → GivesTransmit m u first y → first ≡ Nothing
      → HandlesEvent m y second z → second ≡ Nothing → VisitsEntries m z third q → third ≡ Nothing
      → AreResting m q.association q.state q.last q.entries
  resting_left p u y z q first second third is sent e told f visits g =
      resting_by p u y z q is (subst (λ (x : Met). GivesTransmit m u x y) e sent) (subst (λ (x : Met). HandlesEvent m y x z) f told)
      (subst (λ (x : Met). VisitsEntries m z x q) g visits)

  -- what a step leaves of the mark
  transmit_if_awake : (b : Bool) (p : SctpStreams S) (met : Met) (q : SctpStreams S) → TransmitIf m b p met q → q.rests ≡ p.rests
  transmit_if_awake false p met q h = ap (λ (x : SctpStreams S). x.rests) h.1
  transmit_if_awake true p met q h = ap (λ (x : SctpStreams S). x.rests) h.1

  transmit_of_awake : (o : Option (List (List ℕ))) (p : SctpStreams S) (met : Met) (q : SctpStreams S) → TransmitOf m o p met q → q.rests ≡ p.rests
  transmit_of_awake None p met q h = transmit_if_awake (m.started p.association) p met q h
  transmit_of_awake (Some packets) p met q h = ap (λ (x : SctpStreams S). x.rests) h.1

  pub transmit_awake : (p : SctpStreams S) (met : Met) (q : SctpStreams S) → p.rests ≡ false → GivesTransmit m p met q → q.rests ≡ false
  transmit_awake p met q is h = transmit_of_awake p.pushed p met q h ∙ is

  pub event_awake : (p : SctpStreams S) (met : Met) (q : SctpStreams S) → p.rests ≡ false → HandlesEvent m p met q → q.rests ≡ false
  event_awake p met q is h = ap (λ (x : SctpStreams S). x.rests) h.1 ∙ is

  visits_if_awake : (b : Bool) (p : SctpStreams S) (met : Met) (q : SctpStreams S) → VisitsIf m b p met q → q.rests ≡ p.rests
  visits_if_awake false p met q h = ap (λ (x : SctpStreams S). x.rests) h.1
  visits_if_awake true p met q h = ap (λ (x : SctpStreams S). x.rests) h.1

  pub visits_awake : (p : SctpStreams S) (met : Met) (q : SctpStreams S) → p.rests ≡ false → VisitsEntries m p met q → q.rests ≡ false
  visits_awake p met q is h = visits_if_awake (is_established p.state && m.started p.association) p met q h ∙ is

  -- ---- passes and polls

  abbrev pub IsLeftResting : SctpStreams S → Type 0
  IsLeftResting q = (q.rests ≡ true) × (q.pushed ≡ None) × AreResting m q.association q.state q.last q.entries

  steps_rest : (p q : SctpStreams S) → TakesSteps m p Nothing q → IsLeftResting q
  unfolding TakesSteps
  steps_rest p q h =
      let one = else_nothing (GivesTransmit m) (Else (HandlesEvent m) (Else (VisitsEntries m) GivesCompletion)) (unclosed_streams p) q h in
      let two = else_nothing (HandlesEvent m) (Else (VisitsEntries m) GivesCompletion) one.0 q one.1.1 in
      let three = else_nothing (VisitsEntries m) GivesCompletion two.0 q two.1.1 in
      let left = resting_by p (unclosed_streams p) one.0 two.0 three.0 refl one.1.0 two.1.0 three.1.0 in
      let none =
      visits_if_pushed (is_established two.0.state && m.started two.0.association) two.0 three.0 three.1.0
      ∙ ap (λ (x : SctpStreams S). x.pushed) two.1.0.1
      ∙ transmit_pushed p.pushed (unclosed_streams p) one.0 refl one.1.0 in
      subst (λ (x : SctpStreams S). IsLeftResting x) (sym (completion_nothing three.0.completed three.0 q three.1.1)) (refl, none, left)

  -- a pass that meets nothing leaves streams at rest
  pub pass_rests : (p q : SctpStreams S) → MakesPass m p Nothing q → IsLeftResting q
  unfolding MakesPass
  pass_rests p q h = by p.rests refl h
    where
      rests : (o : Option (List (List ℕ))) → p.pushed ≡ o → p.rests ≡ true → RestsBy o p Nothing q
          → AreResting m p.association p.state p.last p.entries → IsLeftResting q
      rests None e is k left = subst (λ (x : SctpStreams S). IsLeftResting x) (sym k.1) (is, e, left)
      rests (Some packets) e is k left = cc (k.0)

      by : (b : Bool) → p.rests ≡ b → PassIf m b p Nothing q → IsLeftResting q
      by true is k = rests p.pushed refl is k.0 k.1
      by false is k = steps_rest p q k

  -- a pass of streams at rest
  resting_pass : (p : SctpStreams S) (met : Met) (q : SctpStreams S) → p.rests ≡ true → MakesPass m p met q → RestsBy p.pushed p met q
  unfolding MakesPass
  resting_pass p met q is h = (subst (λ (b : Bool). PassIf m b p met q) is h).0

  never_again : (o : Option (List (List ℕ))) (p q : SctpStreams S) → RestsBy o p Again q → ⊥
  never_again None p q h = cc (h.0)
  never_again (Some packets) p q h = cc (h.0)

  resting_over : (n : ℕ) (p q : SctpStreams S) → p.rests ≡ true → Over m n p q → q ≡ p
  resting_over zero p q is h = h
  resting_over (suc n) p q is h =
      let before = resting_over n p h.0 is h.1 in
      absurd (never_again h.0.pushed h.0 q (resting_pass h.0 Again q (ap (λ (x : SctpStreams S). x.rests) before ∙ is) h.2))

  -- what a poll of streams at rest gives
  abbrev pub AnswersResting : Option (List (List ℕ)) → SctpStreams S → Result (Option SctpEvent) AllocError → SctpStreams S → Type 0
  AnswersResting None p r q = (r ≡ Ok None) × (q ≡ p)
  AnswersResting (Some packets) p r q = (r ≡ Ok (Some (event.Transmit packets))) × (q ≡ record p { pushed = None })

  answers_by : (r : Result (Option SctpEvent) AllocError) (met : Met) (o : Option (List (List ℕ))) (p q : SctpStreams S) → Answers r met
      → RestsBy o p met q → AnswersResting o p r q
  answers_by (Ok None) met None p q h k = (refl, k.1)
  answers_by (Ok (Some x)) met None p q h k = let clash : Output x ≡ Nothing = sym h ∙ k.0 in cc
  answers_by (Err x) met None p q h k = let clash : OutOfMemory ≡ Nothing = sym h ∙ k.0 in cc
  answers_by (Ok None) met (Some packets) p q h k = let clash : Nothing ≡ Output (event.Transmit packets) = sym h ∙ k.0 in cc
  answers_by (Ok (Some x)) met (Some packets) p q h k =
      let is : Output x ≡ Output (event.Transmit packets) = sym h ∙ k.0 in
      let same : x ≡ event.Transmit packets = cc (is) in
      (ap (λ (e : SctpEvent). Ok (Some e)) same, k.1)
  answers_by (Err x) met (Some packets) p q h k = let clash : OutOfMemory ≡ Output (event.Transmit packets) = sym h ∙ k.0 in cc

  -- a poll of streams at rest
  pub resting_poll : (p : SctpStreams S) (r : Result (Option SctpEvent) AllocError) (q : SctpStreams S) → p.rests ≡ true → PollsStreams m p r q
      → AnswersResting p.pushed p r q
  resting_poll p r q is h =
      let same = resting_over h.passes p h.between is h.over in
      let last = subst (λ (x : SctpStreams S). MakesPass m x h.met q) same h.last in
      answers_by r h.met p.pushed p q h.answers (resting_pass p h.met q is last)

  -- a poll that gave nothing
  pub poll_rests : (p q : SctpStreams S) → PollsStreams m p (Ok None) q → IsLeftResting q
  poll_rests p q h = pass_rests h.between q (subst (λ (x : Met). MakesPass m h.between x q) h.answers h.last)
