-- Each order of the steps of crossed offers leads through the phases to the end.
use Rattle.std.proofs.lemmas.Bool.{ne_eqb}
use Rattle.std.proofs.Common.{◌≡◌, ◌+◌, ◌++◌, ◌==◌, ℕ, false, List, [], ◌∷◌, refl, sym, ap, subst, arith, inl, inr, append-nil}
use Rattle.std.proofs.lemmas.List.{append_assoc}
use Rattle.rtc_parts.specs.Among.{Member}
use Rattle.rtc_run_history.specs.declared.op.Op.{Op}
use Rattle.rtc_run_history.specs.declared.side.Side.{Side}
use Rattle.rtc_run_history.specs.declared.step.Step.{Step}
use Rattle.rtc_run_history.specs.Past.{Entry, steps_of}
use Rattle.rtc_run_laws.specs.Crossed.{BeginsWith, CrossedNumbers, IsCourse, PoliteFirst, ImpoliteFirst, orders}
use Rattle.rtc_run_laws.proofs.CrossingPhases.{Polite, Quiet, Out, Back, Done, Impolite, Still, Asks, Told, Over, Leads, OffersFirst, OffersLast, AsksFirst, AsksLast, ClashesOut, ClashesBack, ClashesDone, RollsBack, Answers, Ends}

module _ (s : Side) (ops others : List Op) (n : CrossedNumbers) where
  -- steps that lead from phases to the end of the round
  abbrev pub LeadOn : ℕ → Polite → Impolite → List Step → Type 0
  LeadOn k pp ip [] = (pp ≡ Done) × (ip ≡ Over)
  LeadOn k pp ip (step ∷ steps) = (k' : ℕ) × (pp' : Polite) × (ip' : Impolite) × Leads s ops others n k pp ip step k' pp' ip' × LeadOn k' pp' ip' steps

  -- entries, newest first, whose steps led from the first phases to these
  abbrev pub LedTo : {E : Type 0} → (first : ℕ) → List (Entry E) → ℕ → Polite → Impolite → Type 0
  LedTo first [] k pp ip = (k ≡ first) × (pp ≡ Quiet) × (ip ≡ Still)
  LedTo first (entry ∷ newer) k pp ip =
      (k' : ℕ) × (pp' : Polite) × (ip' : Impolite) × LedTo first newer k' pp' ip' × Leads s ops others n k' pp' ip' entry.step k pp ip

  -- ---- each order

  order_leads : (k : ℕ) (order : List Step) → n.answer ≡ k → Member order (orders s n) → LeadOn k Out Asks order
  order_leads k order answer (inl is) =
      subst (λ (l : List Step). LeadOn k Out Asks l) (sym is)
      (k, Out, Asks, ClashesOut k, (k, Back, Asks, RollsBack k, (k + 1, Done, Told, Answers k answer, (k + 1, Done, Over, Ends (k + 1), (refl, refl)))))
  order_leads k order answer (inr (inl is)) =
      subst (λ (l : List Step). LeadOn k Out Asks l) (sym is)
      (k, Back, Asks, RollsBack k, (k, Back, Asks, ClashesBack k, (k + 1, Done, Told, Answers k answer, (k + 1, Done, Over, Ends (k + 1), (refl, refl)))))
  order_leads k order answer (inr (inr (inl is))) =
      subst (λ (l : List Step). LeadOn k Out Asks l) (sym is)
      (k, Back, Asks, RollsBack k, (k + 1, Done, Told, Answers k answer, (k + 1, Done, Told, ClashesDone (k + 1), (k + 1, Done, Over, Ends (k + 1), (refl, refl)))))
  order_leads k order answer (inr (inr (inr none))) = absurd none

  pub course_leads : (first : ℕ) (steps : List Step) → IsCourse s first ops others n steps → LeadOn first Quiet Still steps
  course_leads first steps (PoliteFirst order numbers member is) =
      let polite : n.polite ≡ first = ap (λ (c : CrossedNumbers). c.polite) numbers in
      let impolite : n.impolite ≡ first + 1 = ap (λ (c : CrossedNumbers). c.impolite) numbers in
      let answer : n.answer ≡ first + 2 = ap (λ (c : CrossedNumbers). c.answer) numbers in
      subst (λ (l : List Step). LeadOn first Quiet Still l) (sym is)
      (first + 1, Out, Still, OffersFirst first polite, (first + 1 + 1, Out, Asks, AsksLast (first + 1) impolite, order_leads (first + 1 + 1) order (omega (arith, answer)) member))
  course_leads first steps (ImpoliteFirst order numbers member is) =
      let polite : n.polite ≡ first + 1 = ap (λ (c : CrossedNumbers). c.polite) numbers in
      let impolite : n.impolite ≡ first = ap (λ (c : CrossedNumbers). c.impolite) numbers in
      let answer : n.answer ≡ first + 2 = ap (λ (c : CrossedNumbers). c.answer) numbers in
      subst (λ (l : List Step). LeadOn first Quiet Still l) (sym is)
      (first + 1, Quiet, Asks, AsksFirst first impolite, (first + 1 + 1, Out, Asks, OffersLast (first + 1) polite, order_leads (first + 1 + 1) order (omega (arith, answer)) member))

  -- ---- the first steps of an order

  -- where entries led that are the first steps of such, and that the further steps lead on from there
  pub record Stops {E : Type 0} (first : ℕ) (entries : List (Entry E)) (rest : List Step) : Type 0 where
    pub count : ℕ
    pub polite : Polite
    pub impolite : Impolite
    pub led : LedTo first entries count polite impolite
    pub leads : LeadOn count polite impolite rest

  stops_at : {E : Type 0} → (first : ℕ) (entries : List (Entry E)) (rest : List Step) → LeadOn first Quiet Still (steps_of entries ++ rest) → Stops first entries rest
  stops_at first [] rest leads = record { count = first; polite = Quiet; impolite = Still; led = (refl, refl, refl); leads = leads }
  stops_at first (entry ∷ newer) rest leads =
      let before_it = stops_at first newer (entry.step ∷ rest) (subst (λ (l : List Step). LeadOn first Quiet Still l) (append_assoc (steps_of newer) (entry.step ∷ []) rest) leads) in
      record {
        count = before_it.leads.0;
        polite = before_it.leads.1;
        impolite = before_it.leads.2;
        led = (before_it.count, before_it.polite, before_it.impolite, before_it.led, before_it.leads.3);
        leads = before_it.leads.4;
      }

  -- entries whose steps are the first ones of a course have led to phases
  pub begins_led : {E : Type 0} → (first : ℕ) (entries : List (Entry E)) (course : List Step) → IsCourse s first ops others n course → (begins : BeginsWith (steps_of entries) course)
      → Stops first entries begins.0
  begins_led first entries course is begins =
      stops_at first entries begins.0 (subst (λ (l : List Step). LeadOn first Quiet Still l) begins.1 (course_leads first course is))

  -- those of a whole course, to its end
  pub whole_led : {E : Type 0} → (first : ℕ) (entries : List (Entry E)) → IsCourse s first ops others n (steps_of entries) → (k : ℕ) × LedTo first entries k Done Over
  whole_led first entries is =
      let ends = stops_at first entries [] (subst (λ (l : List Step). LeadOn first Quiet Still l) (sym (append-nil (steps_of entries))) (course_leads first (steps_of entries) is)) in
      let polite = ends.leads.0 in
      let impolite = ends.leads.1 in
      (ends.count, subst (λ (ip : Impolite). LedTo first entries ends.count Done ip) impolite (subst (λ (pp : Polite). LedTo first entries ends.count pp ends.impolite) polite ends.led))

  -- ---- as a path

  -- the two offers have two numbers
  pub course_numbers : (k : ℕ) (steps : List Step) → IsCourse s k ops others n steps → (n.polite == n.impolite) ≡ false
  course_numbers k steps (PoliteFirst order numbers member is) =
      let polite : n.polite ≡ k = ap (λ (c : CrossedNumbers). c.polite) numbers in
      let impolite : n.impolite ≡ k + 1 = ap (λ (c : CrossedNumbers). c.impolite) numbers in
      ne_eqb n.polite n.impolite (λ e. omega (arith, polite, impolite, e))
  course_numbers k steps (ImpoliteFirst order numbers member is) =
      let polite : n.polite ≡ k + 1 = ap (λ (c : CrossedNumbers). c.polite) numbers in
      let impolite : n.impolite ≡ k = ap (λ (c : CrossedNumbers). c.impolite) numbers in
      ne_eqb n.polite n.impolite (λ e. omega (arith, polite, impolite, e))
