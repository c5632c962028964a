-- What the acts of an association that fails at listed calls are to the one inside.
use Rattle.std.proofs.Common.{ℕ, ◌≡◌, ◌⊎◌, inl, inr, Bool, true, List, [], ◌∷◌, Option, Some, Result, Ok, Err, refl}
use Rattle.rtc_parts.specs.Why.{Timed, Shut, Other}
use Rattle.rtc_parts.specs.declared.assoc_error.AssocError.{AssocError}
use Rattle.rtc_parts.specs.declared.assoc_error.AssocError.TheVariants.{Fault}
use Rattle.rtc_parts.specs.declared.ppi.Ppi.{Ppi}
use Rattle.rtc_parts.specs.AssociationMeaning.{AssociationMeaning}
use Rattle.rtc_parts.specs.AssociationActs.{
  AssociationAct,
  Started,
  Opened,
  Wrote,
  Ended,
  Given,
  Taken,
  Read,
  Told,
  Stirred,
  Starts,
  ByConnect,
  ByAccept,
  BySnap,
  Stirs,
  LimitsSet,
  ConnectRefused,
  AcceptRefused,
  SnapRefused,
  OpenRefused,
  WriteRefused,
  ReadRefused,
  EndRefused,
  ThresholdSet,
  ReliabilitySet,
  Acted,
  is_threshold_set,
  brings_threshold,
}
use Rattle.rtc_parts.specs.AssociationWords.{told}
use Rattle.rtc_faulty.specs.declared.faulty.Faulty.{Faulty}
use Rattle.rtc_faulty.specs.Numbering.{is_failing, one_fault_more}
use Rattle.rtc_faulty.specs.FaultyCalls.{CanFail}
use Rattle.rtc_faulty.specs.FaultyLemmas.{never_fault, ReachedCall, failed_or_reached, reached_unless_fault, reaches-faults}
use Rattle.rtc_faulty.specs.FaultyAssociation.{faulty_association, opening_counts, reading_counts}

module _ {S : Type 0} (m : AssociationMeaning S) where
  abbrev Call : Type 0 → Type 1
  Call T = S → Result T AssocError → S → Type 0

  -- an Ok of a numbered call is an act of the part inside
  ok_inside : {T : Type 0} (x : T) (uses : Result T AssocError → Bool) (R : Call T) (p q : Faulty S)
      → CanFail (is_failing p.numbers) Fault uses R p (Ok x) q → ReachedCall R p (Ok x) q
  ok_inside x uses R p q h = reached_unless_fault Fault uses R (is_failing p.numbers) p q (Ok x) (never_fault x Fault) h

  -- a call that gives no fault reached the part inside
  pub wrote_inside : (p q : Faulty S) (id : ℕ) (ppi : Ppi) (bytes : List ℕ) (n : ℕ) → (faulty_association m).wrote p id ppi bytes (Ok n) q
      → ReachedCall (λ i a j. m.wrote i id ppi bytes a j) p (Ok n) q
  wrote_inside p q id ppi bytes n h = ok_inside n (λ _. true) (λ i a j. m.wrote i id ppi bytes a j) p q h

  pub read_inside : (p q : Faulty S) (id : ℕ) (x : Option (Ppi × List ℕ)) → (faulty_association m).read p id (Ok x) q
      → ReachedCall (λ i a j. m.read i id a j) p (Ok x) q
  read_inside p q id x h = ok_inside x reading_counts (λ i a j. m.read i id a j) p q h

  -- a call failed before the part inside, and is no event
  abbrev pub FailedAssociationAct : Faulty S → AssociationAct → Faulty S → Type 0
  FailedAssociationAct p act q = (told (act ∷ []) ≡ []) × ((q.inner ≡ p.inner) × (q.numbers.faults ≡ one_fault_more p.numbers.faults))

  -- an act failed before the part inside, or is one of it that brings a threshold if this one does
  abbrev pub AssociationActInside : (p : Faulty S) (act : AssociationAct) (q : Faulty S) → Acted (faulty_association m) p act q → Type 0
  AssociationActInside p act q h = FailedAssociationAct p act q ⊎ ((k : Acted m p.inner act q.inner)
      × ((brings_threshold m p.inner q.inner act k ≡ brings_threshold (faulty_association m) p q act h)
      × (q.numbers.faults ≡ p.numbers.faults)))

  abbrev StirsInside : (p q : Faulty S) → Stirs (faulty_association m) p q → Type 0
  StirsInside p q h = FailedAssociationAct p (Stirred Other) q ⊎ ((k : Stirs m p.inner q.inner)
      × ((is_threshold_set m p.inner q.inner k ≡ is_threshold_set (faulty_association m) p q h) × (q.numbers.faults ≡ p.numbers.faults)))

  -- a numbered call by which the part stirs
  numbered_stirs : {T : Type 0} (uses : Result T AssocError → Bool) (R : Call T) (p q : Faulty S) (r : Result T AssocError)
      (h : Stirs (faulty_association m) p q)
      → (step : R p.inner r q.inner → Stirs m p.inner q.inner)
      → ((d : R p.inner r q.inner) → is_threshold_set m p.inner q.inner (step d) ≡ is_threshold_set (faulty_association m) p q h)
      → CanFail (is_failing p.numbers) Fault uses R p r q → StirsInside p q h
  numbered_stirs uses R p q r h step same n = elim (failed_or_reached Fault uses R (is_failing p.numbers) p q r n) [
    | inl f ↦ inl (refl, (f.inner, f.faults))
    | inr k ↦ inr (step k.did, (same k.did, k.faults))
  ]

  stirs_inside : (p q : Faulty S) (h : Stirs (faulty_association m) p q) → StirsInside p q h
  stirs_inside p q (LimitsSet n k h) = inr (LimitsSet n k h.0, (refl, reaches-faults p q h.1))
  stirs_inside p q (ConnectRefused now max e s h) =
      numbered_stirs (λ _. true) (λ i a j. m.connected i now max a j) p q (Err e) (ConnectRefused now max e s h)
      (λ d. ConnectRefused now max e s d) (λ d. refl) h
  stirs_inside p q (AcceptRefused now max e s h) =
      numbered_stirs (λ _. true) (λ i a j. m.accepted i now max a j) p q (Err e) (AcceptRefused now max e s h)
      (λ d. AcceptRefused now max e s d) (λ d. refl) h
  stirs_inside p q (SnapRefused now max ours theirs e s h) =
      numbered_stirs (λ _. true) (λ i a j. m.connected_snap i now max ours theirs a j) p q (Err e) (SnapRefused now max ours theirs e s h)
      (λ d. SnapRefused now max ours theirs e s d) (λ d. refl) h
  stirs_inside p q (OpenRefused id e h) =
      numbered_stirs opening_counts (λ i a j. m.opened i id a j) p q (Err e) (OpenRefused id e h) (λ d. OpenRefused id e d) (λ d. refl) h
  stirs_inside p q (WriteRefused id ppi bytes e h) =
      numbered_stirs (λ _. true) (λ i a j. m.wrote i id ppi bytes a j) p q (Err e) (WriteRefused id ppi bytes e h)
      (λ d. WriteRefused id ppi bytes e d) (λ d. refl) h
  stirs_inside p q (ReadRefused id e h) =
      numbered_stirs reading_counts (λ i a j. m.read i id a j) p q (Err e) (ReadRefused id e h) (λ d. ReadRefused id e d) (λ d. refl) h
  stirs_inside p q (EndRefused id e h) =
      numbered_stirs (λ _. true) (λ i a j. m.ended i id a j) p q (Err e) (EndRefused id e h) (λ d. EndRefused id e d) (λ d. refl) h
  stirs_inside p q (ThresholdSet id n (Ok x) h) =
      numbered_stirs (λ _. true) (λ i a j. m.threshold_set i id n a j) p q (Ok x) (ThresholdSet id n (Ok x) h)
      (λ d. ThresholdSet id n (Ok x) d) (λ d. refl) h
  stirs_inside p q (ThresholdSet id n (Err e) h) =
      numbered_stirs (λ _. true) (λ i a j. m.threshold_set i id n a j) p q (Err e) (ThresholdSet id n (Err e) h)
      (λ d. ThresholdSet id n (Err e) d) (λ d. refl) h
  stirs_inside p q (ReliabilitySet id unordered t n r h) =
      numbered_stirs (λ _. true) (λ i a j. m.reliability_set i id unordered t n a j) p q r (ReliabilitySet id unordered t n r h)
      (λ d. ReliabilitySet id unordered t n r d) (λ d. refl) h

  started_inside : (p q : Faulty S) → Starts (faulty_association m) p q → Starts m p.inner q.inner × (q.numbers.faults ≡ p.numbers.faults)
  started_inside p q (ByConnect now max h) =
      let k = ok_inside tt (λ _. true) (λ i a j. m.connected i now max a j) p q h in (ByConnect now max k.did, k.faults)
  started_inside p q (ByAccept now max h) =
      let k = ok_inside tt (λ _. true) (λ i a j. m.accepted i now max a j) p q h in (ByAccept now max k.did, k.faults)
  started_inside p q (BySnap now max ours theirs h) =
      let k = ok_inside tt (λ _. true) (λ i a j. m.connected_snap i now max ours theirs a j) p q h in
      (BySnap now max ours theirs k.did, k.faults)

  shut_inside : (p q : Faulty S) (h : Acted (faulty_association m) p (Stirred Shut) q) → AssociationActInside p (Stirred Shut) q h
  shut_inside p q h = elim (failed_or_reached Fault (λ _. true) (λ i a j. m.shut i a j) (is_failing p.numbers) p q h.0 h.1) [
    | inl f ↦ inl (refl, (f.inner, f.faults))
    | inr k ↦ inr ((h.0, k.did), (refl, k.faults))
  ]

  pub association_act_inside : (p q : Faulty S) (act : AssociationAct) (h : Acted (faulty_association m) p act q)
      → AssociationActInside p act q h
  association_act_inside p q Started h = let k = started_inside p q h.1 in inr ((h.0, k.0), (refl, k.1))
  association_act_inside p q (Opened s g) h =
      let k = ok_inside tt opening_counts (λ i a j. m.opened i s a j) p q h.0 in inr ((k.did, h.1), (refl, k.faults))
  association_act_inside p q (Wrote s g i b) h =
      let k = wrote_inside p q s h.0 b h.1.0 h.1.1.0 in inr ((h.0, (h.1.0, (k.did, h.1.1.1, h.1.1.2))), (refl, k.faults))
  association_act_inside p q (Ended s g) h =
      let k = ok_inside tt (λ _. true) (λ i a j. m.ended i s a j) p q h.0 in inr ((k.did, h.1), (refl, k.faults))
  association_act_inside p q (Given b) h = inr ((h.0, (h.1.0, h.1.1.0)), (refl, reaches-faults p q h.1.1.1))
  association_act_inside p q (Taken b) h = inr (h.0, (refl, reaches-faults p q h.1))
  association_act_inside p q (Read s g i b) h =
      let k = read_inside p q s (Some (h.0, b)) h.1.0 in inr ((h.0, (k.did, h.1.1, h.1.2)), (refl, k.faults))
  association_act_inside p q (Told e) h = inr (h.0, (refl, reaches-faults p q h.1))
  association_act_inside p q (Stirred (Timed now)) h = inr ((h.0, h.1.0), (refl, reaches-faults p q h.1.1))
  association_act_inside p q (Stirred Shut) h = shut_inside p q h
  association_act_inside p q (Stirred Other) h = stirs_inside p q h
