-- What the acts of a media part that fails at listed calls are to the one inside.
use Rattle.std.proofs.Common.{ℕ, ◌≡◌, ◌⊎◌, inl, inr, true, false, Option, Result, Ok, Err, refl}
use Rattle.rtc_parts.specs.Why.{Timed, Shut, Other}
use Rattle.rtc_parts.specs.declared.media_error.MediaError.{MediaError}
use Rattle.rtc_parts.specs.declared.media_error.MediaError.TheVariants.{Rtp}
use Rattle.rtc_parts.specs.MediaMeaning.{MediaMeaning}
use Rattle.rtc_parts.specs.MediaActs.{
  MediaAct,
  MediaGiven,
  MediaTaken,
  MediaStirred,
  MediaActed,
  Committed,
  LineRemoved,
  LendsMedia,
  WriterLent,
  RxExpected,
  TxDeclared,
  RxLent,
  TxLent,
  RxNamedLent,
  TxNamedLent,
  TxReset,
  StirsMedia,
  Configured,
  Prepared,
  Keyed,
  EventTold,
  FallibleTold,
  FeedbackCleared,
  StatsVisited,
  RedSet,
  TwccEnabled,
  AppFed,
  PliFed,
  RxRemoved,
  TxRemoved,
  is_preparing,
  changes_pending,
}
use Rattle.rtc_faulty.specs.declared.faulty.Faulty.{Faulty}
use Rattle.rtc_faulty.specs.Numbering.{is_failing, one_fault_more}
use Rattle.rtc_faulty.specs.FaultyLemmas.{failed_or_reached, reaches-faults}
use Rattle.rtc_faulty.specs.FaultyMedia.{faulty_media}

module _ {M E X T W : Type 0} (m : MediaMeaning M E X T W) where
  -- a call failed before the part inside
  abbrev pub FailedMedia : Faulty M → Faulty M → Type 0
  FailedMedia p q = (q.inner ≡ p.inner) × (q.numbers.faults ≡ one_fault_more p.numbers.faults)

  -- an act failed before the part inside, or is one of it that changes what is prepared if this one does
  abbrev pub MediaActInside : (p : Faulty M) (act : MediaAct) (q : Faulty M) → MediaActed (faulty_media m) p act q → Type 0
  MediaActInside p act q h = FailedMedia p q ⊎ ((k : MediaActed m p.inner act q.inner)
      × ((changes_pending m p.inner q.inner act k ≡ changes_pending (faulty_media m) p q act h) × (q.numbers.faults ≡ p.numbers.faults)))

  abbrev pub MediaLoanInside : (p q : Faulty M) → Type 0
  MediaLoanInside p q = LendsMedia m p.inner q.inner × (q.numbers.faults ≡ p.numbers.faults)

  pub media_loan_inside : (p q : Faulty M) → LendsMedia (faulty_media m) p q → MediaLoanInside p q
  media_loan_inside p q (WriterLent mid lent left h) = (WriterLent mid lent left h.0, reaches-faults p q h.1)
  media_loan_inside p q (RxExpected ssrc rtx mid rid lent left h) = (RxExpected ssrc rtx mid rid lent left h.0, reaches-faults p q h.1)
  media_loan_inside p q (TxDeclared ssrc rtx mid rid lent left h) = (TxDeclared ssrc rtx mid rid lent left h.0, reaches-faults p q h.1)
  media_loan_inside p q (RxLent ssrc lent left h) = (RxLent ssrc lent left h.0, reaches-faults p q h.1)
  media_loan_inside p q (TxLent ssrc lent left h) = (TxLent ssrc lent left h.0, reaches-faults p q h.1)
  media_loan_inside p q (RxNamedLent mid rid lent left h) = (RxNamedLent mid rid lent left h.0, reaches-faults p q h.1)
  media_loan_inside p q (TxNamedLent mid rid lent left h) = (TxNamedLent mid rid lent left h.0, reaches-faults p q h.1)
  media_loan_inside p q (TxReset mid rid ssrc rtx lent left h) = (TxReset mid rid ssrc rtx lent left h.0, reaches-faults p q h.1)

  abbrev pub MediaStirInside : (p q : Faulty M) → StirsMedia (faulty_media m) p q → Type 0
  MediaStirInside p q h = FailedMedia p q ⊎ ((k : StirsMedia m p.inner q.inner)
      × ((is_preparing m p.inner q.inner k ≡ is_preparing (faulty_media m) p q h) × (q.numbers.faults ≡ p.numbers.faults)))

  fallible_inside : (p q : Faulty M) (now : ℕ) (r : Result (Option E) MediaError) (h : (faulty_media m).told_fallible p now r q)
      → MediaStirInside p q (FallibleTold now r h)
  fallible_inside p q now r h =
      elim (failed_or_reached Rtp (λ _. false) (λ i a j. m.told_fallible i now a j) (is_failing p.numbers) p q r h) [
        | inl f ↦ inl (f.inner, f.faults)
        | inr k ↦ inr (FallibleTold now r k.did, (refl, k.faults))
      ]

  pub media_stir_inside : (p q : Faulty M) (h : StirsMedia (faulty_media m) p q) → MediaStirInside p q h
  media_stir_inside p q (Configured settings h) = inr (Configured settings h.0, (refl, reaches-faults p q h.1))
  media_stir_inside p q (Prepared updates (Ok x) h) = inr (Prepared updates (Ok x) h.0, (refl, reaches-faults p q h.1))
  media_stir_inside p q (Prepared updates (Err e) h) = inr (Prepared updates (Err e) h.0, (refl, reaches-faults p q h.1))
  media_stir_inside p q (Keyed key profile active r h) = inr (Keyed key profile active r h.0, (refl, reaches-faults p q h.1))
  media_stir_inside p q (EventTold e h) = inr (EventTold e h.0, (refl, reaches-faults p q h.1))
  media_stir_inside p q (FallibleTold now r h) = fallible_inside p q now r h
  media_stir_inside p q (FeedbackCleared h) = inr (FeedbackCleared h.0, (refl, reaches-faults p q h.1))
  media_stir_inside p q (StatsVisited now s r t h) = inr (StatsVisited now s r t h.0, (refl, reaches-faults p q h.1))
  media_stir_inside p q (RedSet mid on b h) = inr (RedSet mid on b h.0, (refl, reaches-faults p q h.1))
  media_stir_inside p q (TwccEnabled h) = inr (TwccEnabled h.0, (refl, reaches-faults p q h.1))
  media_stir_inside p q (AppFed sender media payload r h) = inr (AppFed sender media payload r h.0, (refl, reaches-faults p q h.1))
  media_stir_inside p q (PliFed sender media r h) = inr (PliFed sender media r h.0, (refl, reaches-faults p q h.1))
  media_stir_inside p q (RxRemoved ssrc b h) = inr (RxRemoved ssrc b h.0, (refl, reaches-faults p q h.1))
  media_stir_inside p q (TxRemoved ssrc b h) = inr (TxRemoved ssrc b h.0, (refl, reaches-faults p q h.1))

  timed_inside : (p q : Faulty M) (now : ℕ) (h : MediaActed (faulty_media m) p (MediaStirred (Timed now)) q)
      → MediaActInside p (MediaStirred (Timed now)) q h
  timed_inside p q now h = elim (failed_or_reached Rtp (λ _. true) (λ i a j. m.timed i now a j) (is_failing p.numbers) p q h.0 h.1) [
    | inl f ↦ inl (f.inner, f.faults)
    | inr k ↦ inr ((h.0, k.did), (refl, k.faults))
  ]

  stirred_inside : (p q : Faulty M) (h : StirsMedia (faulty_media m) p q) → MediaActInside p (MediaStirred Other) q (inr (inr h))
  stirred_inside p q h = elim (media_stir_inside p q h) [
    | inl f ↦ inl f
    | inr k ↦ inr (inr (inr k.0), (k.1.0, k.1.1))
  ]

  pub media_act_inside : (p q : Faulty M) (act : MediaAct) (h : MediaActed (faulty_media m) p act q) → MediaActInside p act q h
  media_act_inside p q (MediaGiven packet) (now, (r, inl h)) = inr ((now, (r, inl h.0)), (refl, reaches-faults p q h.1))
  media_act_inside p q (MediaGiven packet) (now, (r, inr h)) = inr ((now, (r, inr h.0)), (refl, reaches-faults p q h.1))
  media_act_inside p q (MediaTaken datagram) (now, h) = inr ((now, h.0), (refl, reaches-faults p q h.1))
  media_act_inside p q (MediaStirred (Timed now)) h = timed_inside p q now h
  media_act_inside p q (MediaStirred Shut) (r, h) = inr ((r, h.0), (refl, reaches-faults p q h.1))
  media_act_inside p q (MediaStirred Other) (inl (Committed h)) = inr (inl (Committed h.0), (refl, reaches-faults p q h.1))
  media_act_inside p q (MediaStirred Other) (inl (LineRemoved mid h)) = inr (inl (LineRemoved mid h.0), (refl, reaches-faults p q h.1))
  media_act_inside p q (MediaStirred Other) (inr (inl h)) = let k = media_loan_inside p q h in inr (inr (inl k.0), (refl, k.1))
  media_act_inside p q (MediaStirred Other) (inr (inr h)) = stirred_inside p q h
