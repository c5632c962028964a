-- A DTLS part that fails at listed calls keeps the laws of every DTLS part.
use Rattle.std.proofs.Common.{
  ℕ,
  ◌≡◌,
  ◌+◌,
  ◌≤◌,
  ◌⊎◌,
  inl,
  inr,
  Bool,
  true,
  false,
  List,
  [],
  ◌∷◌,
  Result,
  Ok,
  Err,
  refl,
  sym,
  ap,
  subst,
  arith,
}
use Rattle.rtc_parts.specs.declared.dtls_error.DtlsError.{DtlsError}
use Rattle.rtc_parts.specs.declared.dtls_error.DtlsError.TheVariants.{WouldBlock, Fault, Alloc}
use Rattle.rtc_parts.specs.DtlsMeaning.{DtlsMeaning}
use Rattle.rtc_parts.specs.DtlsActs.{
  DtlsAct,
  DtlsCall,
  Given,
  Taken,
  Sent,
  Got,
  Stirred,
  CertificateSet,
  Activated,
  VersionSet,
  SendRefused,
  TimedAt,
  Closed,
  Showed,
  DtlsCalled,
  DtlsActed,
  DtlsMoved,
}
use Rattle.rtc_parts.specs.DtlsLaws.{DtlsLaws, DtlsAnswered, SendAnswered, IsLater}
use Rattle.rtc_faulty.specs.declared.faulty.Faulty.{Faulty}
use Rattle.rtc_faulty.specs.Numbering.{is_failing, one_fault_more}
use Rattle.rtc_faulty.specs.FaultyCalls.{CanFail}
use Rattle.rtc_faulty.specs.FaultyLemmas.{
  rose_inside,
  rose_outside,
  later_inside,
  later_outside,
  never_fault,
  failed_or_reached,
  holds_after,
  reached_unless_fault,
  reaches-faults,
  reaches_same,
}
use Rattle.rtc_faulty.specs.FaultyDtls.{faulty_dtls, dtls_answer_counts}

-- results
answered_inside : (i j f g : ℕ) (r : Result (Unit {0}) DtlsError) → g ≡ f → DtlsAnswered i j r → DtlsAnswered (i + f) (j + g) r
answered_inside i j f g (Ok x) e h = later_inside i j f g e h
answered_inside i j f g (Err WouldBlock) e h = absurd h
answered_inside i j f g (Err Fault) e h = rose_inside i j f g e h
answered_inside i j f g (Err Alloc) e h = later_inside i j f g e h

send_inside : (done : Bool) (i j f g : ℕ) (r : Result (Unit {0}) DtlsError) → g ≡ f → SendAnswered done i j r
    → SendAnswered done (i + f) (j + g) r
send_inside done i j f g (Ok x) e h = later_inside i j f g e h
send_inside done i j f g (Err WouldBlock) e h = h
send_inside done i j f g (Err Fault) e h = rose_inside i j f g e h
send_inside done i j f g (Err Alloc) e h = later_inside i j f g e h

-- a refusal
abbrev refused : DtlsError → Result (Unit {0}) DtlsError
refused e = Err e

waits : refused WouldBlock ≡ refused Fault → ⊥
waits h = let e : false ≡ true = ap dtls_answer_counts h in cc

module _ {D : Type 0} (m : DtlsMeaning D) (w : DtlsLaws m) where
  abbrev Whole : DtlsMeaning (Faulty D)
  Whole = faulty_dtls m

  abbrev Call : Type 1
  Call = D → Result (Unit {0}) DtlsError → D → Type 0

  answered : (uses : Result (Unit {0}) DtlsError → Bool) (R : Call) (p q : Faulty D) (r : Result (Unit {0}) DtlsError)
      → (R p.inner r q.inner → DtlsAnswered (m.faults p.inner) (m.faults q.inner) r)
      → CanFail (is_failing p.numbers) Fault uses R p r q → DtlsAnswered (Whole.faults p) (Whole.faults q) r
  answered uses R p q r law h = elim (failed_or_reached Fault uses R (is_failing p.numbers) p q r h) [
    | inl f ↦ subst (DtlsAnswered (Whole.faults p) (Whole.faults q)) (sym f.answer)
        (rose_outside (m.faults p.inner) (m.faults q.inner) p.numbers.faults q.numbers.faults (ap m.faults f.inner) f.faults)
    | inr k ↦ answered_inside (m.faults p.inner) (m.faults q.inner) p.numbers.faults q.numbers.faults r k.faults (law k.did)
  ]

  sent_answered : (p q : Faulty D) (bytes : List ℕ) (r : Result (Unit {0}) DtlsError) → Whole.sent p bytes r q
      → SendAnswered (m.finished p.inner) (Whole.faults p) (Whole.faults q) r
  sent_answered p q bytes r h =
      elim (failed_or_reached Fault dtls_answer_counts (λ i a j. m.sent i bytes a j) (is_failing p.numbers) p q r h) [
        | inl f ↦ subst (SendAnswered (m.finished p.inner) (Whole.faults p) (Whole.faults q)) (sym f.answer)
            (rose_outside (m.faults p.inner) (m.faults q.inner) p.numbers.faults q.numbers.faults (ap m.faults f.inner) f.faults)
        | inr k ↦ send_inside (m.finished p.inner) (m.faults p.inner) (m.faults q.inner) p.numbers.faults q.numbers.faults r k.faults
            (w.sent_answer p.inner q.inner bytes r k.did)
      ]

  -- what has to wait changes nothing, and has to wait again
  blocks : (b : Bool) (p q : Faulty D) (bytes : List ℕ)
      → CanFail b Fault dtls_answer_counts (λ i a j. m.sent i bytes a j) p (Err WouldBlock) q → q ≡ p
  blocks true p q bytes h = absurd (waits h.0)
  blocks false p q bytes h = reaches_same p q (w.blocked p.inner q.inner bytes h.0) h.1

  blocks_again : (b : Bool) (p q o : Faulty D) (bytes others : List ℕ) (r : Result (Unit {0}) DtlsError)
      → CanFail b Fault dtls_answer_counts (λ i a j. m.sent i bytes a j) p (Err WouldBlock) q
      → CanFail b Fault dtls_answer_counts (λ i a j. m.sent i others a j) p r o → (r ≡ Err WouldBlock) ⊎ (r ≡ Err Alloc)
  blocks_again true p q o bytes others r h k = absurd (waits h.0)
  blocks_again false p q o bytes others r h k = w.blocked_again p.inner q.inner o.inner bytes others r h.0 k.0

  -- an act failed before the part inside, or is one of it
  abbrev Inside : Faulty D → DtlsAct → Faulty D → Type 0
  Inside p act q = ((q.inner ≡ p.inner) × (q.numbers.faults ≡ one_fault_more p.numbers.faults))
      ⊎ (DtlsActed m p.inner act q.inner × (q.numbers.faults ≡ p.numbers.faults))

  numbered_inside : (uses : Result (Unit {0}) DtlsError → Bool) (R : Call) (act : DtlsAct) (p q : Faulty D)
      (r : Result (Unit {0}) DtlsError) → (R p.inner r q.inner → DtlsActed m p.inner act q.inner)
      → CanFail (is_failing p.numbers) Fault uses R p r q → Inside p act q
  numbered_inside uses R act p q r step h = elim (failed_or_reached Fault uses R (is_failing p.numbers) p q r h) [
    | inl f ↦ inl (f.inner, f.faults)
    | inr k ↦ inr (step k.did, k.faults)
  ]

  call_inside : (p q : Faulty D) (call : DtlsCall) → DtlsCalled Whole p call q → Inside p (Stirred call) q
  call_inside p q (CertificateSet cert r) h = inr (h.0, reaches-faults p q h.1)
  call_inside p q (Activated active) h = inr (h.0, reaches-faults p q h.1)
  call_inside p q (VersionSet v) h = inr (h.0, reaches-faults p q h.1)
  call_inside p q (SendRefused bytes e) h =
      numbered_inside dtls_answer_counts (λ i a j. m.sent i bytes a j) (Stirred (SendRefused bytes e)) p q (Err e) (λ k. k) h
  call_inside p q (TimedAt now r) h =
      numbered_inside (λ _. true) (λ i a j. m.timed i now a j) (Stirred (TimedAt now r)) p q r (λ k. k) h
  call_inside p q (Closed r) h = numbered_inside (λ _. true) (λ i a j. m.shut i a j) (Stirred (Closed r)) p q r (λ k. k) h
  call_inside p q (Showed drawn) h = inr ((h.0, h.1.0), reaches-faults p q h.1.1)

  act_inside : (p q : Faulty D) (act : DtlsAct) → DtlsActed Whole p act q → Inside p act q
  act_inside p q (Given packet) h =
      numbered_inside (λ _. true) (λ i a j. m.given i packet a j) (Given packet) p q h.0 (λ k. (h.0, k)) h.1
  act_inside p q (Taken packet) h = inr (h.0, reaches-faults p q h.1)
  act_inside p q (Sent bytes) h =
      numbered_inside dtls_answer_counts (λ i a j. m.sent i bytes a j) (Sent bytes) p q (Ok tt) (λ k. k) h
  act_inside p q (Got bytes) h = inr (h.0, reaches-faults p q h.1)
  act_inside p q (Stirred call) h = call_inside p q call h

  never_falls : (p q : Faulty D) (act : DtlsAct) → DtlsActed Whole p act q → Whole.faults p ≤ Whole.faults q
  never_falls p q act h = elim (act_inside p q act h) [
    | inl f ↦ later_outside (m.faults p.inner) (m.faults q.inner) p.numbers.faults q.numbers.faults (ap m.faults f.0) f.1
    | inr k ↦ later_inside (m.faults p.inner) (m.faults q.inner) p.numbers.faults q.numbers.faults k.1
        (w.faults_rise p.inner q.inner act k.0)
  ]

  -- over acts, those that reached the part inside
  moved_inside : (p q : Faulty D) (acts : List DtlsAct) → DtlsMoved Whole p acts q
      → (reached : List DtlsAct) × DtlsMoved m p.inner reached q.inner
  moved_inside p q [] h = ([], ap (λ (c : Faulty D). c.inner) h)
  moved_inside p q (act ∷ acts) h =
      let rest = moved_inside h.0 q acts h.1.1 in
      elim (act_inside p h.0 act h.1.0) [
        | inl f ↦ (rest.0, subst (λ (i : D). DtlsMoved m i rest.0 q.inner) f.0 rest.1)
        | inr k ↦ (act ∷ rest.0, (h.0.inner, (k.0, rest.1)))
      ]

  never_before : (p q r : Faulty D) (now : ℕ) (acts : List DtlsAct) → Whole.timed p now (Ok tt) q → DtlsMoved Whole q acts r
      → IsLater now (m.asks r.inner)
  never_before p q r now acts h k =
      let reached = reached_unless_fault Fault (λ _. true) (λ i a j. m.timed i now a j) (is_failing p.numbers) p q (Ok tt)
      (never_fault tt Fault) h in
      let moved = moved_inside q r acts k in
      w.asks_later p.inner q.inner r.inner now moved.0 reached.did moved.1

  pub faulty_dtls_laws : DtlsLaws (faulty_dtls m)
  faulty_dtls_laws = record {
    fresh_open = λ p f. w.fresh_open p.inner f.inner;
    fresh_unfinished = λ p f. w.fresh_unfinished p.inner f.inner;
    given_answer = λ p q packet r h.
        answered (λ _. true) (λ i a j. m.given i packet a j) p q r (w.given_answer p.inner q.inner packet r) h;
    timed_answer = λ p q now r h. answered (λ _. true) (λ i a j. m.timed i now a j) p q r (w.timed_answer p.inner q.inner now r) h;
    shut_answer = λ p q r h. answered (λ _. true) (λ i a j. m.shut i a j) p q r (w.shut_answer p.inner q.inner r) h;
    sent_answer = sent_answered;
    blocked = λ p q bytes h. blocks (is_failing p.numbers) p q bytes h;
    blocked_again = λ p q o bytes others r h k. blocks_again (is_failing p.numbers) p q o bytes others r h k;
    faults_rise = never_falls;
    timeout_none = λ p q moment h. reaches_same p q (w.timeout_none p.inner q.inner moment h.0) h.1;
    timeout_asks = λ p q moment h. w.timeout_asks p.inner q.inner moment h.0;
    silent = λ p q moment h. w.silent p.inner q.inner moment h.0;
    quiet = λ p none. (w.quiet p.inner none, refl);
    quiet_input = λ p none. w.quiet_input p.inner none;
    drawn_falls = λ p q drawn gives h. w.drawn_falls p.inner q.inner drawn gives h.0;
    drawn_short = λ p q drawn h. w.drawn_short p.inner q.inner drawn h.0;
    drawn_input = λ p q drawn h. w.drawn_input p.inner q.inner drawn h.0;
    drawn_output = λ p q drawn h. w.drawn_output p.inner q.inner drawn h.0;
    sent_input = λ p q bytes r h.
        holds_after Fault dtls_answer_counts (λ i a j. m.sent i bytes a j) (λ (i : D). m.units i ≤ m.units p.inner)
        (is_failing p.numbers) p q r (omega arith)
        (w.sent_input p.inner q.inner bytes r) h;
    sent_output = λ p q bytes r h.
        holds_after Fault dtls_answer_counts (λ i a j. m.sent i bytes a j)
        (λ (i : D). m.packets i ≤ m.packets p.inner + 1) (is_failing p.numbers) p q r (omega arith)
        (w.sent_output p.inner q.inner bytes r) h;
    timed_input = λ p q now r h.
        holds_after Fault (λ _. true) (λ i a j. m.timed i now a j) (λ (i : D). m.units i ≤ m.units p.inner)
        (is_failing p.numbers) p q r (omega arith)
        (w.timed_input p.inner q.inner now r) h;
    timed_output = λ p q now r h.
        holds_after Fault (λ _. true) (λ i a j. m.timed i now a j)
        (λ (i : D). m.packets i ≤ m.packets p.inner + 32) (is_failing p.numbers) p q r (omega arith)
        (w.timed_output p.inner q.inner now r) h;
    shut_input = λ p q r h.
        holds_after Fault (λ _. true) (λ i a j. m.shut i a j) (λ (i : D). m.units i ≤ m.units p.inner)
        (is_failing p.numbers) p q r (omega arith)
        (w.shut_input p.inner q.inner r) h;
    shut_output = λ p q r h.
        holds_after Fault (λ _. true) (λ i a j. m.shut i a j)
        (λ (i : D). m.packets i ≤ m.packets p.inner + 32) (is_failing p.numbers) p q r (omega arith)
        (w.shut_output p.inner q.inner r) h;
    asks_later = never_before;
    drawn_asks = λ p q drawn h. w.drawn_asks p.inner q.inner drawn h.0;
    sent_asks = λ p q bytes r h.
        holds_after Fault dtls_answer_counts (λ i a j. m.sent i bytes a j) (λ (i : D). m.asks p.inner ≤ m.asks i)
        (is_failing p.numbers) p q r (omega arith)
        (w.sent_asks p.inner q.inner bytes r) h;
    shut_asks = λ p q r h.
        holds_after Fault (λ _. true) (λ i a j. m.shut i a j) (λ (i : D). m.asks p.inner ≤ m.asks i)
        (is_failing p.numbers) p q r (omega arith)
        (w.shut_asks p.inner q.inner r) h;
  }
