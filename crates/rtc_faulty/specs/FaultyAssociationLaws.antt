-- An association that fails at listed calls keeps the laws of every association.
use Rattle.std.proofs.Common.{
  ℕ,
  ◌≡◌,
  ◌+◌,
  ◌≤◌,
  ◌⊎◌,
  ◌++◌,
  inl,
  inr,
  Bool,
  true,
  false,
  List,
  [],
  ◌∷◌,
  length,
  Option,
  Some,
  None,
  Result,
  Ok,
  Err,
  refl,
  sym,
  ap,
  subst,
  ◌∙◌,
  arith,
  append-nil,
}
use Rattle.std.specs.Prelude.{if◌then◌else◌}
use Rattle.rtc_parts.specs.declared.assoc_error.AssocError.{AssocError}
use Rattle.rtc_parts.specs.declared.assoc_error.AssocError.TheVariants.{
  StreamExists,
  ResetPending,
  Fault,
  Alloc,
}
use Rattle.rtc_parts.specs.declared.ppi.Ppi.{Ppi}
use Rattle.rtc_parts.specs.AssociationMeaning.{AssociationMeaning}
use Rattle.rtc_parts.specs.AssociationNeeds.{Answered, closing_need, open_need, write_need, end_need, stream_need}
use Rattle.rtc_parts.specs.AssociationActs.{AssociationAct, Acted, starts, writes_to, brings_threshold}
use Rattle.rtc_parts.specs.AssociationWords.{told}
use Rattle.rtc_parts.specs.AssociationEvents.{AddsEvents}
use Rattle.rtc_parts.specs.AssociationLaws.{AssociationLaws, LeavesStarted, Buffers, IsSilent}
use Rattle.rtc_faulty.specs.declared.faulty.Faulty.{Faulty}
use Rattle.rtc_faulty.specs.Numbering.{is_failing, number_used}
use Rattle.rtc_faulty.specs.FaultyCalls.{CanFail}
use Rattle.rtc_faulty.specs.FaultyLemmas.{
  rose_outside,
  later_inside,
  later_outside,
  never_fault,
  failed_or_reached,
  holds_after,
  reaches_same,
}
use Rattle.rtc_faulty.specs.FaultyAssociation.{faulty_association, opening_counts, reading_counts}
use Rattle.rtc_faulty.specs.FaultyAssociationResults.{answered_inside, unnumbered, no_fault}
use Rattle.rtc_faulty.specs.FaultyAssociationActs.{wrote_inside, read_inside, association_act_inside}

module _ {S : Type 0} (m : AssociationMeaning S) (w : AssociationLaws m) where
  abbrev Whole : AssociationMeaning (Faulty S)
  Whole = faulty_association m

  abbrev Call : Type 0 → Type 1
  Call T = S → Result T AssocError → S → Type 0

  answered : {T : Type 0} (cause : Option AssocError) (uses : Result T AssocError
      → Bool) (R : Call T) (p q : Faulty S) (r : Result T AssocError)
      → (R p.inner r q.inner → Answered cause (m.faults p.inner) (m.faults q.inner) r)
      → CanFail (is_failing p.numbers) Fault uses R p r q → Answered cause (Whole.faults p) (Whole.faults q) r
  answered {T} cause uses R p q r law h = elim (failed_or_reached Fault uses R (is_failing p.numbers) p q r h) [
    | inl f ↦ subst (λ (a : Result T AssocError). Answered cause (Whole.faults p) (Whole.faults q) a) (sym f.answer)
        (rose_outside (m.faults p.inner) (m.faults q.inner) p.numbers.faults q.numbers.faults (ap m.faults f.inner) f.faults)
    | inr k ↦ answered_inside cause (m.faults p.inner) (m.faults q.inner) p.numbers.faults q.numbers.faults r k.faults (law k.did)
  ]

  -- starting
  leaves_inside : (max : ℕ) (r : Result (Unit {0}) AssocError) (q : Faulty S) → LeavesStarted m max r q.inner
      → LeavesStarted Whole max r q
  leaves_inside max (Ok x) q h = h
  leaves_inside max (Err e) q h = h

  leaves : (max : ℕ) (R : Call (Unit {0})) (p q : Faulty S) (r : Result (Unit {0}) AssocError) → m.started p.inner ≡ false
      → (R p.inner r q.inner → LeavesStarted m max r q.inner) → CanFail (is_failing p.numbers) Fault (λ _. true) R p r q
      → LeavesStarted Whole max r q
  leaves max R p q r s law h = elim (failed_or_reached Fault (λ _. true) R (is_failing p.numbers) p q r h) [
    | inl f ↦ subst (λ (a : Result (Unit {0}) AssocError). LeavesStarted Whole max a q) (sym f.answer) (ap m.started f.inner ∙ s)
    | inr k ↦ leaves_inside max r q (law k.did)
  ]

  same_generation : (id : ℕ) (R : Call (Unit {0})) (p q : Faulty S) (r : Result (Unit {0}) AssocError)
      → (R p.inner r q.inner → m.generation q.inner id ≡ m.generation p.inner id)
      → CanFail (is_failing p.numbers) Fault (λ _. true) R p r q → m.generation q.inner id ≡ m.generation p.inner id
  same_generation id R p q r law h = holds_after Fault (λ _. true) R (λ (i : S). m.generation i id ≡ m.generation p.inner id)
      (is_failing p.numbers) p q r refl law h

  buffers_inside : (p q : Faulty S) (id n : ℕ) → Buffers m p.inner id n q.inner → Buffers Whole p id n q
  buffers_inside p q id n b = record { rises = b.rises; bound = b.bound; others = b.others }

  -- what is read as none, or refused without a number, changes nothing and is returned so again
  reads_none : (b : Bool) (p q : Faulty S) (id : ℕ) → CanFail b Fault reading_counts (λ i a j. m.read i id a j) p (Ok None) q → q ≡ p
  reads_none true p q id h = absurd (never_fault None Fault h.0)
  reads_none false p q id h = reaches_same p q (w.read_none p.inner q.inner id h.0) h.1

  reads_none_again : (b : Bool) (p q o : Faulty S) (id : ℕ) (r : Result (Option (Ppi × List ℕ)) AssocError)
      → CanFail b Fault reading_counts (λ i a j. m.read i id a j) p (Ok None) q
      → CanFail b Fault reading_counts (λ i a j. m.read i id a j) p r o → (r ≡ Ok None) ⊎ (r ≡ Err Alloc)
  reads_none_again true p q o id r h k = absurd (never_fault None Fault h.0)
  reads_none_again false p q o id r h k = w.read_none_again p.inner q.inner o.inner id r h.0 k.0

  opens_same : (b : Bool) (p q : Faulty S) (id : ℕ) (e : AssocError) → (e ≡ StreamExists) ⊎ (e ≡ ResetPending)
      → CanFail b Fault opening_counts (λ i a j. m.opened i id a j) p (Err e) q → q ≡ p
  opens_same true p q id e s h = absurd (no_fault e s h.0)
  opens_same false p q id e s h = reaches_same p q (w.open_refused p.inner q.inner id e s h.0)
      (h.1 ∙ ap (λ (t : Bool). record p { inner = q.inner; numbers = if t then number_used p.numbers else p.numbers }) (unnumbered e s))

  opens_same_again : (b : Bool) (p q o : Faulty S) (id : ℕ) (e : AssocError) (r : Result (Unit {0}) AssocError)
      → (e ≡ StreamExists) ⊎ (e ≡ ResetPending) → CanFail b Fault opening_counts (λ i a j. m.opened i id a j) p (Err e) q
      → CanFail b Fault opening_counts (λ i a j. m.opened i id a j) p r o → (r ≡ Err e) ⊎ (r ≡ Err Alloc)
  opens_same_again true p q o id e r s h k = absurd (no_fault e s h.0)
  opens_same_again false p q o id e r s h k = w.open_refused_again p.inner q.inner o.inner id e r s h.0 k.0

  -- by acts
  starts_same : (p q : Faulty S) (act : AssociationAct) → starts act ≡ false → Acted Whole p act q
      → (m.started q.inner ≡ m.started p.inner) × (m.max_send q.inner ≡ m.max_send p.inner)
  starts_same p q act s h = elim (association_act_inside m p q act h) [
    | inl f ↦ (ap m.started f.1.0, ap m.max_send f.1.0)
    | inr k ↦ w.same_start p.inner q.inner act s k.0
  ]

  adds_none : (p q : Faulty S) (act : AssociationAct) → told (act ∷ []) ≡ [] → q.inner ≡ p.inner → AddsEvents Whole p (act ∷ []) q
  adds_none p q act silent same = record {
    more = [];
    due_is = ap (λ l. l ++ m.due q.inner) silent ∙ ap m.due same ∙ sym (append-nil (m.due p.inner));
    rises = λ id. omega (arith, ap (λ (i : S). m.generation i id) same);
    in_order = λ id. ap (λ (i : S). m.finished i id) same;
    readable = λ id g u. inl (ap (λ (i : S). m.has_unread i id g) (sym same) ∙ u);
    gone = λ id there. inl (ap (λ (i : S). m.has_stream i id) same ∙ there);
  }

  adds_inside : (p q : Faulty S) (acts : List AssociationAct) → AddsEvents m p.inner acts q.inner → AddsEvents Whole p acts q
  adds_inside p q acts a = record {
    more = a.more;
    due_is = a.due_is;
    rises = a.rises;
    in_order = a.in_order;
    readable = a.readable;
    gone = a.gone;
  }

  adds_events : (p q : Faulty S) (act : AssociationAct) → Acted Whole p act q → AddsEvents Whole p (act ∷ []) q
  adds_events p q act h = elim (association_act_inside m p q act h) [
    | inl f ↦ adds_none p q act f.0 f.1.0
    | inr k ↦ adds_inside p q (act ∷ []) (w.adds p.inner q.inner act k.0)
  ]

  silences : (p q : Faulty S) (act : AssociationAct) → Acted Whole p act q → IsSilent Whole p → IsSilent Whole q
  silences p q act h quiet = elim (association_act_inside m p q act h) [
    | inl f ↦ subst (λ (i : S). IsSilent m i) (sym f.1.0) quiet
    | inr k ↦ w.closed_silent p.inner q.inner act k.0 quiet
  ]

  acknowledges : (p q : Faulty S) (act : AssociationAct) (id : ℕ) → writes_to id act ≡ false → Acted Whole p act q
      → m.unacknowledged q.inner id ≤ m.unacknowledged p.inner id
  acknowledges p q act id other h = elim (association_act_inside m p q act h) [
    | inl f ↦ omega (arith, ap (λ (i : S). m.unacknowledged i id) f.1.0)
    | inr k ↦ w.unacknowledged_falls p.inner q.inner act id other k.0
  ]

  never_falls : (p q : Faulty S) (act : AssociationAct) → Acted Whole p act q → Whole.faults p ≤ Whole.faults q
  never_falls p q act h = elim (association_act_inside m p q act h) [
    | inl f ↦ later_outside (m.faults p.inner) (m.faults q.inner) p.numbers.faults q.numbers.faults (ap m.faults f.1.0) f.1.1
    | inr k ↦ later_inside (m.faults p.inner) (m.faults q.inner) p.numbers.faults q.numbers.faults k.1.1
        (w.faults_rise p.inner q.inner act k.0)
  ]

  none_brought : (p q : Faulty S) (act : AssociationAct) (h : Acted Whole p act q) → brings_threshold Whole p q act h ≡ false
      → m.has_threshold p.inner ≡ false → m.has_threshold q.inner ≡ false
  none_brought p q act h e none = elim (association_act_inside m p q act h) [
    | inl f ↦ ap m.has_threshold f.1.0 ∙ none
    | inr k ↦ w.no_threshold p.inner q.inner act k.0 (k.1.0 ∙ e) none
  ]

  -- the units of work after a numbered call
  works : {T : Type 0} (more : ℕ) (uses : Result T AssocError → Bool) (R : Call T) (p q : Faulty S) (r : Result T AssocError)
      → (R p.inner r q.inner → m.units q.inner ≤ m.units p.inner + more) → CanFail (is_failing p.numbers) Fault uses R p r q
      → m.units q.inner ≤ m.units p.inner + more
  works more uses R p q r law h =
      holds_after Fault uses R (λ (i : S). m.units i ≤ m.units p.inner + more) (is_failing p.numbers) p q r (omega arith) law h

  rests : {T : Type 0} (uses : Result T AssocError → Bool) (R : Call T) (p q : Faulty S) (r : Result T AssocError)
      → (R p.inner r q.inner → m.units q.inner ≤ m.units p.inner) → CanFail (is_failing p.numbers) Fault uses R p r q
      → m.units q.inner ≤ m.units p.inner
  rests uses R p q r law h =
      holds_after Fault uses R (λ (i : S). m.units i ≤ m.units p.inner) (is_failing p.numbers) p q r (omega arith) law h

  written_works : (p q : Faulty S) (id : ℕ) (ppi : Ppi) (bytes : List ℕ) (r : Result ℕ AssocError) → Whole.wrote p id ppi bytes r q
      → m.units q.inner ≤ m.units p.inner + length bytes + 2
  written_works p q id ppi bytes r h = holds_after Fault (λ _. true) (λ i a j. m.wrote i id ppi bytes a j)
      (λ (i : S). m.units i ≤ m.units p.inner + length bytes + 2) (is_failing p.numbers) p q r (omega arith)
      (w.write_units p.inner q.inner id ppi bytes r) h

  pub faulty_association_laws : AssociationLaws (faulty_association m)
  faulty_association_laws = record {
    fresh_not_started = λ p f. w.fresh_not_started p.inner f.inner;
    fresh_no_threshold = λ p f. w.fresh_no_threshold p.inner f.inner;
    fresh_due = λ p f. w.fresh_due p.inner f.inner;
    fresh_generation = λ p id f. w.fresh_generation p.inner id f.inner;
    fresh_finished = λ p id f. w.fresh_finished p.inner id f.inner;
    fresh_unread = λ p id g f. w.fresh_unread p.inner id g f.inner;
    connect_answer = λ p q now max r h.
        answered None (λ _. true) (λ i a j. m.connected i now max a j) p q r (w.connect_answer p.inner q.inner now max r) h;
    accept_answer = λ p q now max r h.
        answered None (λ _. true) (λ i a j. m.accepted i now max a j) p q r (w.accept_answer p.inner q.inner now max r) h;
    snap_answer = λ p q now max ours theirs r h. answered None (λ _. true) (λ i a j. m.connected_snap i now max ours theirs a j) p q r
        (w.snap_answer p.inner q.inner now max ours theirs r) h;
    open_answer = λ p q id r h.
        answered (open_need m p.inner id) opening_counts (λ i a j. m.opened i id a j) p q r (w.open_answer p.inner q.inner id r) h;
    write_answer = λ p q id ppi bytes r h.
        answered (write_need m p.inner id bytes) (λ _. true) (λ i a j. m.wrote i id ppi bytes a j) p q r
        (w.write_answer p.inner q.inner id ppi bytes r) h;
    read_answer = λ p q id r h.
        answered (stream_need m p.inner id) reading_counts (λ i a j. m.read i id a j) p q r (w.read_answer p.inner q.inner id r) h;
    end_answer = λ p q id r h.
        answered (end_need m p.inner id) (λ _. true) (λ i a j. m.ended i id a j) p q r (w.end_answer p.inner q.inner id r) h;
    threshold_answer = λ p q id n r h. answered (stream_need m p.inner id) (λ _. true) (λ i a j. m.threshold_set i id n a j) p q r
        (w.threshold_answer p.inner q.inner id n r) h;
    reliability_answer = λ p q id unordered t n r h.
        answered (stream_need m p.inner id) (λ _. true) (λ i a j. m.reliability_set i id unordered t n a j) p q r
        (w.reliability_answer p.inner q.inner id unordered t n r) h;
    shut_answer = λ p q r h.
        answered (closing_need m p.inner) (λ _. true) (λ i a j. m.shut i a j) p q r (w.shut_answer p.inner q.inner r) h;
    connect_starts = λ p q now max r s h.
        leaves max (λ i a j. m.connected i now max a j) p q r s (w.connect_starts p.inner q.inner now max r s) h;
    accept_starts = λ p q now max r s h.
        leaves max (λ i a j. m.accepted i now max a j) p q r s (w.accept_starts p.inner q.inner now max r s) h;
    snap_starts = λ p q now max ours theirs r s h. leaves max (λ i a j. m.connected_snap i now max ours theirs a j) p q r s
        (w.snap_starts p.inner q.inner now max ours theirs r s) h;
    same_start = starts_same;
    connect_generation = λ p q now max id r h.
        same_generation id (λ i a j. m.connected i now max a j) p q r (w.connect_generation p.inner q.inner now max id r) h;
    accept_generation = λ p q now max id r h.
        same_generation id (λ i a j. m.accepted i now max a j) p q r (w.accept_generation p.inner q.inner now max id r) h;
    snap_generation = λ p q now max id ours theirs r h. same_generation id (λ i a j. m.connected_snap i now max ours theirs a j) p q r
        (w.snap_generation p.inner q.inner now max id ours theirs r) h;
    write_count = λ p q id ppi bytes n h. w.write_count p.inner q.inner id ppi bytes n (wrote_inside m p q id ppi bytes n h).did;
    write_buffers = λ p q id ppi bytes n h.
        buffers_inside p q id (length bytes) (w.write_buffers p.inner q.inner id ppi bytes n (wrote_inside m p q id ppi bytes n h).did);
    read_none = λ p q id h. reads_none (is_failing p.numbers) p q id h;
    read_none_again = λ p q o id r h k. reads_none_again (is_failing p.numbers) p q o id r h k;
    open_refused = λ p q id e s h. opens_same (is_failing p.numbers) p q id e s h;
    open_refused_again = λ p q o id e r s h k. opens_same_again (is_failing p.numbers) p q o id e r s h k;
    read_unread = λ p q id message h. w.read_unread p.inner q.inner id message (read_inside m p q id (Some message) h).did;
    none_unread = λ p q id h. w.none_unread p.inner q.inner id (read_inside m p q id None h).did;
    stale_there = λ p id h. w.stale_there p.inner id h;
    stale_closed = λ p id h. w.stale_closed p.inner id h;
    none_buffered = λ p id h. w.none_buffered p.inner id h;
    there_buffered = λ p id h. w.there_buffered p.inner id h;
    unacknowledged_falls = acknowledges;
    adds = adds_events;
    poll_head = λ p q event h. w.poll_head p.inner q.inner event h.0;
    poll_none = λ p q h. w.poll_none p.inner q.inner h.0;
    closed_silent = silences;
    faults_rise = never_falls;
    event_none = λ p q h. reaches_same p q (w.event_none p.inner q.inner h.0) h.1;
    packet_none = λ p q h. reaches_same p q (w.packet_none p.inner q.inner h.0) h.1;
    event_falls = λ p q event h. w.event_falls p.inner q.inner event h.0;
    packet_falls = λ p q packet h. w.packet_falls p.inner q.inner packet h.0;
    quiet_event = λ p none. (w.quiet_event p.inner none, refl);
    quiet_packet = λ p none. (w.quiet_packet p.inner none, refl);
    silent = λ p q o h k. w.silent p.inner q.inner o.inner h.0 k.0;
    packet_short = λ p q packet h. w.packet_short p.inner q.inner packet h.0;
    event_units = λ p q event h. w.event_units p.inner q.inner event h.0;
    packet_units = λ p q packet h. w.packet_units p.inner q.inner packet h.0;
    read_units = λ p q id message h. w.read_units p.inner q.inner id message (read_inside m p q id (Some message) h).did;
    read_refused_units = λ p q id e h.
        rests reading_counts (λ i a j. m.read i id a j) p q (Err e) (w.read_refused_units p.inner q.inner id e) h;
    open_units = λ p q id r h. rests opening_counts (λ i a j. m.opened i id a j) p q r (w.open_units p.inner q.inner id r) h;
    threshold_units = λ p q id n r h.
        rests (λ _. true) (λ i a j. m.threshold_set i id n a j) p q r (w.threshold_units p.inner q.inner id n r) h;
    reliability_units = λ p q id unordered t n r h. rests (λ _. true) (λ i a j. m.reliability_set i id unordered t n a j) p q r
        (w.reliability_units p.inner q.inner id unordered t n r) h;
    write_units = written_works;
    end_units = λ p q id r h. works 2 (λ _. true) (λ i a j. m.ended i id a j) p q r (w.end_units p.inner q.inner id r) h;
    shut_units = λ p q r h. works 2 (λ _. true) (λ i a j. m.shut i a j) p q r (w.shut_units p.inner q.inner r) h;
    given_units = λ p q now bytes r none h. w.given_units p.inner q.inner now bytes r none h.0;
    no_threshold = none_brought;
  }
