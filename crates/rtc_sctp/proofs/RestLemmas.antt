-- Entries at rest stay so over acts of the association, events and changes of other entries.
use Rattle.std.proofs.Common.{◌≡◌, ◌≢◌, ◌⊎◌, inl, inr, ℕ, zero, suc, ◌+◌, ◌&&◌, Bool, true, false, true≢false, List, [], ◌∷◌, ◌++◌, length, length-append, Some, refl, sym, ap, subst, ◌∙◌, arith, take, drop, insert}
use Rattle.std.specs.Prelude.{slice_set}
use Rattle.std.proofs.lemmas.Bool.{cases_eq}
use Rattle.std.proofs.lemmas.Bool.Decides.{eqb_tells}
use Rattle.rtc_parts.specs.Among.{Member}
use Rattle.rtc_parts.specs.declared.assoc_event.AssocEvent.{AssocEvent}
use Rattle.rtc_parts.specs.declared.assoc_event.AssocEvent.TheVariants as assoc
use Rattle.rtc_parts.specs.AssociationMeaning.{AssociationMeaning}
use Rattle.rtc_parts.specs.AssociationLaws.{AssociationLaws}
use Rattle.rtc_parts.specs.AssociationActs.{Told}
use Rattle.rtc_parts.specs.AssociationWords.{completions}
use Rattle.rtc_parts.proofs.AmongLemmas.{member-left, member-right}
use Rattle.rtc_parts.proofs.AssociationLemmas.{adds_all}
use Rattle.rtc_sctp_values.specs.StreamIds.{StreamIds, has_id}
use Rattle.rtc_sctp_entries.specs.declared.stream_entry_state.StreamEntryState.{StreamEntryState}
use Rattle.rtc_sctp_entries.specs.declared.stream_entry_state.StreamEntryState.TheVariants.{AwaitOpen, AwaitConfig, AwaitDcepAck, Open, Closed}
use Rattle.rtc_sctp_entries.specs.declared.stream_entry.StreamEntry.{StreamEntry}
use Rattle.rtc_sctp_entries.specs.Entries.{fits_generation, is_retrying}
use Rattle.rtc_sctp_entries.specs.Visits.{is_entry_there}
use Rattle.rtc_sctp_entries.proofs.UntoldVisits.{UntoldBut}
use Rattle.rtc_sctp.specs.Rest.{IsTouched, IsWoken, AreNoted, Rests, RestsIn, OthersRest}

both_parts : (a b : Bool) → (a && b) ≡ true → (a ≡ true) × (b ≡ true)
both_parts true true h = (refl, refl)
both_parts true false h = absurd (true≢false (sym h))
both_parts false b h = absurd (true≢false (sym h))

both_true : (a b : Bool) → a ≡ true → b ≡ true → (a && b) ≡ true
both_true true b h k = k
both_true false b h k = absurd (true≢false (sym h))

-- a reset of a stream is among some events, or none is
pub completes : (id : ℕ) (events : List AssocEvent) → (completions id events ≡ 0) ⊎ Member (assoc.ResetComplete id) events
completes id [] = inl refl
completes id (assoc.ResetComplete t ∷ events) =
    elim (eqb_tells t id) [
      | inl e ↦ inr (inl (ap assoc.ResetComplete (sym e.1)))
      | inr e ↦ elim (completes id events) [ inl k ↦ inl (rw e.0 (omega (arith, k))) | inr k ↦ inr (inr k) ]
    ]
completes id (assoc.Connected ∷ events) = elim (completes id events) [ inl k ↦ inl k | inr k ↦ inr (inr k) ]
completes id (assoc.Lost ∷ events) = elim (completes id events) [ inl k ↦ inl k | inr k ↦ inr (inr k) ]
completes id (assoc.Readable t ∷ events) = elim (completes id events) [ inl k ↦ inl k | inr k ↦ inr (inr k) ]
completes id (assoc.Writable t ∷ events) = elim (completes id events) [ inl k ↦ inl k | inr k ↦ inr (inr k) ]
completes id (assoc.Finished t ∷ events) = elim (completes id events) [ inl k ↦ inl k | inr k ↦ inr (inr k) ]
completes id (assoc.BufferedAmountLow t ∷ events) = elim (completes id events) [ inl k ↦ inl k | inr k ↦ inr (inr k) ]

woken_left : (id : ℕ) (due more : List AssocEvent) → IsWoken id due → IsWoken id (due ++ more)
woken_left id due more (inl h) = inl (member-left (assoc.Readable id) due more h)
woken_left id due more (inr h) = inr (member-left (assoc.ResetComplete id) due more h)

woken_right : (id : ℕ) (due more : List AssocEvent) → IsWoken id more → IsWoken id (due ++ more)
woken_right id due more (inl h) = inl (member-right (assoc.Readable id) due more h)
woken_right id due more (inr h) = inr (member-right (assoc.ResetComplete id) due more h)

-- an event that is taken was the first that was due
woken_behind : (id : ℕ) (event : AssocEvent) (due : List AssocEvent) → (IsTouched id event → ⊥) → IsWoken id (event ∷ due) → IsWoken id due
woken_behind id event due other (inl (inl e)) = absurd (other (subst (λ (x : AssocEvent). IsTouched id x) e refl))
woken_behind id event due other (inl (inr h)) = inl h
woken_behind id event due other (inr (inl e)) = absurd (other (subst (λ (x : AssocEvent). IsTouched id x) e refl))
woken_behind id event due other (inr (inr h)) = inr h

none_more : (event : AssocEvent) (due more : List AssocEvent) → event ∷ due ≡ (event ∷ due) ++ more → more ≡ []
none_more event due [] e = refl
none_more event due (x ∷ more) e = absurd (omega (arith, ap length e, length-append (event ∷ due) (x ∷ more)))

-- ---- one entry

module _ {S : Type 0} (m : AssociationMeaning S) (w : AssociationLaws m) where
  -- what a change adds: what was due for an entry and is added is due afterwards
  record Adds (a b : S) (s : ℕ) : Type 0 where
    more : List AssocEvent
    left : IsWoken s (m.due a) → IsWoken s (m.due b)
    right : IsWoken s more → IsWoken s (m.due b)
    rises : (id : ℕ) → m.generation b id ≡ m.generation a id + completions id more
    readable : (id g : ℕ) → m.has_unread b id g ≡ true → (m.has_unread a id g ≡ true) ⊎ Member (assoc.Readable id) more
    gone : (id : ℕ) → m.has_stream a id ≡ true → (m.has_stream b id ≡ true) ⊎ Member (assoc.ResetComplete id) more

  untold_adds : (own : ℕ) (a b : S) (s : ℕ) → UntoldBut m own a b → Adds a b s
  untold_adds own a b s h =
      let all = adds_all m w a b h.acts h.moved in
      let due_is : m.due b ≡ m.due a ++ all.more = ap (λ l. l ++ m.due b) (sym h.untold) ∙ all.due_is in
      let woken : IsWoken s (m.due a ++ all.more) → IsWoken s (m.due b) = subst (λ (l : List AssocEvent). IsWoken s l) (sym due_is) in
      record {
        more = all.more;
        left = λ k. woken (woken_left s (m.due a) all.more k);
        right = λ k. woken (woken_right s (m.due a) all.more k);
        rises = all.rises;
        readable = all.readable;
        gone = all.gone;
      }

  -- an event that is none of a stream was taken
  event_adds : (a b : S) (event : AssocEvent) (s : ℕ) → m.polled a (Some event) b → (IsTouched s event → ⊥) → Adds a b s
  event_adds a b event s polled other =
      let head = w.poll_head a b event polled in
      let all = w.adds a b (Told event) polled in
      let none : all.more ≡ [] = none_more event (m.due b) all.more (all.due_is ∙ ap (λ l. l ++ all.more) head) in
      record {
        more = [];
        left = λ k. woken_behind s event (m.due b) other (subst (λ (l : List AssocEvent). IsWoken s l) head k);
        right = λ k. elim k [ inl h ↦ absurd h | inr h ↦ absurd h ];
        rises = λ id. all.rises id ∙ ap (λ l. m.generation a id + completions id l) none;
        readable = λ id g u. subst (λ (l : List AssocEvent). (m.has_unread a id g ≡ true) ⊎ Member (assoc.Readable id) l) none (all.readable id g u);
        gone = λ id t. subst (λ (l : List AssocEvent). (m.has_stream b id ≡ true) ⊎ Member (assoc.ResetComplete id) l) none (all.gone id t);
      }

  -- an entry whose stream is there still is, or an event is due that its reset is complete
  there_on : (a b : S) (e : StreamEntry) → Adds a b e.id → is_entry_there m a e ≡ true → (is_entry_there m b e ≡ true) ⊎ IsWoken e.id (m.due b)
  there_on a b e adds there =
      let two = both_parts (m.has_stream a e.id) (fits_generation e.generation (m.generation a e.id)) there in
      elim (completes e.id adds.more) [
        | inl none ↦
            let same : m.generation b e.id ≡ m.generation a e.id = omega (arith, adds.rises e.id, none) in
            elim (adds.gone e.id two.0) [
              | inl stays ↦
                  inl (both_true (m.has_stream b e.id) (fits_generation e.generation (m.generation b e.id)) stays
                  (ap (λ g. fits_generation e.generation g) same ∙ two.1))
              | inr k ↦ inr (adds.right (inr k))
            ]
        | inr k ↦ inr (adds.right (inr k))
      ]

  -- what is unread was so before, or an event is due that a message came
  read_on : (a b : S) (e : StreamEntry) → Adds a b e.id → (m.has_unread a e.id (m.generation a e.id) ≡ true → IsWoken e.id (m.due a))
      → m.has_unread b e.id (m.generation b e.id) ≡ true → IsWoken e.id (m.due b)
  read_on a b e adds read unread =
      elim (completes e.id adds.more) [
        | inl none ↦
            let same : m.generation b e.id ≡ m.generation a e.id = omega (arith, adds.rises e.id, none) in
            elim (adds.readable e.id (m.generation b e.id) unread) [
              | inl before ↦ adds.left (read (ap (λ g. m.has_unread a e.id g) (sym same) ∙ before))
              | inr k ↦ adds.right (inl k)
            ]
        | inr k ↦ adds.right (inr k)
      ]

  rests_on : (a b : S) (e : StreamEntry) → Adds a b e.id → Rests m a e → Rests m b e
  rests_on a b e adds r = record {
    unmarked = r.unmarked;
    handed = r.handed;
    there = elim r.there [ inl there ↦ there_on a b e adds there | inr k ↦ inr (adds.left k) ];
    read = read_on a b e adds r.read;
  }

  rests_in : (st : StreamEntryState) (a b : S) (e : StreamEntry) → Adds a b e.id → RestsIn m st a e → RestsIn m st b e
  rests_in AwaitOpen a b e adds h = h
  rests_in AwaitConfig a b e adds h = rests_on a b e adds h
  rests_in AwaitDcepAck a b e adds h = rests_on a b e adds h
  rests_in Open a b e adds h = rests_on a b e adds h
  rests_in Closed a b e adds h = h

  -- ---- all entries

  -- acts that tell nothing
  pub others_on : (own : ℕ) (a b : S) (ids : StreamIds) (es : List StreamEntry) → UntoldBut m own a b → OthersRest m a ids es → OthersRest m b ids es
  others_on own a b ids [] u h = tt
  others_on own a b ids (e ∷ es) u h = (λ out. rests_in e.state a b e (untold_adds own a b e.id u) (h.0 out), others_on own a b ids es u h.1)

  -- an event, whose stream is in the set afterwards
  pub others_event : (a b : S) (event : AssocEvent) (ids ids' : StreamIds) (es : List StreamEntry) → m.polled a (Some event) b
      → ((id : ℕ) → IsTouched id event → has_id id ids' ≡ true) → ((id : ℕ) → has_id id ids' ≡ false → has_id id ids ≡ false)
      → OthersRest m a ids es → OthersRest m b ids' es
  others_event a b event ids ids' [] polled notes keeps h = tt
  others_event a b event ids ids' (e ∷ es) polled notes keeps h = (
    λ out. rests_in e.state a b e (event_adds a b event e.id polled (λ k. true≢false (sym (notes e.id k) ∙ out))) (h.0 (keeps e.id out)),
    others_event a b event ids ids' es polled notes keeps h.1,
  )

module _ {S : Type 0} (m : AssociationMeaning S) where
  -- an id is put into the set
  pub others_noted : (a : S) (id : ℕ) (ids ids' : StreamIds) (es : List StreamEntry) → has_id id ids' ≡ true
      → ((other : ℕ) → other ≢ id → has_id other ids' ≡ has_id other ids) → OthersRest m a ids es → OthersRest m a ids' es
  others_noted a id ids ids' [] here others h = tt
  others_noted a id ids ids' (e ∷ es) here others h = (
    λ out. elim (cases_eq e.id id) [
      | inl same ↦ absurd (true≢false (sym here ∙ ap (λ n. has_id n ids') (sym same) ∙ out))
      | inr apart ↦ h.0 (sym (others e.id apart) ∙ out)
    ],
    others_noted a id ids ids' es here others h.1,
  )

  -- an entry whose id is in the set, in place of another one and among the others
  pub others_set : (a : S) (ids : StreamIds) (es : List StreamEntry) (i : ℕ) (e' : StreamEntry) → has_id e'.id ids ≡ true
      → OthersRest m a ids es → OthersRest m a ids (slice_set es i e')
  others_set a ids [] i e' inside h = tt
  others_set a ids (e ∷ es) zero e' inside h = (λ out. absurd (true≢false (sym inside ∙ out)), h.1)
  others_set a ids (e ∷ es) (suc i) e' inside h = (h.0, others_set a ids es i e' inside h.1)

  others_append : (a : S) (ids : StreamIds) (es fs : List StreamEntry) → OthersRest m a ids es → OthersRest m a ids fs → OthersRest m a ids (es ++ fs)
  others_append a ids [] fs h k = k
  others_append a ids (e ∷ es) fs h k = (h.0, others_append a ids es fs h.1 k)

  others_take : (a : S) (ids : StreamIds) (n : ℕ) (es : List StreamEntry) → OthersRest m a ids es → OthersRest m a ids (take n es)
  others_take a ids zero es h = tt
  others_take a ids (suc n) [] h = tt
  others_take a ids (suc n) (e ∷ es) h = (h.0, others_take a ids n es h.1)

  others_drop : (a : S) (ids : StreamIds) (n : ℕ) (es : List StreamEntry) → OthersRest m a ids es → OthersRest m a ids (drop n es)
  others_drop a ids zero es h = h
  others_drop a ids (suc n) [] h = tt
  others_drop a ids (suc n) (e ∷ es) h = others_drop a ids n es h.1

  pub others_insert : (a : S) (ids : StreamIds) (es : List StreamEntry) (i : ℕ) (e' : StreamEntry) → has_id e'.id ids ≡ true
      → OthersRest m a ids es → OthersRest m a ids (insert es i e')
  others_insert a ids es i e' inside h =
      others_append a ids (take i es) (e' ∷ drop i es) (others_take a ids i es h) (λ out. absurd (true≢false (sym inside ∙ out)), others_drop a ids i es h)

  -- a stream whose opening is tried again is in the set
  noted_in : (st : StreamEntryState) (a : S) (ids : StreamIds) (e : StreamEntry) (b : Bool) → e.state ≡ st → has_id e.id ids ≡ b
      → (has_id e.id ids ≡ false → RestsIn m st a e) → is_retrying e ≡ true → b ≡ true
  noted_in st a ids e true is in_set rest retrying = refl
  noted_in AwaitOpen a ids e false is out rest retrying = absurd (rest out)
  noted_in AwaitConfig a ids e false is out rest retrying = absurd (true≢false (sym retrying ∙ rw is refl))
  noted_in AwaitDcepAck a ids e false is out rest retrying = absurd (true≢false (sym retrying ∙ rw is refl))
  noted_in Open a ids e false is out rest retrying = absurd (true≢false (sym retrying ∙ rw is refl))
  noted_in Closed a ids e false is out rest retrying = absurd (true≢false (sym retrying ∙ rw is refl))

  pub all_noted : (a : S) (ids : StreamIds) (es : List StreamEntry) → OthersRest m a ids es → AreNoted ids es
  all_noted a ids [] h = tt
  all_noted a ids (e ∷ es) h = (λ retrying. noted_in e.state a ids e (has_id e.id ids) refl refl h.0 retrying, all_noted a ids es h.1)
