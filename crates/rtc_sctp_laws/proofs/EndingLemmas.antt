-- An entry that is to be closed stays so until its Close is told.
use Rattle.std.proofs.Common.{◌≡◌, ◌⊎◌, inl, inr, ℕ, zero, suc, ◌==◌, ◌&&◌, ◌||◌, not, cond, Bool, true, false, true≢false, List, [], ◌∷◌, ◌++◌, take, drop, insert, Some, refl, sym, ap, ◌∙◌, arith}
use Rattle.std.specs.Prelude.{slice_get, slice_set}
use Rattle.std.proofs.lemmas.List.{take-append-drop}
use Rattle.std.proofs.lemmas.Option.{same_Some}
use Rattle.std.proofs.lemmas.List.Folds.{list_any-append}
use Rattle.rtc_parts.specs.AssociationMeaning.{AssociationMeaning}
use Rattle.rtc_sctp_entries.specs.declared.asked.Asked.{Asked}
use Rattle.rtc_sctp_entries.specs.declared.asked.Asked.TheVariants as did
use Rattle.rtc_sctp_entries.specs.declared.stream_entry_state.StreamEntryState.{StreamEntryState}
use Rattle.rtc_sctp_entries.specs.declared.stream_entry_state.StreamEntryState.TheVariants.{AwaitOpen, AwaitConfig, AwaitDcepAck, Open, Closed}
use Rattle.rtc_sctp_entries.specs.declared.stream_entry.StreamEntry.{StreamEntry}
use Rattle.rtc_sctp_entries.specs.declared.sctp_event.SctpEvent.TheVariants as event
use Rattle.rtc_sctp_entries.specs.declared.met.Met.{Met}
use Rattle.rtc_sctp_entries.specs.declared.met.Met.TheVariants.{Output, OutOfMemory}
use Rattle.rtc_sctp_entries.specs.Entries.{unclosed, is_closed_state}
use Rattle.rtc_sctp_entries.specs.Visits.{Turn, ClosedBy, Closes, NoRoom, Ended, AttendsIf, VisitsIn, Visits}
use Rattle.rtc_sctp_laws.specs.StreamRuns.{is_past_opening, is_closing_entry, has_closing_entry}

-- tests of two facts
and_left : (a b : Bool) → (a && b) ≡ true → a ≡ true
and_left true b h = refl
and_left false b h = h

and_right : (a b : Bool) → (a && b) ≡ true → b ≡ true
and_right true b h = h
and_right false b h = absurd (true≢false (sym h))

or_right : (a b : Bool) → b ≡ true → (a || b) ≡ true
or_right true b h = refl
or_right false b h = h

or_left : (a b : Bool) → a ≡ true → (a || b) ≡ true
or_left a b h = rw h refl

-- what an entry that is to be closed is
pub ending_id : (id : ℕ) (e : StreamEntry) → is_closing_entry id e ≡ true → e.id ≡ id
ending_id id e h = let same : (e.id == id) ≡ true = and_left _ _ h in grind (arith, same)

pub ending_marked : (id : ℕ) (e : StreamEntry) → is_closing_entry id e ≡ true → e.marked ≡ true
ending_marked id e h = and_left _ _ (and_right (e.id == id) _ h)

pub ending_past : (id : ℕ) (e : StreamEntry) → is_closing_entry id e ≡ true → is_past_opening e.state ≡ true
ending_past id e h = and_right e.marked _ (and_right (e.id == id) _ h)

-- an entry of the same stream that is marked and past its opening
pub ending_is : (id : ℕ) (e : StreamEntry) → e.id ≡ id → e.marked ≡ true → is_past_opening e.state ≡ true → is_closing_entry id e ≡ true
ending_is id e i k p = let same : (e.id == id) ≡ true = grind (arith, i) in rw (same, k, p) refl

-- a list with an entry before it
pub any_more : (id : ℕ) (e : StreamEntry) (es : List StreamEntry) → has_closing_entry id es ≡ true → has_closing_entry id (e ∷ es) ≡ true
any_more id e es h = or_right (is_closing_entry id e) _ h

pub any_head : (id : ℕ) (e : StreamEntry) (es : List StreamEntry) → is_closing_entry id e ≡ true → has_closing_entry id (e ∷ es) ≡ true
any_head id e es h = or_left (is_closing_entry id e) _ h

-- lists with an entry more, another one, or without those that are closed
any_left : (id : ℕ) (xs ys : List StreamEntry) → has_closing_entry id xs ≡ true → has_closing_entry id (xs ++ ys) ≡ true
any_left id xs ys h = list_any-append (is_closing_entry id) xs ys ∙ or_left _ _ h

any_right : (id : ℕ) (xs ys : List StreamEntry) → has_closing_entry id ys ≡ true → has_closing_entry id (xs ++ ys) ≡ true
any_right id xs ys h = list_any-append (is_closing_entry id) xs ys ∙ or_right _ _ h

or_cases : (a b : Bool) → (a || b) ≡ true → (a ≡ true) ⊎ (b ≡ true)
or_cases true b h = inl refl
or_cases false b h = inr h

any_cases : (id : ℕ) (xs ys : List StreamEntry) → has_closing_entry id (xs ++ ys) ≡ true → (has_closing_entry id xs ≡ true) ⊎ (has_closing_entry id ys ≡ true)
any_cases id xs ys h = or_cases _ _ (sym (list_any-append (is_closing_entry id) xs ys) ∙ h)

pub ending_insert : (id : ℕ) (es : List StreamEntry) (i : ℕ) (e : StreamEntry) → has_closing_entry id es ≡ true → has_closing_entry id (insert es i e) ≡ true
ending_insert id es i e h =
    let parts : has_closing_entry id (take i es ++ drop i es) ≡ true = rw (take-append-drop i es) h in
    elim (any_cases id (take i es) (drop i es) parts) [
      | inl k ↦ any_left id (take i es) (e ∷ drop i es) k
      | inr k ↦ any_right id (take i es) (e ∷ drop i es) (or_right (is_closing_entry id e) _ k)
    ]

-- an entry at a place is another one, which is to be closed where that one was
pub ending_set : (id : ℕ) (es : List StreamEntry) (i : ℕ) (e e' : StreamEntry) → slice_get es i ≡ Some e → (is_closing_entry id e ≡ true → is_closing_entry id e' ≡ true) → has_closing_entry id es ≡ true → has_closing_entry id (slice_set es i e') ≡ true
ending_set id [] i e e' at keeps h = absurd (true≢false (sym h))
ending_set id (x ∷ xs) zero e e' at keeps h = head_set (or_cases (is_closing_entry id x) _ h)
  where
    head_set : (is_closing_entry id x ≡ true) ⊎ (has_closing_entry id xs ≡ true) → has_closing_entry id (e' ∷ xs) ≡ true
    head_set (inl k) = let same : x ≡ e = same_Some x e at in or_left (is_closing_entry id e') _ (keeps (ap (is_closing_entry id) (sym same) ∙ k))
    head_set (inr k) = or_right (is_closing_entry id e') _ k
ending_set id (x ∷ xs) (suc i) e e' at keeps h = tail_set (or_cases (is_closing_entry id x) _ h) (λ k. ending_set id xs i e e' at keeps k)
  where
    tail_set : (is_closing_entry id x ≡ true) ⊎ (has_closing_entry id xs ≡ true) → (has_closing_entry id xs ≡ true → has_closing_entry id (slice_set xs i e') ≡ true) → has_closing_entry id (x ∷ slice_set xs i e') ≡ true
    tail_set (inl k) more = or_left (is_closing_entry id x) _ k
    tail_set (inr k) more = or_right (is_closing_entry id x) _ (more k)

past_unclosed : (st : StreamEntryState) → is_past_opening st ≡ true → not (is_closed_state st) ≡ true
past_unclosed AwaitOpen h = refl
past_unclosed AwaitConfig h = refl
past_unclosed AwaitDcepAck h = refl
past_unclosed Open h = refl
past_unclosed Closed h = h

pub ending_unclosed : (id : ℕ) (es : List StreamEntry) → has_closing_entry id es ≡ true → has_closing_entry id (unclosed es) ≡ true
ending_unclosed id [] h = h
ending_unclosed id (x ∷ xs) h = kept (not (is_closed_state x.state)) refl (or_cases (is_closing_entry id x) _ h) (ending_unclosed id xs)
  where
    kept : (b : Bool) → not (is_closed_state x.state) ≡ b → (is_closing_entry id x ≡ true) ⊎ (has_closing_entry id xs ≡ true) → (has_closing_entry id xs ≡ true → has_closing_entry id (unclosed xs) ≡ true) → has_closing_entry id (cond b (x ∷ unclosed xs) (unclosed xs)) ≡ true
    kept true e (inl k) more = or_left (is_closing_entry id x) _ k
    kept true e (inr k) more = or_right (is_closing_entry id x) _ (more k)
    kept false e (inl k) more = absurd (true≢false (sym (past_unclosed x.state (ending_past id x k)) ∙ e))
    kept false e (inr k) more = more k

-- a visit of an entry that is to be closed: its Close is told, or there was no memory for it
pub data ClosesOrStarves (id : ℕ) (e : StreamEntry) (met : Met) (e' : StreamEntry) : Type 0 where
  Told : (pending : Bool) → met ≡ Output (event.Close id pending) → ClosesOrStarves id e met e'
  Starved : met ≡ OutOfMemory → e' ≡ e → ClosesOrStarves id e met e'

module _ {S : Type 0} (m : AssociationMeaning S) where
  told_close : (id : ℕ) (e : StreamEntry) (pending : Bool) (met : Met) (e' : StreamEntry) → e.id ≡ id → met ≡ Output (event.Close e.id pending) → ClosesOrStarves id e met e'
  told_close id e pending met e' i h = Told pending (h ∙ ap (λ (x : ℕ). Output (event.Close x pending)) i)

  closed_by : (id : ℕ) (a : Asked) (t : Turn S) (met : Met) (t' : Turn S) → t.entry.id ≡ id → ClosedBy m a t met t' → ClosesOrStarves id t.entry met t'.entry
  closed_by id did.Done t met t' i h = told_close id t.entry _ met t'.entry i h.0
  closed_by id did.Refused t met t' i h = told_close id t.entry _ met t'.entry i h.0
  closed_by id did.OutOfMemory t met t' i h = Starved h.0 (ap (λ (x : Turn S). x.entry) h.1)

  closes : (id : ℕ) (t : Turn S) (met : Met) (t' : Turn S) → t.entry.id ≡ id → Closes m t met t' → ClosesOrStarves id t.entry met t'.entry
  closes id t met t' i (NoRoom h) = Starved h.0 (ap (λ (x : Turn S). x.entry) h.1)
  closes id t met t' i (Ended a q k h) = closed_by id a (record t { association = q }) met t' i h

  attends : (b there : Bool) (id : ℕ) (t : Turn S) (met : Met) (t' : Turn S) → b ≡ true → t.entry.id ≡ id → AttendsIf m b there t met t' → ClosesOrStarves id t.entry met t'.entry
  attends true there id t met t' e i h = closes id t met t' i h
  attends false there id t met t' e i h = absurd (true≢false (sym e))

  visits_in : (st : StreamEntryState) (id now : ℕ) (t : Turn S) (met : Met) (t' : Turn S) → is_past_opening st ≡ true → t.entry.marked ≡ true → t.entry.id ≡ id → VisitsIn m st now t met t' → ClosesOrStarves id t.entry met t'.entry
  visits_in AwaitOpen id now t met t' p k i h = absurd (true≢false (sym p))
  visits_in AwaitConfig id now t met t' p k i h = attends t.entry.marked _ id t met t' k i h
  visits_in AwaitDcepAck id now t met t' p k i h = attends t.entry.marked _ id t met t' k i h
  visits_in Open id now t met t' p k i h = attends t.entry.marked _ id t met t' k i h
  visits_in Closed id now t met t' p k i h = absurd (true≢false (sym p))

  pub ending_visit : (id now : ℕ) (t : Turn S) (met : Met) (t' : Turn S) → is_closing_entry id t.entry ≡ true → Visits m now t met t' → ClosesOrStarves id t.entry met t'.entry
  ending_visit id now t met t' e h = visits_in t.entry.state id now t met t' (ending_past id t.entry e) (ending_marked id t.entry e) (ending_id id t.entry e) h
