-- What is not acknowledged: of the streams that have an entry, those in a set alone.
use Rattle.std.proofs.Common.{◌≡◌, ◌≢◌, ℕ, zero, suc, ◌<◌, ◌≤◌, ◌==◌, ◌||◌, inl, inr, not, cond, Bool, true, false, true≢false, List, [], ◌∷◌, ◌++◌, length, get_or, set, take, drop, None, refl, sym, ap, subst, ◌∙◌, arith}
use Rattle.std.specs.Prelude.{nat_lt}
use Rattle.std.proofs.lemmas.Bool.{cases_eq, ne_eqb}
use Rattle.rtc_parts.specs.AssociationMeaning.{AssociationMeaning}
use Rattle.rtc_parts.specs.AssociationLaws.{AssociationLaws}
use Rattle.rtc_sctp_values.specs.StreamIds.{StreamIds, has_id}
use Rattle.rtc_sctp_entries.specs.declared.stream_entry.StreamEntry.{StreamEntry}
use Rattle.rtc_sctp_entries.specs.Entries.{entry_place, is_closed_state, unclosed, with_entry, new_place}
use Rattle.rtc_sctp_entries.proofs.OrderLemmas.{none_missing}
use Rattle.rtc_sctp.specs.Rest.{has_entry, may_buffer, AreCounted}

-- ---- which streams have an entry

pub has_entry_set : (id : ℕ) (es : List StreamEntry) (i : ℕ) (e' : StreamEntry) → (get_or es i e').id ≡ e'.id → has_entry id (set es i e') ≡ has_entry id es
has_entry_set id [] i e' own = refl
has_entry_set id (e ∷ es) zero e' own = ap (λ n. (n == id) || has_entry id es) (sym own)
has_entry_set id (e ∷ es) (suc i) e' own = ap (λ b. (e.id == id) || b) (has_entry_set id es i e' own)

or_map : (a b c : Bool) → (b ≡ true → c ≡ true) → (a || b) ≡ true → (a || c) ≡ true
or_map true b c f h = refl
or_map false b c f h = f h

or_right : (a b : Bool) → b ≡ true → (a || b) ≡ true
or_right true b h = refl
or_right false b h = h

either_false : (a b : Bool) → a ≡ false → b ≡ false → (a || b) ≡ false
either_false a b h k = rw h k

pub has_entry_unclosed : (id : ℕ) (es : List StreamEntry) → has_entry id (unclosed es) ≡ true → has_entry id es ≡ true
has_entry_unclosed id [] h = h
has_entry_unclosed id (e ∷ es) h = by (not (is_closed_state e.state)) (has_entry_unclosed id es) h
  where
    by : (b : Bool) → (has_entry id (unclosed es) ≡ true → has_entry id es ≡ true) → has_entry id (cond b (e ∷ unclosed es) (unclosed es)) ≡ true
        → ((e.id == id) || has_entry id es) ≡ true
    by true f k = or_map (e.id == id) (has_entry id (unclosed es)) (has_entry id es) f k
    by false f k = or_right (e.id == id) (has_entry id es) (f k)

left_by : (a b : Bool) → a ≡ false → (a || b) ≡ b
left_by a b h = rw h refl

has_entry_put : (id n : ℕ) (es : List StreamEntry) (e : StreamEntry) → (e.id == id) ≡ false → has_entry id (take n es ++ e ∷ drop n es) ≡ has_entry id es
has_entry_put id zero es e apart = left_by (e.id == id) (has_entry id es) apart
has_entry_put id (suc n) [] e apart = left_by (e.id == id) false apart
has_entry_put id (suc n) (x ∷ es) e apart = ap (λ b. (x.id == id) || b) (has_entry_put id n es e apart)

pub has_entry_with : (id : ℕ) (es : List StreamEntry) (e : StreamEntry) → id ≢ e.id → has_entry id (with_entry e es) ≡ has_entry id es
has_entry_with id es e apart = has_entry_put id (new_place e.id es) es e (ne_eqb e.id id (λ k. apart (sym k)))

missing_entry : (id : ℕ) (es : List StreamEntry) → ((i : ℕ) (d : StreamEntry) → i < length es → (get_or es i d).id ≢ id) → has_entry id es ≡ false
missing_entry id [] none = refl
missing_entry id (e ∷ es) none =
    either_false (e.id == id) (has_entry id es) (ne_eqb e.id id (none 0 e (omega arith)))
    (missing_entry id es (λ i d lt. none (suc i) d (omega (arith, lt))))

pub no_entry : (id : ℕ) (es : List StreamEntry) → entry_place id es ≡ None → has_entry id es ≡ false
no_entry id es is = missing_entry id es (λ i d lt. none_missing id es is i d lt)

-- ---- what is acknowledged

module _ {S : Type 0} (m : AssociationMeaning S) where
  -- a stream apart from one that is in a set now
  pub counted_with : (a : S) (own : ℕ) (ids ids' : StreamIds) (es : List StreamEntry) → has_id own ids' ≡ true
      → ((other : ℕ) → other ≢ own → has_id other ids' ≡ has_id other ids) → AreCounted m a ids es → AreCounted m a ids' es
  counted_with a own ids ids' es here apart h = λ id has out.
      elim (cases_eq id own) [
        | inl same ↦ absurd (true≢false (sym here ∙ ap (λ n. has_id n ids') (sym same) ∙ out))
        | inr other ↦ h id has (sym (apart id other) ∙ out)
      ]

  -- one stream is put into a set or taken out
  pub counted_at : (a b : S) (own : ℕ) (ids ids' : StreamIds) (es es' : List StreamEntry)
      → ((other : ℕ) → other ≢ own → m.unacknowledged b other ≤ m.unacknowledged a other)
      → ((other : ℕ) → has_entry other es' ≡ true → has_entry other es ≡ true)
      → ((other : ℕ) → other ≢ own → has_id other ids' ≡ has_id other ids)
      → (has_entry own es' ≡ true → has_id own ids' ≡ false → m.unacknowledged b own ≡ 0) → AreCounted m a ids es → AreCounted m b ids' es'
  counted_at a b own ids ids' es es' falls before apart here h = λ id has out.
      elim (cases_eq id own) [
        | inl same ↦
            subst (λ (n : ℕ). m.unacknowledged b n ≡ 0) (sym same)
            (here (ap (λ n. has_entry n es') (sym same) ∙ has) (ap (λ n. has_id n ids') (sym same) ∙ out))
        | inr other ↦ omega (arith, falls id other, h id (before id has) (sym (apart id other) ∙ out))
      ]

module _ {S : Type 0} (m : AssociationMeaning S) (w : AssociationLaws m) where
  -- a buffered amount is at most what is not acknowledged
  pub buffered_less : (a : S) (id : ℕ) → m.buffered a id ≤ m.unacknowledged a id
  buffered_less a id = by (m.has_stream a id) refl
    where
      by : (b : Bool) → m.has_stream a id ≡ b → m.buffered a id ≤ m.unacknowledged a id
      by true is = omega (arith, w.there_buffered a id is)
      by false is = omega (arith, w.none_buffered a id is)

  not_less : (n : ℕ) → nat_lt 0 n ≡ false → n ≡ 0
  not_less n h = grind (arith, h)

  -- a stream that is there and has no buffered amount
  pub none_counted : (a : S) (id : ℕ) → may_buffer m a id ≡ false → m.unacknowledged a id ≡ 0
  none_counted a id h = by (m.has_stream a id) refl h
    where
      by : (b : Bool) → m.has_stream a id ≡ b → (not b || nat_lt 0 (m.buffered a id)) ≡ false → m.unacknowledged a id ≡ 0
      by true is k = omega (arith, w.there_buffered a id is, not_less (m.buffered a id) k)
      by false is k = absurd (true≢false k)
