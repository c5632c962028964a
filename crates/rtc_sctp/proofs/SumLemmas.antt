-- The sum of the buffered amounts, by the streams of a set.
use Rattle.std.proofs.Common.{◌≡◌, ◌≢◌, ℕ, zero, suc, ◌+◌, ◌<◌, ◌≤◌, ◌==◌, ◌||◌, inl, inr, cond, Bool, true, false, List, [], ◌∷◌, length, get_or, Some, None, refl, ap, arith}
use Rattle.std.specs.Prelude.{nat_lt}
use Rattle.std.proofs.lemmas.Bool.{cases_lt, cases_eq, eq-eqb, ne_eqb}
use Rattle.rtc_parts.specs.AssociationMeaning.{AssociationMeaning}
use Rattle.rtc_parts.specs.AssociationLaws.{AssociationLaws}
use Rattle.rtc_sctp_values.specs.StreamIds.{StreamIds, has_id}
use Rattle.rtc_sctp_entries.specs.declared.stream_entry.StreamEntry.{StreamEntry}
use Rattle.rtc_sctp_entries.specs.declared.stream_entry_state.StreamEntryState.TheVariants.{AwaitOpen}
use Rattle.rtc_sctp_entries.specs.Entries.{Ascend, AscendFrom, entry_place, new_entry}
use Rattle.rtc_sctp_entries.proofs.OrderLemmas.{ascend_least, none_missing}
use Rattle.rtc_sctp.specs.Calls.{buffered_sum}
use Rattle.rtc_sctp.specs.Rest.{has_entry, AreCounted, entry_amount}
use Rattle.rtc_sctp.proofs.CountLemmas.{buffered_less}
use Rattle.rtc_sctp.proofs.IdSteps.{place_is}

module _ {S : Type 0} (m : AssociationMeaning S) where
  -- the buffered amounts of the entries whose ids are not below a number
  abbrev pub sum_from : S → ℕ → List StreamEntry → ℕ
  sum_from a from [] = 0
  sum_from a from (e ∷ es) = cond (nat_lt e.id from) 0 (m.buffered a e.id) + sum_from a from es

  none_below : (n k : ℕ) → cond (nat_lt n 0) 0 k ≡ k
  none_below n k = let e : nat_lt n 0 ≡ false = grind arith in rw e refl

  pub sum_begins : (a : S) (es : List StreamEntry) → sum_from a 0 es ≡ buffered_sum m a es
  sum_begins a [] = refl
  sum_begins a (e ∷ es) = omega (arith, none_below e.id (m.buffered a e.id), sum_begins a es)

  -- ---- one id

  no_amount : (a : S) (id : ℕ) (es : List StreamEntry) → ((i : ℕ) (d : StreamEntry) → i < length es → (get_or es i d).id ≢ id) → entry_amount m a id es ≡ 0
  no_amount a id [] none = refl
  no_amount a id (e ∷ es) none =
      let apart : (e.id == id) ≡ false = ne_eqb e.id id (none 0 e (omega arith)) in
      rw apart (omega (arith, no_amount a id es (λ i d lt. none (suc i) d (omega (arith, lt)))))

  pub none_amount : (a : S) (id : ℕ) (es : List StreamEntry) → entry_place id es ≡ None → entry_amount m a id es ≡ 0
  none_amount a id es is = no_amount a id es (λ i d lt. none_missing id es is i d lt)

  own_amount : (a : S) (id low place : ℕ) (es : List StreamEntry) (x : StreamEntry) → AscendFrom low es → place < length es → (get_or es place x).id ≡ id
      → entry_amount m a id es ≡ m.buffered a id
  own_amount a id low place [] x order lt own = absurd (omega (arith, lt))
  own_amount a id low zero (e ∷ es) x order lt own =
      let at : (e.id == id) ≡ true = eq-eqb e.id id own in
      let rest : entry_amount m a id es ≡ 0 =
      no_amount a id es (λ i d less k. omega (arith, ascend_least (e.id + 1) es i d order.1 less, k, own)) in
      rw (at, rest) (omega arith)
  own_amount a id low (suc place) (e ∷ es) x order lt own =
      let least = ascend_least (e.id + 1) es place x order.1 (omega (arith, lt)) in
      let apart : (e.id == id) ≡ false = ne_eqb e.id id (λ k. omega (arith, least, own, k)) in
      rw apart (omega (arith, own_amount a id (e.id + 1) place es x order.1 (omega (arith, lt)) own))

  pub one_amount : (a : S) (id place : ℕ) (es : List StreamEntry) → Ascend es → entry_place id es ≡ Some place
      → entry_amount m a id es ≡ m.buffered a id
  one_amount a id place es order is =
      let d : StreamEntry = new_entry 0 AwaitOpen None in
      let at = place_is id place es d is in
      own_amount a id 0 place es d order at.0 at.1

module _ {S : Type 0} (m : AssociationMeaning S) (w : AssociationLaws m) where
  or_right : (a b : Bool) → b ≡ true → (a || b) ≡ true
  or_right true b h = refl
  or_right false b h = h

  -- all is acknowledged of the entries that are not in a set
  abbrev pub AllCounted : S → StreamIds → List StreamEntry → Type 0
  AllCounted a ids [] = Unit {0}
  AllCounted a ids (e ∷ es) = (has_id e.id ids ≡ false → m.buffered a e.id ≡ 0) × AllCounted a ids es

  or_left : (a b : Bool) → a ≡ true → (a || b) ≡ true
  or_left a b h = rw h refl

  pub all_counted : (a : S) (ids : StreamIds) (es : List StreamEntry) → AreCounted m a ids es → AllCounted a ids es
  all_counted a ids [] h = tt
  all_counted a ids (e ∷ es) h = (
    λ out. omega (arith, buffered_less m w a e.id, h e.id (or_left (e.id == e.id) (has_entry e.id es) (eq-eqb e.id e.id refl)) out),
    all_counted a ids es (λ id has out. h id (or_right (e.id == id) (has_entry id es) has) out),
  )

  -- one entry, below the next id of the set, of it and behind it
  entry_goes : (a : S) (ids : StreamIds) (from id : ℕ) (e : StreamEntry) → from ≤ id → ((other : ℕ) → from ≤ other → other < id → has_id other ids ≡ false)
      → (has_id e.id ids ≡ false → m.buffered a e.id ≡ 0)
      → cond (nat_lt e.id from) 0 (m.buffered a e.id) ≡ cond (e.id == id) (m.buffered a id) 0 + cond (nat_lt e.id (id + 1)) 0 (m.buffered a e.id)
  entry_goes a ids from id e le out none = elim (cases_lt e.id from) [
    | inl below ↦
        let x : nat_lt e.id from ≡ true = grind (arith, below) in
        let y : nat_lt e.id (id + 1) ≡ true = grind (arith, below, le) in
        let z : (e.id == id) ≡ false = ne_eqb e.id id (λ k. omega (arith, below, le, k)) in
        rw (x, y, z) refl
    | inr reached ↦
        let x : nat_lt e.id from ≡ false = grind (arith, reached) in
        elim (cases_eq e.id id) [
          | inl same ↦
              let y : nat_lt e.id (id + 1) ≡ true = grind (arith, same) in
              let z : (e.id == id) ≡ true = eq-eqb e.id id same in
              rw (x, y, z) (omega (arith, ap (λ n. m.buffered a n) same))
          | inr apart ↦
              let z : (e.id == id) ≡ false = ne_eqb e.id id apart in
              elim (cases_lt e.id id) [
                | inl before ↦
                    let y : nat_lt e.id (id + 1) ≡ true = grind (arith, before) in
                    rw (x, y, z) (none (out e.id (omega (arith, reached)) before))
                | inr behind ↦
                    let y : nat_lt e.id (id + 1) ≡ false = grind (arith, behind, apart) in
                    rw (x, y, z) (omega arith)
              ]
        ]
  ]

  pub sum_goes : (a : S) (ids : StreamIds) (from id : ℕ) (es : List StreamEntry) → from ≤ id → ((other : ℕ) → from ≤ other → other < id → has_id other ids ≡ false)
      → AllCounted a ids es → sum_from m a from es ≡ entry_amount m a id es + sum_from m a (id + 1) es
  sum_goes a ids from id [] le out h = refl
  sum_goes a ids from id (e ∷ es) le out h = omega (arith, entry_goes a ids from id e le out h.0, sum_goes a ids from id es le out h.1)

  -- no id of the set is left
  entry_ends : (a : S) (ids : StreamIds) (from : ℕ) (e : StreamEntry) → ((other : ℕ) → from ≤ other → has_id other ids ≡ false)
      → (has_id e.id ids ≡ false → m.buffered a e.id ≡ 0) → cond (nat_lt e.id from) 0 (m.buffered a e.id) ≡ 0
  entry_ends a ids from e out none = elim (cases_lt e.id from) [
    | inl below ↦ let x : nat_lt e.id from ≡ true = grind (arith, below) in rw x refl
    | inr reached ↦ let x : nat_lt e.id from ≡ false = grind (arith, reached) in rw x (none (out e.id (omega (arith, reached))))
  ]

  pub sum_ends : (a : S) (ids : StreamIds) (from : ℕ) (es : List StreamEntry) → ((other : ℕ) → from ≤ other → has_id other ids ≡ false)
      → AllCounted a ids es → sum_from m a from es ≡ 0
  sum_ends a ids from [] out h = refl
  sum_ends a ids from (e ∷ es) out h = omega (arith, entry_ends a ids from e out h.0, sum_ends a ids from es out h.1)
