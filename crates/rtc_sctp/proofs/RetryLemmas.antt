-- Openings that are tried again, found by the streams of a set.
use Rattle.std.proofs.Common.{◌≡◌, ℕ, zero, suc, ◌+◌, ◌<◌, ◌≤◌, ◌==◌, ◌&&◌, ◌||◌, inl, inr, Bool, true, false, true≢false, List, [], ◌∷◌, length, get_or, Some, None, refl, sym, ap, ◌∙◌, arith}
use Rattle.std.specs.List.{list_any}
use Rattle.std.proofs.lemmas.Bool.{cases_lt, cases_eq, eq-eqb, ne_eqb}
use Rattle.rtc_sctp_values.specs.StreamIds.{StreamIds, has_id}
use Rattle.rtc_sctp_entries.specs.declared.stream_entry.StreamEntry.{StreamEntry}
use Rattle.rtc_sctp_entries.specs.Entries.{Ascend, AscendFrom, entry_place, is_retrying}
use Rattle.rtc_sctp_entries.proofs.OrderLemmas.{ascend_least, none_missing}
use Rattle.rtc_sctp.specs.Rest.{AreNoted, is_retrying_of}
use Rattle.rtc_sctp.proofs.IdSteps.{place_is}

either_false : (a b : Bool) → a ≡ false → b ≡ false → (a || b) ≡ false
either_false a b h k = rw h k

or_right : (a b : Bool) → b ≡ true → (a || b) ≡ true
or_right true b h = refl
or_right false b h = h

-- of an id that no entry has
none_of : (id : ℕ) (es : List StreamEntry) → ((i : ℕ) (d : StreamEntry) → i < length es → (get_or es i d).id ≡ id → ⊥) → list_any (is_retrying_of id) es ≡ false
none_of id [] none = refl
none_of id (e ∷ es) none =
    let apart : (e.id == id) ≡ false = ne_eqb e.id id (none 0 e (omega arith)) in
    either_false (is_retrying_of id e) (list_any (is_retrying_of id) es) (rw apart refl) (none_of id es (λ i d lt. none (suc i) d (omega (arith, lt))))

pub none_retried : (id : ℕ) (es : List StreamEntry) → entry_place id es ≡ None → list_any (is_retrying_of id) es ≡ false
none_retried id es is = none_of id es (λ i d lt. none_missing id es is i d lt)

-- of the id of an entry
one_of : (id low place : ℕ) (es : List StreamEntry) (x : StreamEntry) → AscendFrom low es → place < length es → x ≡ get_or es place x → x.id ≡ id
    → list_any (is_retrying_of id) es ≡ is_retrying x
one_of id low place [] x order lt is own = absurd (omega (arith, lt))
one_of id low zero (e ∷ es) x order lt is own =
    let at : (e.id == id) ≡ true = eq-eqb e.id id (ap (λ (y : StreamEntry). y.id) (sym is) ∙ own) in
    let rest : list_any (is_retrying_of id) es ≡ false =
    none_of id es (λ i d less k. omega (arith, ascend_least (e.id + 1) es i d order.1 less, k, ap (λ (y : StreamEntry). y.id) is, own)) in
    rw (at, rest) (or_none (is_retrying e) ∙ ap is_retrying (sym is))
  where
    or_none : (b : Bool) → (b || false) ≡ b
    or_none true = refl
    or_none false = refl
one_of id low (suc place) (e ∷ es) x order lt is own =
    let least = ascend_least (e.id + 1) es place x order.1 (omega (arith, lt)) in
    let apart : (e.id == id) ≡ false = ne_eqb e.id id (λ k. omega (arith, least, ap (λ (y : StreamEntry). y.id) is, own, k)) in
    rw apart (one_of id (e.id + 1) place es x order.1 (omega (arith, lt)) is own)

pub one_retried : (id place : ℕ) (es : List StreamEntry) (x : StreamEntry) → Ascend es → entry_place id es ≡ Some place → x ≡ get_or es place x
    → list_any (is_retrying_of id) es ≡ is_retrying x
one_retried id place es x order at is =
    let here = place_is id place es x at in
    one_of id 0 place es x order here.0 is (ap (λ (y : StreamEntry). y.id) is ∙ here.1)

-- an entry of some id is one of all
pub any_of : (id : ℕ) (es : List StreamEntry) → list_any (is_retrying_of id) es ≡ true → list_any is_retrying es ≡ true
any_of id [] h = h
any_of id (e ∷ es) h = by (e.id == id) (is_retrying e) h (any_of id es)
  where
    by : (a b : Bool) → ((a && b) || list_any (is_retrying_of id) es) ≡ true → (list_any (is_retrying_of id) es ≡ true → list_any is_retrying es ≡ true)
        → (b || list_any is_retrying es) ≡ true
    by true true k rest = refl
    by true false k rest = rest k
    by false b k rest = or_right b (list_any is_retrying es) (rest k)

-- no entry below a number is tried again
abbrev pub NoneBelow : ℕ → List StreamEntry → Type 0
NoneBelow from [] = Unit {0}
NoneBelow from (e ∷ es) = (e.id < from → is_retrying e ≡ false) × NoneBelow from es

pub none_begins : (es : List StreamEntry) → NoneBelow 0 es
none_begins [] = tt
none_begins (e ∷ es) = (λ lt. absurd (omega (arith, lt)), none_begins es)

not_noted : (b : Bool) (ids : StreamIds) (id : ℕ) → (b ≡ true → has_id id ids ≡ true) → has_id id ids ≡ false → b ≡ false
not_noted true ids id noted out = absurd (true≢false (sym (noted refl) ∙ out))
not_noted false ids id noted out = refl

not_of : (a b rest : Bool) → a ≡ true → ((a && b) || rest) ≡ false → b ≡ false
not_of true true rest e h = absurd (true≢false h)
not_of true false rest e h = refl
not_of false b rest e h = absurd (true≢false (sym e))

rest_false : (a b : Bool) → (a || b) ≡ false → b ≡ false
rest_false true b h = absurd (true≢false h)
rest_false false b h = h

-- the next id of the set was looked at: none below the one behind it is tried again
pub none_goes : (from id : ℕ) (ids : StreamIds) (es : List StreamEntry) → AreNoted ids es → NoneBelow from es
    → ((other : ℕ) → from ≤ other → other < id → has_id other ids ≡ false) → list_any (is_retrying_of id) es ≡ false → NoneBelow (id + 1) es
none_goes from id ids [] noted below out none = tt
none_goes from id ids (e ∷ es) noted below out none = (
  λ lt. elim (cases_eq e.id id) [
    | inl same ↦ not_of (e.id == id) (is_retrying e) (list_any (is_retrying_of id) es) (eq-eqb e.id id same) none
    | inr apart ↦
        elim (cases_lt e.id from) [
          | inl before ↦ below.0 before
          | inr reached ↦ not_noted (is_retrying e) ids e.id noted.0 (out e.id (omega (arith, reached)) (omega (arith, lt, apart)))
        ]
  ],
  none_goes from id ids es noted.1 below.1 out (rest_false (is_retrying_of id e) (list_any (is_retrying_of id) es) none),
)

-- no id of the set is left: none is tried again
pub none_left : (from : ℕ) (ids : StreamIds) (es : List StreamEntry) → AreNoted ids es → NoneBelow from es
    → ((other : ℕ) → from ≤ other → has_id other ids ≡ false) → list_any is_retrying es ≡ false
none_left from ids [] noted below out = refl
none_left from ids (e ∷ es) noted below out =
    either_false (is_retrying e) (list_any is_retrying es)
    (elim (cases_lt e.id from) [
      | inl before ↦ below.0 before
      | inr reached ↦ not_noted (is_retrying e) ids e.id noted.0 (out e.id (omega (arith, reached)))
    ])
    (none_left from ids es noted.1 below.1 out)
