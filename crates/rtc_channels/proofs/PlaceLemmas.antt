-- The places of rows that are in order of their numbers.
use Rattle.std.proofs.Common.{
  ◌≡◌,
  ◌≢◌,
  ◌+◌,
  ◌<◌,
  ◌≤◌,
  ◌==◌,
  ℕ,
  suc,
  zero,
  Bool,
  true,
  false,
  List,
  [],
  ◌∷◌,
  length,
  get_or,
  inl,
  inr,
  refl,
  ap,
  sym,
  ◌∙◌,
  arith,
  Option,
  Some,
  None,
}
use Rattle.std.specs.Prelude.{slice_get}
use Rattle.std.proofs.lemmas.Bool.{cases_eq, cases_lt, eq-eqb, ne_eqb}
use Rattle.rtc_channels.specs.declared.kept.Kept.{Kept}
use Rattle.rtc_channels.specs.Channels.{AreRising, stream_of_channel}
use Rattle.rtc_channels.specs.Kept.{channels_of, ArePaired, AreAscending, IsLowerBound, place_of_channel}
use Rattle.rtc_channels.proofs.KeptLemmas.{place_behind, some_same}

-- a row that is there is that whatever stands for one that is not
pub get_or_any : (rows : List (ℕ × Option ℕ)) (k : ℕ) (e d : ℕ × Option ℕ) → k < length rows → get_or rows k e ≡ get_or rows k d
get_or_any [] k e d within = absurd (omega arith)
get_or_any (first ∷ rows) zero e d within = refl
get_or_any (first ∷ rows) (suc k) e d within = get_or_any rows k e d (omega (arith, within))

-- the first row of a number has its place
pub place_found : (place id : ℕ) (rows : List (ℕ × Option ℕ)) (i : ℕ) (d : ℕ × Option ℕ) → i < length rows
    → ((k : ℕ) (d : ℕ × Option ℕ) → k < i → (get_or rows k d).0 ≢ id) → (get_or rows i d).0 ≡ id → place_of_channel place id rows ≡ Some (place + i)
place_found place id [] i d within before here = absurd (omega arith)
place_found place id (first ∷ rows) zero d within before here = rw (eq-eqb first.0 id here) (ap (λ (n : ℕ). Some n) (omega arith))
place_found place id (first ∷ rows) (suc i) d within before here =
    rw (ne_eqb first.0 id (before 0 d (omega arith)))
    (place_found (place + 1) id rows i d (omega (arith, within)) (λ k e less. before (suc k) e (omega arith)) here ∙ ap (λ (n : ℕ). Some n) (omega arith))

pub place_missed : (place id : ℕ) (rows : List (ℕ × Option ℕ)) → ((k : ℕ) (d : ℕ × Option ℕ) → k < length rows → (get_or rows k d).0 ≢ id)
    → place_of_channel place id rows ≡ None
place_missed place id [] none = refl
place_missed place id (first ∷ rows) none =
    rw (ne_eqb first.0 id (none 0 first (omega arith))) (place_missed (place + 1) id rows (λ k d less. none (suc k) d (omega (arith, less))))

-- numbers that rise are in order
least_id : (least : ℕ) (rows : List (ℕ × Option ℕ)) (kept : List Kept) → length rows ≡ length kept → AreRising least (channels_of rows kept)
    → (i : ℕ) (d : ℕ × Option ℕ) → i < length rows → least ≤ (get_or rows i d).0
least_id least [] kept same rising i d within = absurd (omega arith)
least_id least (first ∷ rows) [] same rising i d within = absurd (omega (arith, same))
least_id least (first ∷ rows) (own ∷ kept) same rising zero d within = rising.0
least_id least (first ∷ rows) (own ∷ kept) same rising (suc i) d within =
    let more = least_id (first.0 + 1) rows kept (omega (arith, same)) rising.1 i d (omega (arith, within)) in
    omega (arith, more, rising.0)

pub ascending_from : (least : ℕ) (rows : List (ℕ × Option ℕ)) (kept : List Kept) → length rows ≡ length kept → AreRising least (channels_of rows kept)
    → AreAscending rows
ascending_from least [] kept same rising = λ i j d less within. absurd (omega arith)
ascending_from least (first ∷ rows) [] same rising = absurd (omega (arith, same))
ascending_from least (first ∷ rows) (own ∷ kept) same rising = by (ascending_from (first.0 + 1) rows kept (omega (arith, same)) rising.1) (least_id (first.0 + 1) rows kept (omega (arith, same)) rising.1)
  where
    by : AreAscending rows → ((i : ℕ) (d : ℕ × Option ℕ) → i < length rows → first.0 + 1 ≤ (get_or rows i d).0) → AreAscending (first ∷ rows)
    by rest least i zero d less within = absurd (omega arith)
    by rest least zero (suc j) d less within = let more = least j d (omega (arith, within)) in omega (arith, more)
    by rest least (suc i) (suc j) d less within = rest i j d (omega arith) (omega (arith, within))

-- the place of a row's number is its own
pub place_own : (rows : List (ℕ × Option ℕ)) (i : ℕ) (d : ℕ × Option ℕ) → AreAscending rows → i < length rows → place_of_channel 0 (get_or rows i d).0 rows ≡ Some i
place_own rows i d ascending within =
    place_found 0 (get_or rows i d).0 rows i d within
    (λ k e less same. let below = ascending k i d less within in let one = get_or_any rows k e d (omega (arith, less, within)) in omega (arith, below, same, ap (λ (r : ℕ × Option ℕ). r.0) one)) refl
    ∙ ap (λ (n : ℕ). Some n) (omega arith)

-- the stream of a channel is that of the row at its place
pub stream_at : (place id : ℕ) (rows : List (ℕ × Option ℕ)) (i : ℕ) (d : ℕ × Option ℕ) → place_of_channel place id rows ≡ Some (place + i) → stream_of_channel id rows ≡ (get_or rows i d).1
stream_at place id [] i d found = absurd cc
stream_at place id (first ∷ rows) i d found = by (λ j. stream_at (place + 1) id rows j d) (first.0 == id) refl i found
  where
    by : ((j : ℕ) → place_of_channel (place + 1) id rows ≡ Some (place + 1 + j) → stream_of_channel id rows ≡ (get_or rows j d).1)
        → (here : Bool) → (first.0 == id) ≡ here → (i : ℕ) → place_of_channel place id (first ∷ rows) ≡ Some (place + i) → stream_of_channel id (first ∷ rows) ≡ (get_or (first ∷ rows) i d).1
    by rest true is zero found = rw is refl
    by rest true is (suc i) found = absurd (omega (arith, some_same place (place + suc i) (sym (rw is refl) ∙ found)))
    by rest false is zero found = absurd (omega (arith, place_behind (place + 1) id rows (place + 0) (sym (rw is refl) ∙ found)))
    by rest false is (suc i) found = rw is (rest i ((sym (rw is refl) ∙ found) ∙ ap (λ n. Some n) (omega arith)))

pub stream_missed : (place id : ℕ) (rows : List (ℕ × Option ℕ)) → place_of_channel place id rows ≡ None → stream_of_channel id rows ≡ None
stream_missed place id [] missed = refl
stream_missed place id (first ∷ rows) missed = grind (arith, stream_missed (place + 1) id rows)

-- what a search found, by its lower bound
pub bound_found : (id : ℕ) (rows : List (ℕ × Option ℕ)) (place : ℕ) (d : ℕ × Option ℕ) → IsLowerBound id rows place → place < length rows → (get_or rows place d).0 ≡ id
    → place_of_channel 0 id rows ≡ Some place
bound_found id rows place d bound within here =
    place_found 0 id rows place d within (λ k e less same. let below = bound.before k e less in omega (arith, below, same)) here ∙ ap (λ (n : ℕ). Some n) (omega arith)

pub bound_missed : (id : ℕ) (rows : List (ℕ × Option ℕ)) (place : ℕ) (d : ℕ × Option ℕ) → AreAscending rows → IsLowerBound id rows place → (place < length rows → (get_or rows place d).0 ≢ id)
    → place_of_channel 0 id rows ≡ None
bound_missed id rows place d ascending bound differs = place_missed 0 id rows never
  where
    never : (k : ℕ) (e : ℕ × Option ℕ) → k < length rows → (get_or rows k e).0 ≢ id
    never k e within same = elim (cases_lt k place) [
      | inl less ↦ let below = bound.before k e less in omega (arith, below, same)
      | inr more ↦ elim (cases_eq k place) [
        | inl here ↦ differs (omega (arith, here, within)) (ap (λ (r : ℕ × Option ℕ). r.0) (ap (λ (n : ℕ). get_or rows n d) (sym here) ∙ get_or_any rows k d e within) ∙ same)
        | inr apart ↦ let above = ascending place k d (omega (arith, more, apart)) within in
            let least = bound.behind place d (omega arith) (omega (arith, more, within)) in
            omega (arith, above, least, same, ap (λ (r : ℕ × Option ℕ). r.0) (get_or_any rows k d e within))
      ]
    ]

-- what a look-up gives
pub row_got : (rows : List (ℕ × Option ℕ)) (place : ℕ) (row d : ℕ × Option ℕ) → slice_get rows place ≡ Some row → (place < length rows) × (get_or rows place d ≡ row)
row_got [] place row d got = absurd cc
row_got (first ∷ rows) zero row d got = (omega arith, cc)
row_got (first ∷ rows) (suc place) row d got = let rest = row_got rows place row d got in (omega (arith, rest.0), rest.1)

pub none_got : (rows : List (ℕ × Option ℕ)) (place : ℕ) → slice_get rows place ≡ None → length rows ≤ place
none_got [] place got = omega arith
none_got (first ∷ rows) zero got = absurd cc
none_got (first ∷ rows) (suc place) got = let rest = none_got rows place got in omega (arith, rest)

-- the rows up to one with a lesser number have lesser numbers, and those from one on that has none have none
pub before_more : (id : ℕ) (rows : List (ℕ × Option ℕ)) (place : ℕ) (own : ℕ × Option ℕ) → AreAscending rows → place < length rows → (get_or rows place own).0 < id
    → (k : ℕ) (d : ℕ × Option ℕ) → k < place + 1 → (get_or rows k d).0 < id
before_more id rows place own ascending within less k d below =
    elim (cases_eq k place) [
      | inl here ↦ omega (arith, less, ap (λ (r : ℕ × Option ℕ). r.0) (ap (λ (n : ℕ). get_or rows n d) here ∙ get_or_any rows place d own within))
      | inr apart ↦ let first = ascending k place d (omega (arith, below, apart)) within in omega (arith, first, less, ap (λ (r : ℕ × Option ℕ). r.0) (get_or_any rows place d own within))
    ]

pub behind_more : (id : ℕ) (rows : List (ℕ × Option ℕ)) (place : ℕ) (own : ℕ × Option ℕ) → AreAscending rows → id ≤ (get_or rows place own).0
    → (k : ℕ) (d : ℕ × Option ℕ) → place ≤ k → k < length rows → id ≤ (get_or rows k d).0
behind_more id rows place own ascending least k d more within =
    elim (cases_eq k place) [
      | inl here ↦ omega (arith, least, ap (λ (r : ℕ × Option ℕ). r.0) (ap (λ (n : ℕ). get_or rows n d) here ∙ get_or_any rows place d own (omega (arith, here, within))))
      | inr apart ↦ let first = ascending place k own (omega (arith, more, apart)) within in omega (arith, first, least, ap (λ (r : ℕ × Option ℕ). r.0) (get_or_any rows k d own within))
    ]

-- the rows of a handler are in order of their numbers
pub handled_ascending : {given : ℕ} (rows : List (ℕ × Option ℕ)) (kept : List Kept) → ArePaired given rows kept → AreAscending rows
handled_ascending rows kept paired = ascending_from 0 rows kept paired.same paired.rising

-- two that stand at one place are the same
pub same_row : (rows : List (ℕ × Option ℕ)) (i : ℕ) (a b : ℕ × Option ℕ) → i < length rows → a ≡ get_or rows i a → b ≡ get_or rows i b → a ≡ b
same_row rows i a b within first second = first ∙ (get_or_any rows i a b within ∙ sym second)
