-- The streams of rows after each change of them.
use Rattle.std.proofs.Common.{◌≡◌, ◌≢◌, ◌<◌, ◌==◌, ℕ, suc, zero, Bool, true, false, cond, List, [], ◌∷◌, ◌++◌, length, get_or, refl, sym, subst, ◌∙◌, inl, inr, arith, Option, Some, None}
use Rattle.std.specs.Prelude.{slice_set, remove, is_some}
use Rattle.std.proofs.lemmas.Bool.{cases_eq, eq-eqb, ne_eqb}
use Rattle.rtc_channels.specs.declared.kept.Kept.{Kept}
use Rattle.rtc_channels.specs.Channels.{channel_of_stream, is_of_stream}
use Rattle.rtc_channels.specs.Kept.{channels_of}
use Rattle.rtc_channels.specs.Allocation.{is_given, IsUnshared, AreUnshared}
use Rattle.rtc_channels.specs.Granted.{FitsOpenMessage, FitOpenMessages}

-- ---- who has a stream

-- a stream is a row's own, or it is not
owner_own : (q s id : ℕ) (rows : List (ℕ × Option ℕ)) → q ≡ s → channel_of_stream q ((id, Some s) ∷ rows) ≡ Some id
owner_own q s id rows same = rw (eq-eqb s q (sym same)) refl

owner_apart : (q s id : ℕ) (rows : List (ℕ × Option ℕ)) → q ≢ s → channel_of_stream q ((id, Some s) ∷ rows) ≡ channel_of_stream q rows
owner_apart q s id rows differs = rw (ne_eqb s q (λ e. differs (sym e))) refl

-- a stream that the front row has not is not the front row's, nor another's
unowned_rest : (s : ℕ) (row : ℕ × Option ℕ) (rows : List (ℕ × Option ℕ)) → channel_of_stream s (row ∷ rows) ≡ None → channel_of_stream s rows ≡ None
unowned_rest s row rows none = by row.0 row.1 none
  where
    by : (id : ℕ) (stream : Option ℕ) → channel_of_stream s ((id, stream) ∷ rows) ≡ None → channel_of_stream s rows ≡ None
    by id None none = none
    by id (Some t) none = elim (cases_eq s t) [
      | inl same ↦ let wrong : Some id ≡ None = sym (owner_own s t id rows same) ∙ none in absurd cc
      | inr differs ↦ sym (owner_apart s t id rows differs) ∙ none
    ]

unowned_first : (s t id : ℕ) (rows : List (ℕ × Option ℕ)) → channel_of_stream s ((id, Some t) ∷ rows) ≡ None → t ≢ s
unowned_first s t id rows none same = let wrong : Some id ≡ None = sym (owner_own s t id rows (sym same)) ∙ none in absurd cc

pub is_given-owner : (s : ℕ) (rows : List (ℕ × Option ℕ)) (kept : List Kept) → length rows ≡ length kept
    → is_given s (channels_of rows kept) ≡ is_some (channel_of_stream s rows)
is_given-owner s [] kept same = refl
is_given-owner s (row ∷ rows) [] same = absurd (omega (arith, same))
is_given-owner s (row ∷ rows) (own ∷ kept) same = by (is_of_stream s row.1) refl (is_given-owner s rows kept (omega (arith, same)))
  where
    by : (here : Bool) → is_of_stream s row.1 ≡ here → is_given s (channels_of rows kept) ≡ is_some (channel_of_stream s rows)
        → is_given s (channels_of (row ∷ rows) (own ∷ kept)) ≡ is_some (channel_of_stream s (row ∷ rows))
    by true is rest = rw is refl
    by false is rest = rw is rest

-- ---- one more row

pub owner_more : (q id : ℕ) (rows : List (ℕ × Option ℕ)) → channel_of_stream q (rows ++ (id, None) ∷ []) ≡ channel_of_stream q rows
owner_more q id [] = refl
owner_more q id (row ∷ rows) = rw (owner_more q id rows) refl

pub owner_pushed : (q s id : ℕ) (rows : List (ℕ × Option ℕ)) → channel_of_stream s rows ≡ None
    → channel_of_stream q (rows ++ (id, Some s) ∷ []) ≡ cond (q == s) (Some id) (channel_of_stream q rows)
owner_pushed q s id [] none = elim (cases_eq q s) [
  | inl same ↦ owner_own q s id [] same ∙ sym (rw (eq-eqb q s same) refl)
  | inr differs ↦ owner_apart q s id [] differs ∙ sym (rw (ne_eqb q s differs) refl)
]
owner_pushed q s id (row ∷ rows) none = by row.0 row.1 none (owner_pushed q s id rows (unowned_rest s row rows none))
  where
    by : (own : ℕ) (stream : Option ℕ) → channel_of_stream s ((own, stream) ∷ rows) ≡ None
        → channel_of_stream q (rows ++ (id, Some s) ∷ []) ≡ cond (q == s) (Some id) (channel_of_stream q rows)
        → channel_of_stream q ((own, stream) ∷ rows ++ (id, Some s) ∷ []) ≡ cond (q == s) (Some id) (channel_of_stream q ((own, stream) ∷ rows))
    by own None none rest = rest
    by own (Some t) none rest = elim (cases_eq q t) [
      | inl same ↦
          let apart : q ≢ s = λ e. unowned_first s t own rows none (sym same ∙ e) in
          owner_own q t own (rows ++ (id, Some s) ∷ []) same ∙ sym (rw (ne_eqb q s apart) (owner_own q t own rows same))
      | inr differs ↦ owner_apart q t own (rows ++ (id, Some s) ∷ []) differs ∙ rest ∙ sym (rw (owner_apart q t own rows differs) refl)
    ]

pub unshared_more : (rows : List (ℕ × Option ℕ)) (id : ℕ) → AreUnshared rows → AreUnshared (rows ++ (id, None) ∷ [])
unshared_more [] id unshared = (tt, tt)
unshared_more (row ∷ rows) id unshared = (by row.1 unshared.0, unshared_more rows id unshared.1)
  where
    by : (stream : Option ℕ) → IsUnshared stream rows → IsUnshared stream (rows ++ (id, None) ∷ [])
    by None is = tt
    by (Some t) is = owner_more t id rows ∙ is

pub unshared_pushed : (rows : List (ℕ × Option ℕ)) (id s : ℕ) → channel_of_stream s rows ≡ None → AreUnshared rows → AreUnshared (rows ++ (id, Some s) ∷ [])
unshared_pushed [] id s none unshared = (refl, tt)
unshared_pushed (row ∷ rows) id s none unshared = (by row.0 row.1 none unshared.0, unshared_pushed rows id s (unowned_rest s row rows none) unshared.1)
  where
    by : (own : ℕ) (stream : Option ℕ) → channel_of_stream s ((own, stream) ∷ rows) ≡ None → IsUnshared stream rows → IsUnshared stream (rows ++ (id, Some s) ∷ [])
    by own None none is = tt
    by own (Some t) none is =
        owner_pushed t s id rows (unowned_rest s (own, Some t) rows none) ∙ (rw (ne_eqb t s (unowned_first s t own rows none)) is)

-- ---- a row is given a stream

pub owner_given : (q s id : ℕ) (rows : List (ℕ × Option ℕ)) (i : ℕ) (d : ℕ × Option ℕ) → i < length rows → get_or rows i d ≡ (id, None) → channel_of_stream s rows ≡ None
    → channel_of_stream q (slice_set rows i (id, Some s)) ≡ cond (q == s) (Some id) (channel_of_stream q rows)
owner_given q s id [] i d within at none = absurd (omega arith)
owner_given q s id (row ∷ rows) zero d within at none = rw at (elim (cases_eq q s) [
  | inl same ↦ owner_own q s id rows same ∙ sym (rw (eq-eqb q s same) refl)
  | inr differs ↦ owner_apart q s id rows differs ∙ sym (rw (ne_eqb q s differs) refl)
])
owner_given q s id (row ∷ rows) (suc i) d within at none = by row.0 row.1 none (owner_given q s id rows i d (omega (arith, within)) at (unowned_rest s row rows none))
  where
    by : (own : ℕ) (stream : Option ℕ) → channel_of_stream s ((own, stream) ∷ rows) ≡ None
        → channel_of_stream q (slice_set rows i (id, Some s)) ≡ cond (q == s) (Some id) (channel_of_stream q rows)
        → channel_of_stream q ((own, stream) ∷ slice_set rows i (id, Some s)) ≡ cond (q == s) (Some id) (channel_of_stream q ((own, stream) ∷ rows))
    by own None none rest = rest
    by own (Some t) none rest = elim (cases_eq q t) [
      | inl same ↦
          let apart : q ≢ s = λ e. unowned_first s t own rows none (sym same ∙ e) in
          owner_own q t own (slice_set rows i (id, Some s)) same ∙ sym (rw (ne_eqb q s apart) (owner_own q t own rows same))
      | inr differs ↦ owner_apart q t own (slice_set rows i (id, Some s)) differs ∙ rest ∙ sym (rw (owner_apart q t own rows differs) refl)
    ]

pub unshared_given : (rows : List (ℕ × Option ℕ)) (i id s : ℕ) (d : ℕ × Option ℕ) → i < length rows → get_or rows i d ≡ (id, None) → channel_of_stream s rows ≡ None
    → AreUnshared rows → AreUnshared (slice_set rows i (id, Some s))
unshared_given [] i id s d within at none unshared = absurd (omega arith)
unshared_given (row ∷ rows) zero id s d within at none unshared = (unowned_rest s row rows none, unshared.1)
unshared_given (row ∷ rows) (suc i) id s d within at none unshared =
    (by row.0 row.1 none unshared.0, unshared_given rows i id s d (omega (arith, within)) at (unowned_rest s row rows none) unshared.1)
  where
    by : (own : ℕ) (stream : Option ℕ) → channel_of_stream s ((own, stream) ∷ rows) ≡ None → IsUnshared stream rows → IsUnshared stream (slice_set rows i (id, Some s))
    by own None none is = tt
    by own (Some t) none is =
        owner_given t s id rows i d (omega (arith, within)) at (unowned_rest s (own, Some t) rows none) ∙ (rw (ne_eqb t s (unowned_first s t own rows none)) is)

-- ---- a row goes

pub owner_gone : (q : ℕ) (rows : List (ℕ × Option ℕ)) (i : ℕ) (d : ℕ × Option ℕ) → i < length rows → (get_or rows i d).1 ≡ None
    → channel_of_stream q (remove rows i) ≡ channel_of_stream q rows
owner_gone q [] i d within at = absurd (omega arith)
owner_gone q (row ∷ rows) zero d within at = rw at refl
owner_gone q (row ∷ rows) (suc i) d within at = rw (owner_gone q rows i d (omega (arith, within)) at) refl

-- a row behind the first of a stream has none that is the first's
pub behind_first : (t s : ℕ) (rows : List (ℕ × Option ℕ)) (i : ℕ) (d : ℕ × Option ℕ) → i < length rows → (get_or rows i d).1 ≡ Some s → channel_of_stream t rows ≡ None → t ≢ s
behind_first t s [] i d within at none same = absurd (omega arith)
behind_first t s (row ∷ rows) zero d within at none same =
    let own : channel_of_stream t ((row.0, Some s) ∷ rows) ≡ None = sym (rw at refl) ∙ none in
    unowned_first t s row.0 rows own (sym same)
behind_first t s (row ∷ rows) (suc i) d within at none same = behind_first t s rows i d (omega (arith, within)) at (unowned_rest t row rows none) same

pub owner_released : (q s : ℕ) (rows : List (ℕ × Option ℕ)) (i : ℕ) (d : ℕ × Option ℕ) → i < length rows → (get_or rows i d).1 ≡ Some s → AreUnshared rows
    → channel_of_stream q (remove rows i) ≡ cond (q == s) None (channel_of_stream q rows)
owner_released q s [] i d within at unshared = absurd (omega arith)
owner_released q s (row ∷ rows) zero d within at unshared = rw at (elim (cases_eq q s) [
  | inl same ↦ rw (eq-eqb q s same, same) (subst (λ (own : Option ℕ). IsUnshared own rows) at unshared.0)
  | inr differs ↦ rw (ne_eqb q s differs) (sym (owner_apart q s row.0 rows differs))
])
owner_released q s (row ∷ rows) (suc i) d within at unshared = by row.0 row.1 unshared.0 (owner_released q s rows i d (omega (arith, within)) at unshared.1)
  where
    by : (own : ℕ) (stream : Option ℕ) → IsUnshared stream rows → channel_of_stream q (remove rows i) ≡ cond (q == s) None (channel_of_stream q rows)
        → channel_of_stream q ((own, stream) ∷ remove rows i) ≡ cond (q == s) None (channel_of_stream q ((own, stream) ∷ rows))
    by own None is rest = rest
    by own (Some t) is rest = elim (cases_eq q t) [
      | inl same ↦
          let apart : q ≢ s = λ e. behind_first t s rows i d (omega (arith, within)) at is (sym same ∙ e) in
          owner_own q t own (remove rows i) same ∙ sym (rw (ne_eqb q s apart) (owner_own q t own rows same))
      | inr differs ↦ owner_apart q t own (remove rows i) differs ∙ rest ∙ sym (rw (owner_apart q t own rows differs) refl)
    ]

fewer_owned : (t : ℕ) (rows : List (ℕ × Option ℕ)) (i : ℕ) → i < length rows → channel_of_stream t rows ≡ None → channel_of_stream t (remove rows i) ≡ None
fewer_owned t [] i within none = absurd (omega arith)
fewer_owned t (row ∷ rows) zero within none = unowned_rest t row rows none
fewer_owned t (row ∷ rows) (suc i) within none = by row.0 row.1 none (fewer_owned t rows i (omega (arith, within)) (unowned_rest t row rows none))
  where
    by : (own : ℕ) (stream : Option ℕ) → channel_of_stream t ((own, stream) ∷ rows) ≡ None → channel_of_stream t (remove rows i) ≡ None → channel_of_stream t ((own, stream) ∷ remove rows i) ≡ None
    by own None none rest = rest
    by own (Some s) none rest = owner_apart t s own (remove rows i) (λ e. unowned_first t s own rows none (sym e)) ∙ rest

pub unshared_fewer : (rows : List (ℕ × Option ℕ)) (i : ℕ) → i < length rows → AreUnshared rows → AreUnshared (remove rows i)
unshared_fewer [] i within unshared = absurd (omega arith)
unshared_fewer (row ∷ rows) zero within unshared = unshared.1
unshared_fewer (row ∷ rows) (suc i) within unshared = (by row.1 unshared.0, unshared_fewer rows i (omega (arith, within)) unshared.1)
  where
    by : (stream : Option ℕ) → IsUnshared stream rows → IsUnshared stream (remove rows i)
    by None is = tt
    by (Some t) is = fewer_owned t rows i (omega (arith, within)) is

-- ---- configs

pub short_more : (kept : List Kept) (own : Kept) → FitsOpenMessage own.config → FitOpenMessages kept → FitOpenMessages (kept ++ own ∷ [])
short_more [] own is short = (is, tt)
short_more (first ∷ kept) own is short = (short.0, short_more kept own is short.1)

pub short_set : (kept : List Kept) (i : ℕ) (own : Kept) → FitsOpenMessage own.config → FitOpenMessages kept → FitOpenMessages (slice_set kept i own)
short_set [] i own is short = tt
short_set (first ∷ kept) zero own is short = (is, short.1)
short_set (first ∷ kept) (suc i) own is short = (short.0, short_set kept i own is short.1)

pub short_fewer : (kept : List Kept) (i : ℕ) → i < length kept → FitOpenMessages kept → FitOpenMessages (remove kept i)
short_fewer [] i within short = absurd (omega arith)
short_fewer (first ∷ kept) zero within short = short.1
short_fewer (first ∷ kept) (suc i) within short = (short.0, short_fewer kept i (omega (arith, within)) short.1)

pub short_at : (kept : List Kept) (i : ℕ) (d : Kept) → i < length kept → FitOpenMessages kept → FitsOpenMessage (get_or kept i d).config
short_at [] i d within short = absurd (omega arith)
short_at (first ∷ kept) zero d within short = short.0
short_at (first ∷ kept) (suc i) d within short = short_at kept i d (omega (arith, within)) short.1
