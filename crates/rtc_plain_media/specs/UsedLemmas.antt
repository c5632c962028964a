-- Which SSRCs and which streams are there, after changes of the tables.
use Rattle.std.proofs.Common.{
  ◌≡◌,
  ◌⊎◌,
  inl,
  inr,
  ℕ,
  ◌==◌,
  ◌||◌,
  Bool,
  true,
  false,
  not,
  cond,
  filter,
  Option,
  Some,
  None,
  List,
  [],
  ◌∷◌,
  refl,
  sym,
  ap,
  ◌∙◌,
  true≢false,
}
use Rattle.std.specs.List.{list_any}
use Rattle.std.proofs.lemmas.Bool.Decides.{Decides-eqb}
use Rattle.rtc_sdp_values.specs.declared.ssrc.Ssrc.{Ssrc}
use Rattle.rtc_plain_media.specs.declared.plain_mark.PlainMark.{PlainMark}
use Rattle.rtc_plain_media.specs.declared.stream_row.StreamRow.{StreamRow}
use Rattle.rtc_plain_media.specs.Streams.{Streams, has_ssrc, is_ssrc, is_of_line, put_row, change_first, first_passes, without_streams}
use Rattle.rtc_plain_media.specs.Lines.{Lines, same_key, key_of}
use Rattle.rtc_plain_media.specs.MediaContents.{line_uses}
use Rattle.rtc_plain_media.specs.MediaCalls.{writer_marked}
use Rattle.rtc_plain_media.specs.UpdateLemmas.{same_is}

-- either of two tests
pub or_left : (a b : Bool) → a ≡ true → a || b ≡ true
or_left a b h = ap (λ (t : Bool). t || b) h

pub or_right : (a b : Bool) → b ≡ true → a || b ≡ true
or_right true b h = refl
or_right false b h = h

pub or_none : (a b : Bool) → a ≡ false → b ≡ false → a || b ≡ false
or_none a b h k = ap (λ (t : Bool). t || b) h ∙ k

pub or_case : (a b : Bool) → a || b ≡ true → (a ≡ true) ⊎ (b ≡ true)
or_case true b h = inl refl
or_case false b h = inr h

-- a test that a change keeps finds the same after it
pub any-change : (test fits : StreamRow → Bool) (change : StreamRow → StreamRow) (rows : Streams)
    → ((r : StreamRow) → test (change r) ≡ test r) → list_any test (change_first fits change rows) ≡ list_any test rows
any-change test fits change [] same = refl
any-change test fits change (x ∷ xs) same = by (fits x) refl (any-change test fits change xs same)
  where
    by : (b : Bool) → fits x ≡ b → list_any test (change_first fits change xs) ≡ list_any test xs
        → list_any test (change_first fits change (x ∷ xs)) ≡ list_any test (x ∷ xs)
    by true is more = ap (λ (t : Bool). list_any test (cond t (change x ∷ xs) (x
        ∷ change_first fits change xs))) is ∙ ap (λ (t : Bool). t || list_any test xs) (same x)
    by false is more = ap (λ (t : Bool). list_any test (cond t (change x ∷ xs) (x
        ∷ change_first fits change xs))) is ∙ ap (λ (t : Bool). test x || t) more

-- what a test finds after a row was put
pub any-put_own : (test : StreamRow → Bool) (r : StreamRow) (rows : Streams) → test r ≡ true → list_any test (put_row r rows) ≡ true
any-put_own test r [] h = or_left (test r) false h
any-put_own test r (x ∷ xs) h = by (has_ssrc r.ssrc x) refl (any-put_own test r xs h)
  where
    by : (b : Bool) → has_ssrc r.ssrc x ≡ b → list_any test (put_row r xs) ≡ true → list_any test (put_row r (x ∷ xs)) ≡ true
    by true is more = ap (λ (t : Bool). list_any test (cond t (r ∷ xs) (x ∷ put_row r xs))) is ∙ or_left (test r) (list_any test xs) h
    by false is more = ap (λ (t : Bool). list_any test (cond t (r ∷ xs) (x
        ∷ put_row r xs))) is ∙ or_right (test x) (list_any test (put_row r xs)) more

pub any-put_other : (test : StreamRow → Bool) (r : StreamRow) (rows : Streams) → list_any test (put_row r rows) ≡ true
    → (test r ≡ true) ⊎ (list_any test rows ≡ true)
any-put_other test r [] h = elim (or_case (test r) false h) [ inl a ↦ inl a | inr a ↦ absurd (true≢false (sym a)) ]
any-put_other test r (x ∷ xs) h = by (has_ssrc r.ssrc x) refl (any-put_other test r xs)
  where
    by : (b : Bool) → has_ssrc r.ssrc x ≡ b → (list_any test (put_row r xs) ≡ true → (test r ≡ true) ⊎ (list_any test xs ≡ true))
        → (test r ≡ true) ⊎ (list_any test (x ∷ xs) ≡ true)
    by true is more =
        elim (or_case (test r) (list_any test xs) (sym (ap (λ (t : Bool). list_any test (cond t (r ∷ xs) (x ∷ put_row r xs))) is) ∙ h))
        [ inl a ↦ inl a | inr a ↦ inr (or_right (test x) (list_any test xs) a) ]
    by false is more =
        elim (or_case (test x) (list_any test (put_row r xs)) (sym (ap (λ (t : Bool). list_any test (cond t (r ∷ xs) (x
        ∷ put_row r xs))) is) ∙ h)) [
          | inl a ↦ inr (or_left (test x) (list_any test xs) a)
          | inr a ↦ elim (more a) [ inl y ↦ inl y | inr y ↦ inr (or_right (test x) (list_any test xs) y) ]
        ]

-- and after the first row that fits was changed
pub any-change_own : (test fits passes : StreamRow → Bool) (change : StreamRow → StreamRow) (rows : Streams)
    → ((r : StreamRow) → test (change r) ≡ true) → first_passes fits passes rows ≡ true
    → list_any test (change_first fits change rows) ≡ true
any-change_own test fits passes change [] own h = absurd (true≢false (sym h))
any-change_own test fits passes change (x ∷ xs) own h = by (fits x) refl (any-change_own test fits passes change xs own)
  where
    by : (b : Bool) → fits x ≡ b → (first_passes fits passes xs ≡ true → list_any test (change_first fits change xs) ≡ true)
        → list_any test (change_first fits change (x ∷ xs)) ≡ true
    by true is more = ap (λ (t : Bool). list_any test (cond t (change x ∷ xs) (x
        ∷ change_first fits change xs))) is ∙ or_left (test (change x)) (list_any test xs) (own x)
    by false is more =
        ap (λ (t : Bool). list_any test (cond t (change x ∷ xs) (x ∷ change_first fits change xs))) is
        ∙ or_right (test x) (list_any test (change_first fits change xs))
        (more (sym (ap (λ (t : Bool). cond t (passes x) (first_passes fits passes xs)) is) ∙ h))

pub any-change_other : {P : Type 0} (test fits : StreamRow → Bool) (change : StreamRow → StreamRow) (rows : Streams)
    → ((r : StreamRow) → test (change r) ≡ true → P) → list_any test (change_first fits change rows) ≡ true → P
    ⊎ (list_any test rows ≡ true)
any-change_other test fits change [] own h = absurd (true≢false (sym h))
any-change_other {P} test fits change (x ∷ xs) own h = by (fits x) refl (any-change_other test fits change xs own)
  where
    by : (b : Bool) → fits x ≡ b → (list_any test (change_first fits change xs) ≡ true → P ⊎ (list_any test xs ≡ true)) → P
        ⊎ (list_any test (x ∷ xs) ≡ true)
    by true is more =
        elim (or_case (test (change x)) (list_any test xs) (sym (ap (λ (t : Bool). list_any test (cond t (change x ∷ xs) (x
        ∷ change_first fits change xs))) is) ∙ h))
        [ inl a ↦ inl (own x a) | inr a ↦ inr (or_right (test x) (list_any test xs) a) ]
    by false is more =
        elim (or_case (test x) (list_any test (change_first fits change xs))
        (sym (ap (λ (t : Bool). list_any test (cond t (change x ∷ xs) (x ∷ change_first fits change xs))) is) ∙ h)) [
          | inl a ↦ inr (or_left (test x) (list_any test xs) a)
          | inr a ↦ elim (more a) [ inl y ↦ inl y | inr y ↦ inr (or_right (test x) (list_any test xs) y) ]
        ]

-- what was dropped is not found
pub any-dropped : (test : StreamRow → Bool) (rows : Streams) → list_any test (filter (λ row. not (test row)) rows) ≡ false
any-dropped test [] = refl
any-dropped test (x ∷ xs) = by (test x) refl (any-dropped test xs)
  where
    by : (b : Bool) → test x ≡ b → list_any test (filter (λ row. not (test row)) xs) ≡ false
        → list_any test (filter (λ row. not (test row)) (x ∷ xs)) ≡ false
    by true is more = ap (λ (t : Bool). list_any test (cond (not t) (x
        ∷ filter (λ row. not (test row)) xs) (filter (λ row. not (test row)) xs))) is ∙ more
    by false is more = ap (λ (t : Bool). list_any test (cond (not t) (x
        ∷ filter (λ row. not (test row)) xs) (filter (λ row. not (test row)) xs))) is ∙ or_none (test x) _ is more

-- a line that is gone has no stream
pub any-without : (mid : List ℕ) (gone : List ℕ → Bool) (rows : Streams) → gone mid ≡ true
    → list_any (is_of_line mid) (without_streams gone rows) ≡ false
any-without mid gone [] h = refl
any-without mid gone (x ∷ xs) h = by (gone x.mid) refl (is_of_line mid x) refl (any-without mid gone xs h)
  where
    by : (b : Bool) → gone x.mid ≡ b → (o : Bool) → is_of_line mid x ≡ o → list_any (is_of_line mid) (without_streams gone xs)
        ≡ false → list_any (is_of_line mid) (without_streams gone (x ∷ xs)) ≡ false
    by true is o of more = ap (λ (t : Bool). list_any (is_of_line mid) (cond (not t) (x
        ∷ without_streams gone xs) (without_streams gone xs))) is ∙ more
    by false is true of more = absurd (true≢false (sym h ∙ ap gone (sym (same_is x.mid mid of)) ∙ is))
    by false is false of more = ap (λ (t : Bool). list_any (is_of_line mid) (cond (not t) (x
        ∷ without_streams gone xs) (without_streams gone xs))) is ∙ or_none (is_of_line mid x) _ of more

-- a writer's mark is no SSRC
pub any-writer_marked : (ssrc : Ssrc) (mid : List ℕ) (w : PlainMark) (ls : Lines)
    → list_any (line_uses ssrc) (writer_marked mid w ls) ≡ list_any (line_uses ssrc) ls
any-writer_marked ssrc mid w [] = refl
any-writer_marked ssrc mid w (e ∷ es) = by (same_key (key_of mid) e.0) refl (any-writer_marked ssrc mid w es)
  where
    by : (b : Bool) → same_key (key_of mid) e.0 ≡ b → list_any (line_uses ssrc) (writer_marked mid w es)
        ≡ list_any (line_uses ssrc) es → list_any (line_uses ssrc) (writer_marked mid w (e ∷ es))
        ≡ list_any (line_uses ssrc) (e ∷ es)
    by true is more = ap (λ (t : Bool). list_any (line_uses ssrc) (cond t ((e.0, record e.1 { mark = w }) ∷ es) (e
        ∷ writer_marked mid w es))) is
    by false is more = ap (λ (t : Bool). list_any (line_uses ssrc) (cond t ((e.0, record e.1 { mark = w }) ∷ es) (e
        ∷ writer_marked mid w es))) is ∙ ap (λ (t : Bool). line_uses ssrc e || t) more

-- an SSRC that a stream or its retransmissions have is one of the two
pub uses_is : (ssrc : Ssrc) (rtx : Option Ssrc) (other : Ssrc) → ((ssrc.0 == other.0) || is_ssrc rtx other) ≡ true
    → (other ≡ ssrc) ⊎ (rtx ≡ Some other)
uses_is ssrc rtx other h =
    elim (or_case (ssrc.0 == other.0) (is_ssrc rtx other) h)
    [ inl a ↦ inl (number other ssrc (sym ((Decides-eqb ssrc.0 other.0).0 a))) | inr a ↦ inr (held rtx a) ]
  where
    number : (a b : Ssrc) → a.0 ≡ b.0 → a ≡ b
    number a b e = ap (λ (n : ℕ). record { 0 = n }) e

    held : (r : Option Ssrc) → is_ssrc r other ≡ true → r ≡ Some other
    held None a = absurd (true≢false (sym a))
    held (Some s) a = ap (λ (n : ℕ). Some (record { 0 = n })) ((Decides-eqb s.0 other.0).0 a)

pub own_ssrc : (ssrc : Ssrc) (rtx : Option Ssrc) → ((ssrc.0 == ssrc.0) || is_ssrc rtx ssrc) ≡ true
own_ssrc ssrc rtx = or_left (ssrc.0 == ssrc.0) (is_ssrc rtx ssrc) ((Decides-eqb ssrc.0 ssrc.0).1 refl)

pub own_rtx : (ssrc : Ssrc) (rtx : Option Ssrc) (other : Ssrc) → rtx ≡ Some other → ((ssrc.0 == other.0) || is_ssrc rtx other) ≡ true
own_rtx ssrc rtx other e =
    or_right (ssrc.0 == other.0) (is_ssrc rtx other)
    (ap (λ (r : Option Ssrc). is_ssrc r other) e ∙ (Decides-eqb other.0 other.0).1 refl)

-- tests of both tables and of the lines
pub first_uses : (a b c : Bool) → a ≡ true → a || (b || c) ≡ true
first_uses a b c h = or_left a (b || c) h

pub second_uses : (a b c : Bool) → b ≡ true → a || (b || c) ≡ true
second_uses a b c h = or_right a (b || c) (or_left b c h)

pub first_other : {P : Type 0} (a a' r : Bool) → (a' ≡ true → P ⊎ (a ≡ true)) → a' || r ≡ true → P ⊎ (a || r ≡ true)
first_other a a' r f h =
    elim (or_case a' r h)
    [ inl x ↦ elim (f x) [ inl y ↦ inl y | inr y ↦ inr (or_left a r y) ] | inr x ↦ inr (or_right a r x) ]

pub second_other : {P : Type 0} (a b b' c : Bool) → (b' ≡ true → P ⊎ (b ≡ true)) → a || (b' || c) ≡ true → P ⊎ (a || (b || c) ≡ true)
second_other a b b' c f h =
    elim (or_case a (b' || c) h) [
      | inl x ↦ inr (or_left a (b
          || c) x)
      | inr x ↦ elim (first_other b b' c f x) [ inl y ↦ inl y | inr y ↦ inr (or_right a (b || c) y) ]
    ]
