-- The lookup by name is the lookup among the names of its length.
use Rattle.std.proofs.Common.{◌≡◌, ℕ, Bool, true, false, cond, List, [], ◌∷◌, length, nat_eq, ◌||◌, ◌&&◌, Option, refl, ap, ◌∙◌}
use Rattle.std.specs.List.{list_all}
use Rattle.std.specs.Str.{bytes_eq}
use Rattle.std.proofs.lemmas.Bool.{false_from_ne_true}
use Rattle.std.proofs.lemmas.Bool.Decides.{Decides-eqb}
use Rattle.std.proofs.lemmas.Slice.Eq.{bytes_eq-Decides}
use Rattle.rtc_sdp_grammar.specs.Table.{Row, table, attribute_item, looked_up, row_item}
use Rattle.rtc_sdp_grammar.specs.NameLengths.{of_length}
use Rattle.rtc_sdp_grammar.specs.declared.item.Item.TheVariants.{Skipped}

-- names of other lengths are others
apart : (a b : List ℕ) → nat_eq (length a) (length b) ≡ false → bytes_eq a b ≡ false
apart a b e =
    false_from_ne_true (bytes_eq a b) (λ same.
    let one : a ≡ b = (bytes_eq-Decides a b).0 same in
    let equal : nat_eq (length a) (length b) ≡ true = (Decides-eqb (length a) (length b)).1 (ap length one) in
    cc)

by_length : (rows : List Row) (name : List ℕ) (value : Option (List ℕ)) → looked_up rows name value ≡ looked_up (of_length (length name) rows) name value
by_length [] name value = refl
by_length (row ∷ rows) name value = go (nat_eq (length name) (length row.name)) refl (by_length rows name value)
  where
    go : (b : Bool) → nat_eq (length name) (length row.name) ≡ b → looked_up rows name value ≡ looked_up (of_length (length name) rows) name value
        → cond (bytes_eq name row.name) (row_item row.level row.fault (row.form value)) (looked_up rows name value) ≡ looked_up (cond b (row ∷ of_length (length name) rows) (of_length (length name) rows)) name value
    go true e ih = rw ih refl
    go false e ih = let other : bytes_eq name row.name ≡ false = apart name row.name e in rw other ih

-- a name of n bytes is looked up among the rows of n bytes
pub found_at : (n : ℕ) (name : List ℕ) (value : Option (List ℕ)) → length name ≡ n → attribute_item name value ≡ looked_up (of_length n table) name value
unfolding attribute_item
found_at n name value e = by_length table name value ∙ ap (λ (k : ℕ). looked_up (of_length k table) name value) e

-- ---- names of lengths that the table has not
abbrev is_in : ℕ → List ℕ → Bool
is_in n [] = false
is_in n (k ∷ ks) = nat_eq n k || is_in n ks

abbrev pub Apart : ℕ → List ℕ → Type 0
Apart n [] = Unit {0}
Apart n (k ∷ ks) = (n ≡ k → ⊥) × Apart n ks

not_in : (n : ℕ) (ks : List ℕ) → Apart n ks → is_in n ks ≡ false
not_in n [] h = refl
not_in n (k ∷ ks) h =
    let other : nat_eq n k ≡ false = false_from_ne_true (nat_eq n k) (λ same. h.0 ((Decides-eqb n k).0 same)) in
    rw other (not_in n ks h.1)

-- each row's name has one of these lengths
abbrev is_covered : List Row → List ℕ → Bool
is_covered rows ks = list_all (λ (row : Row). is_in (length row.name) ks) rows

both_true : (a b : Bool) → (a && b) ≡ true → (a ≡ true) × (b ≡ true)
both_true true b h = (refl, h)
both_true false b h = absurd cc

uncovered : (rows : List Row) (ks : List ℕ) (n : ℕ) → is_covered rows ks ≡ true → is_in n ks ≡ false → of_length n rows ≡ []
uncovered [] ks n h e = refl
uncovered (row ∷ rows) ks n h e =
    let parts = both_true (is_in (length row.name) ks) (is_covered rows ks) h in
    let other : nat_eq n (length row.name) ≡ false =
    false_from_ne_true (nat_eq n (length row.name)) (λ same.
    let one : n ≡ length row.name = (Decides-eqb n (length row.name)).0 same in
    let listed : is_in n ks ≡ true = ap (λ (k : ℕ). is_in k ks) one ∙ parts.0 in
    cc) in
    rw other (uncovered rows ks n parts.1 e)

-- the lengths of the table's names
abbrev pub lengths : List ℕ
lengths = 3 ∷ 4 ∷ 5 ∷ 6 ∷ 7 ∷ 8 ∷ 9 ∷ 10 ∷ 11 ∷ 16 ∷ []

covered : is_covered table lengths ≡ true
covered = refl

pub other_lengths : (name : List ℕ) (value : Option (List ℕ)) → Apart (length name) lengths → attribute_item name value ≡ Skipped
unfolding attribute_item
other_lengths name value h =
    by_length table name value ∙ ap (λ (rows : List Row). looked_up rows name value) (uncovered table lengths (length name) covered (not_in (length name) lengths h))
