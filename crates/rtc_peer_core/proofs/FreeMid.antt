-- A mid that is drawn is free: of one more mids than are held, one is not held.
use Rattle.std.proofs.Common.{◌≡◌, ◌≢◌, ◌∙◌, ◌≤◌, ◌<◌, ◌+◌, ◌%◌, ◌^◌, zero, suc, ◌||◌, Bool, true, false, ℕ, List, [], ◌∷◌, ◌++◌, map, length, refl, sym, ap, subst, arith, length-append}
use Rattle.std.specs.List.{list_any, IsDistinct, AllByRecursion}
use Rattle.std.specs.Set.{is_member}
use Rattle.std.specs.Str.{bytes_eq}
use Rattle.std.specs.Fmt.{decimal}
use Rattle.std.specs.Cmp.{IsEquivalence}
use Rattle.std.proofs.lemmas.Bool.{false_from_ne_true}
use Rattle.std.proofs.lemmas.Fmt.{decimal_injective}
use Rattle.std.proofs.lemmas.List.{length-map}
use Rattle.std.proofs.lemmas.List.Folds.{list_any-append}
use Rattle.std.proofs.lemmas.Slice.Eq.{bytes_eq-Decides}
use Rattle.std.proofs.lemmas.Map.Keys.{IsDistinct-cons}
use Rattle.std.proofs.lemmas.Map.Made.{length-le_from_is_member}
use Rattle.rtc_sdp_values.specs.LineRow.{row_mid}
use Rattle.rtc_sdp_values.specs.declared.line_row.LineRow.{LineRow}
use Rattle.rtc_change.specs.declared.change.Change.{Change}
use Rattle.rtc_sdp_values.specs.Mids.{is_among}
use Rattle.rtc_change.specs.PendingOffer.{added_mids}
use Rattle.rtc_peer_core.specs.Names.{drawn_mid, free_mid, is_held}

abbrev following : ℕ → ℕ
following n = (n + 1) % 2 ^ 32

-- the mids that are tried
abbrev tried : ℕ → ℕ → List (List ℕ)
tried zero n = drawn_mid n ∷ []
tried (suc tries) n = drawn_mid n ∷ tried tries (following n)

length-tried : (tries n : ℕ) → length (tried tries n) ≡ suc tries
length-tried zero n = refl
length-tried (suc tries) n = ap suc (length-tried tries (following n))

last_try : (held : List ℕ → Bool) (n : ℕ) → free_mid held zero n ≡ drawn_mid n
unfolding free_mid
last_try held n = refl

goes_on : (held : List ℕ → Bool) (tries n : ℕ) → held (drawn_mid n) ≡ true → free_mid held (suc tries) n ≡ free_mid held tries (following n)
unfolding free_mid
goes_on held tries n h = rw h refl

stops : (held : List ℕ → Bool) (tries n : ℕ) → held (drawn_mid n) ≡ false → free_mid held (suc tries) n ≡ drawn_mid n
unfolding free_mid
stops held tries n h = rw h refl

-- what holds of a mid and of the mids tried after it holds of each of them
each_tried : (held : List ℕ → Bool) (mid : List ℕ) (more : List (List ℕ)) → held mid ≡ true
    → ((other : List ℕ) → is_member bytes_eq more other ≡ true → held other ≡ true)
    → (other : List ℕ) → is_member bytes_eq (mid ∷ more) other ≡ true → held other ≡ true
each_tried held mid more here rest other among = by (bytes_eq other mid) refl among
  where
    by : (same : Bool) → bytes_eq other mid ≡ same → (same || is_member bytes_eq more other) ≡ true → held other ≡ true
    by true is among = subst (λ (m : List ℕ). held m ≡ true) (sym ((bytes_eq-Decides other mid).0 is)) here
    by false is among = rest other among

at_try : (held : List ℕ → Bool) (tries n : ℕ) (here : Bool) → held (drawn_mid n) ≡ here → held (free_mid held (suc tries) n) ≡ true
    → (held (free_mid held tries (following n)) ≡ true → (other : List ℕ) → is_member bytes_eq (tried tries (following n)) other ≡ true → held other ≡ true)
    → (other : List ℕ) → is_member bytes_eq (tried (suc tries) n) other ≡ true → held other ≡ true
at_try held tries n true is found on other among =
    each_tried held (drawn_mid n) (tried tries (following n)) is (on (subst (λ (m : List ℕ). held m ≡ true) (goes_on held tries n is) found)) other among
at_try held tries n false is found on other among =
    absurd (let e : held (drawn_mid n) ≡ true = subst (λ (m : List ℕ). held m ≡ true) (stops held tries n is) found in cc)

-- where the mid that is found is held, all that were tried are
all_held : (held : List ℕ → Bool) (tries n : ℕ) → held (free_mid held tries n) ≡ true
    → (other : List ℕ) → is_member bytes_eq (tried tries n) other ≡ true → held other ≡ true
all_held held zero n found =
    each_tried held (drawn_mid n) [] (subst (λ (m : List ℕ). held m ≡ true) (last_try held n) found) (λ other among. absurd (let e : false ≡ true = among in cc))
all_held held (suc tries) n found = at_try held tries n (held (drawn_mid n)) refl found (all_held held tries (following n))

-- the numbers that are counted on to differ from the first
other_number : (n k : ℕ) → n < 2 ^ 32 → k + 1 < 2 ^ 32 → (n + 1 + k) % 2 ^ 32 ≢ n
other_number n k small few same = omega arith

other_mid : (n m : ℕ) → n < 2 ^ 64 → m < 2 ^ 64 → m ≢ n → bytes_eq (drawn_mid n) (drawn_mid m) ≡ false
other_mid n m small small' other = false_from_ne_true (bytes_eq (drawn_mid n) (drawn_mid m))
    (λ e. other (let same : drawn_mid n ≡ drawn_mid m = (bytes_eq-Decides (drawn_mid n) (drawn_mid m)).0 e in
    let digits : decimal n ≡ decimal m = cc in sym (decimal_injective n m small small' digits)))

none_again : (tries n m k : ℕ) → n < 2 ^ 32 → m ≡ (n + 1 + k) % 2 ^ 32 → k + tries + 1 < 2 ^ 32
    → AllByRecursion (λ other. bytes_eq (drawn_mid n) other ≡ false) (tried tries m)
none_again zero n m k small is few = (other_mid n m (omega arith) (omega arith) (rw is (other_number n k small (omega arith))), tt)
none_again (suc tries) n m k small is few = (
  other_mid n m (omega arith) (omega arith) (rw is (other_number n k small (omega arith))),
  none_again tries n (following m) (k + 1) small (omega arith) (omega arith),
)

distinct_tried : (tries n : ℕ) → n < 2 ^ 32 → tries + 1 < 2 ^ 32 → IsDistinct bytes_eq (tried tries n)
unfolding IsDistinct
distinct_tried zero n small few = IsDistinct-cons bytes_eq (drawn_mid n) [] tt tt
distinct_tried (suc tries) n small few =
    IsDistinct-cons bytes_eq (drawn_mid n) (tried tries (following n)) (none_again tries n (following n) 0 small (omega arith) (omega arith))
    (distinct_tried tries (following n) (omega arith) (omega arith))

flip : (a b : List ℕ) → bytes_eq a b ≡ true → bytes_eq b a ≡ true
flip a b e = (bytes_eq-Decides b a).1 (sym ((bytes_eq-Decides a b).0 e))

both_same : (x y : Bool) → (x ≡ true → y ≡ true) → (y ≡ true → x ≡ true) → x ≡ y
both_same true y f g = sym (f refl)
both_same false true f g = g refl
both_same false false f g = refl

bytes_symm : (a b : List ℕ) → bytes_eq a b ≡ bytes_eq b a
bytes_symm a b = both_same (bytes_eq a b) (bytes_eq b a) (flip a b) (flip b a)

bytes_laws : IsEquivalence bytes_eq
bytes_laws = record {
  refl = λ a. (bytes_eq-Decides a a).1 refl;
  symm = bytes_symm;
  congr = λ a b c e. ap (λ x. bytes_eq x c) ((bytes_eq-Decides a b).0 e);
}

member_among : (mids : List (List ℕ)) (mid : List ℕ) → is_member bytes_eq mids mid ≡ is_among mids mid
member_among [] mid = refl
member_among (first ∷ mids) mid = rw (bytes_symm mid first, member_among mids mid) refl

-- the mid that is found is free
free_mid_is_free : (held : List ℕ → Bool) (mids : List (List ℕ)) (n : ℕ) → ((mid : List ℕ) → held mid ≡ is_among mids mid)
    → n < 2 ^ 32 → length mids + 1 < 2 ^ 32 → held (free_mid held (length mids) n) ≡ false
free_mid_is_free held mids n same small few = false_from_ne_true (held (free_mid held (length mids) n)) (λ found.
    let most : length (tried (length mids) n) ≤ length mids =
    length-le_from_is_member bytes_laws (tried (length mids) n) mids (distinct_tried (length mids) n small few)
    (λ other among. member_among mids other ∙ sym (same other) ∙ all_held held (length mids) n found other among) in
    let count : length (tried (length mids) n) ≡ suc (length mids) = length-tried (length mids) n in
    omega arith)

-- the mids of rows and of staged lines
abbrev held_mids : List LineRow → List Change → List (List ℕ)
held_mids rows staged = map row_mid rows ++ added_mids staged

length-held_mids : (rows : List LineRow) (staged : List Change) → length (held_mids rows staged) ≡ length rows + length (added_mids staged)
length-held_mids rows staged = length-append (map row_mid rows) (added_mids staged) ∙ (rw (length-map rows row_mid) refl)

-- a test of what a list is mapped to
any_mapped : {A B : Type 0} (test : B → Bool) (f : A → B) (xs : List A) → list_any test (map f xs) ≡ list_any (λ x. test (f x)) xs
any_mapped test f [] = refl
any_mapped test f (x ∷ xs) = rw (any_mapped test f xs) refl

held_among : (rows : List LineRow) (staged : List Change) (mid : List ℕ) → is_held rows staged mid ≡ is_among (held_mids rows staged) mid
held_among rows staged mid =
    rw (list_any-append (λ other. bytes_eq other mid) (map row_mid rows) (added_mids staged), any_mapped (λ other. bytes_eq other mid) row_mid rows) refl

-- a mid that is drawn and counted on is that of no row and of no staged line
pub drawn_mid_is_free : (rows : List LineRow) (staged : List Change) (n : ℕ) → n < 2 ^ 32 → length rows + length (added_mids staged) + 1 < 2 ^ 32
    → is_held rows staged (free_mid (is_held rows staged) (length rows + length (added_mids staged)) n) ≡ false
drawn_mid_is_free rows staged n small few =
    let free : is_held rows staged (free_mid (is_held rows staged) (length (held_mids rows staged)) n) ≡ false =
    free_mid_is_free (is_held rows staged) (held_mids rows staged) n (held_among rows staged) small (omega (arith, length-held_mids rows staged)) in
    ap (λ (tries : ℕ). is_held rows staged (free_mid (is_held rows staged) tries n)) (sym (length-held_mids rows staged)) ∙ free

-- tests that agree find the same mid
pub free_mid-same : (held other : List ℕ → Bool) → ((mid : List ℕ) → held mid ≡ other mid) → (tries n : ℕ) → free_mid held tries n ≡ free_mid other tries n
unfolding free_mid
free_mid-same held other same zero n = refl
free_mid-same held other same (suc tries) n = rw (same (drawn_mid n), free_mid-same held other same tries (following n)) refl

-- one try of the search
pub free_mid-held : (held : List ℕ → Bool) (tries more n : ℕ) → tries ≡ suc more → held (drawn_mid n) ≡ true → free_mid held tries n ≡ free_mid held more ((n + 1) % 2 ^ 32)
free_mid-held held tries more n e taken = rw e (goes_on held more n taken)

pub free_mid-free : (held : List ℕ → Bool) (tries more n : ℕ) → tries ≡ suc more → held (drawn_mid n) ≡ false → free_mid held tries n ≡ drawn_mid n
free_mid-free held tries more n e free = rw e (stops held more n free)

pub free_mid-none : (held : List ℕ → Bool) (n : ℕ) → free_mid held 0 n ≡ drawn_mid n
free_mid-none held n = last_try held n
