-- Connections whose numbers rise.
use Rattle.std.proofs.Common.{◌≡◌, ◌≢◌, ℕ, zero, suc, ◌+◌, ◌<◌, ◌≤◌, ◌^◌, ◌==◌, ◌∙◌, Bool, true, false, List, [], ◌∷◌, length, map, get_or, set, Option, Some, None, refl, ap, sym, subst, cond, arith}
use Rattle.std.specs.Prelude.{slice_get, IsSomeAnd, nat_lt}
use Rattle.std.proofs.lemmas.Bool.Decides.{nat_tests}
use Rattle.std.specs.Str.{bytes_eq}
use Rattle.rtc_gate_calls.specs.Routing.{number_named}
use Rattle.rtc_gate_calls.specs.GateState.{ConnectionState, roster_of, connection_numbered}
use Rattle.rtc_gate_calls.specs.Gate.{AreNumbered}
use Rattle.rtc_gate_calls.specs.Delivering.{connection_changed_at, IsAt}

-- what an index reads
pub get_here : {A : Type 0} (xs : List A) (i : ℕ) (x : A) → i < length xs → x ≡ get_or xs i x → slice_get xs i ≡ Some x
get_here [] i x below is = absurd (omega arith)
get_here (a ∷ xs) zero x below is = ap Some (sym is)
get_here (a ∷ xs) (suc i) x below is = get_here xs i x (omega arith) is

pub got : {A : Type 0} (xs : List A) (i : ℕ) (x d : A) → slice_get xs i ≡ Some x → get_or xs i d ≡ x
got [] i x d is = absurd (cc)
got (a ∷ xs) zero x d is = cc
got (a ∷ xs) (suc i) x d is = got xs i x d is

pub numbered_from : (least least' high : ℕ) (cs : List ConnectionState) → least' ≤ least → AreNumbered least cs high → AreNumbered least' cs high
numbered_from least least' high [] less all = omega arith
numbered_from least least' high (c ∷ cs) less all = (omega (arith, all.0), all.1)

-- the one at a place has a number from the least one on
pub least_at : (least high : ℕ) (cs : List ConnectionState) (i : ℕ) (c : ConnectionState) → AreNumbered least cs high → slice_get cs i ≡ Some c → least ≤ c.number
least_at least high [] i c all is = absurd (cc)
least_at least high (d ∷ cs) zero c all is =
    let same : d ≡ c = cc in
    subst (λ (x : ConnectionState). least ≤ x.number) same all.0
least_at least high (d ∷ cs) (suc i) c all is =
    let after : d.number + 1 ≤ c.number = least_at (d.number + 1) high cs i c all.1 is in
    omega (arith, all.0)

-- numbers rise with places
pub numbers_rise : (least high : ℕ) (cs : List ConnectionState) (i j : ℕ) (c d : ConnectionState) → AreNumbered least cs high → slice_get cs i ≡ Some c → slice_get cs j ≡ Some d → i < j → c.number < d.number
numbers_rise least high [] i j c d all is is' less = absurd (cc)
numbers_rise least high (x ∷ cs) i zero c d all is is' less = absurd (omega arith)
numbers_rise least high (x ∷ cs) zero (suc j) c d all is is' less =
    let same : x ≡ c = cc in
    let after : x.number + 1 ≤ d.number = least_at (x.number + 1) high cs j d all.1 is' in
    let number : x.number ≡ c.number = ap (λ (y : ConnectionState). y.number) same in
    omega arith
numbers_rise least high (x ∷ cs) (suc i) (suc j) c d all is is' less = numbers_rise (x.number + 1) high cs i j c d all.1 is is' (omega arith)

-- a number that none has is not found
pub none_numbered : (cs : List ConnectionState) (number : ℕ) → ((i : ℕ) (c : ConnectionState) → slice_get cs i ≡ Some c → c.number ≢ number) → connection_numbered cs number ≡ None
none_numbered [] number apart = refl
none_numbered (c ∷ cs) number apart =
    let other : (c.number == number) ≡ false = let differ : c.number ≢ number = apart zero c refl in grind (arith, nat_tests) in
    let rest : connection_numbered cs number ≡ None = none_numbered cs number (λ i d is. apart (suc i) d is) in
    ap (λ (test : Bool). cond test (Some c) (connection_numbered cs number)) other ∙ rest

-- the one at a place is found by its number
pub numbered_at : (least high : ℕ) (cs : List ConnectionState) (i : ℕ) (c : ConnectionState) → AreNumbered least cs high → slice_get cs i ≡ Some c → connection_numbered cs c.number ≡ Some c
numbered_at least high [] i c all is = absurd (cc)
numbered_at least high (d ∷ cs) zero c all is =
    let same : d ≡ c = cc in
    let number : d.number ≡ c.number = ap (λ (x : ConnectionState). x.number) same in
    let test : (d.number == c.number) ≡ true = grind (arith, nat_tests) in
    ap (λ (b : Bool). cond b (Some d) (connection_numbered cs c.number)) test ∙ ap Some same
numbered_at least high (d ∷ cs) (suc i) c all is =
    let after : d.number + 1 ≤ c.number = least_at (d.number + 1) high cs i c all.1 is in
    let test : (d.number == c.number) ≡ false = grind (arith, nat_tests) in
    ap (λ (b : Bool). cond b (Some d) (connection_numbered cs c.number)) test ∙ numbered_at (d.number + 1) high cs i c all.1 is

changed_apart : (number : ℕ) (f : ConnectionState → ConnectionState) (least high : ℕ) (cs : List ConnectionState) → AreNumbered least cs high → number < least → map (connection_changed_at number f) cs ≡ cs
changed_apart number f least high [] all below = refl
changed_apart number f least high (c ∷ cs) all below =
    let first : least ≤ c.number = all.0 in
    let test : (number == c.number) ≡ false = grind (arith, nat_tests) in
    let rest : map (connection_changed_at number f) cs ≡ cs = changed_apart number f (c.number + 1) high cs all.1 (omega arith) in
    ap (λ (b : Bool). cond b (f c) c ∷ map (connection_changed_at number f) cs) test ∙ ap (λ (ds : List ConnectionState). c ∷ ds) rest

-- a write at a place is a change of the one with the number of what stands there
pub set_is_change : (f : ConnectionState → ConnectionState) (least high : ℕ) (cs : List ConnectionState) (i : ℕ) (c : ConnectionState) → AreNumbered least cs high → slice_get cs i ≡ Some c → set cs i (f c) ≡ map (connection_changed_at c.number f) cs
set_is_change f least high [] i c all is = absurd (cc)
set_is_change f least high (d ∷ cs) zero c all is =
    let same : d ≡ c = cc in
    let number : c.number ≡ d.number = ap (λ (x : ConnectionState). x.number) (sym same) in
    let test : (c.number == d.number) ≡ true = grind (arith, nat_tests) in
    let rest : map (connection_changed_at c.number f) cs ≡ cs = changed_apart c.number f (d.number + 1) high cs all.1 (omega arith) in
    let head : connection_changed_at c.number f d ≡ f c = ap (λ (b : Bool). cond b (f d) d) test ∙ ap f same in
    sym (ap (λ (x : ConnectionState). x ∷ map (connection_changed_at c.number f) cs) head ∙ ap (λ (ds : List ConnectionState). f c ∷ ds) rest)
set_is_change f least high (d ∷ cs) (suc i) c all is =
    let after : d.number + 1 ≤ c.number = least_at (d.number + 1) high cs i c all.1 is in
    let test : (c.number == d.number) ≡ false = grind (arith, nat_tests) in
    let rest : set cs i (f c) ≡ map (connection_changed_at c.number f) cs = set_is_change f (d.number + 1) high cs i c all.1 is in
    ap (λ (ds : List ConnectionState). d ∷ ds) rest ∙ ap (λ (b : Bool). cond b (f d) d ∷ map (connection_changed_at c.number f) cs) (sym test)

-- changes that keep numbers
pub numbered_map : (f : ConnectionState → ConnectionState) → ((c : ConnectionState) → (f c).number ≡ c.number) → (least high : ℕ) (cs : List ConnectionState) → AreNumbered least cs high → AreNumbered least (map f cs) high
numbered_map f keeps least high [] all = all
numbered_map f keeps least high (c ∷ cs) all =
    (subst (λ (n : ℕ). least ≤ n) (sym (keeps c)) all.0, subst (λ (n : ℕ). AreNumbered (n + 1) (map f cs) high) (sym (keeps c)) (numbered_map f keeps (c.number + 1) high cs all.1))

pub map_alike : {A B : Type 0} (f g : A → B) → ((x : A) → f x ≡ g x) → (xs : List A) → map f xs ≡ map g xs
map_alike f g alike [] = refl
map_alike {A} {B} f g alike (x ∷ xs) = ap (λ (y : B). y ∷ map f xs) (alike x) ∙ ap (λ (ys : List B). g x ∷ ys) (map_alike f g alike xs)

pub map_twice : {A B C : Type 0} (f : B → C) (g : A → B) (xs : List A) → map f (map g xs) ≡ map (λ x. f (g x)) xs
map_twice f g [] = refl
map_twice {A} {B} {C} f g (x ∷ xs) = ap (λ (ys : List C). f (g x) ∷ ys) (map_twice f g xs)

pub map_same : {A : Type 0} (f : A → A) → ((x : A) → f x ≡ x) → (xs : List A) → map f xs ≡ xs
map_same f same [] = refl
map_same {A} f same (x ∷ xs) = ap (λ (y : A). y ∷ map f xs) (same x) ∙ ap (λ (ys : List A). x ∷ ys) (map_same f same xs)

pub get_map : {A B : Type 0} (f : A → B) (xs : List A) (i : ℕ) (x : A) → slice_get xs i ≡ Some x → slice_get (map f xs) i ≡ Some (f x)
get_map f [] i x is = absurd (cc)
get_map f (a ∷ xs) zero x is = let same : a ≡ x = cc in ap (λ y. Some (f y)) same
get_map f (a ∷ xs) (suc i) x is = get_map f xs i x is

-- two ways to change each, alike at the one with a number and at all others
pub changes_alike : (f g : ConnectionState → ConnectionState) (number : ℕ) (c : ConnectionState) (least high : ℕ) (cs : List ConnectionState) (i : ℕ) → AreNumbered least cs high → slice_get cs i ≡ Some c → c.number ≡ number → f c ≡ g c → ((d : ConnectionState) → d.number ≢ number → f d ≡ g d) → map f cs ≡ map g cs
changes_alike f g number c least high [] i all is its here apart = refl
changes_alike f g number c least high (d ∷ cs) zero all is its here apart =
    let same : d ≡ c = cc in
    let head : f d ≡ g d = subst (λ (x : ConnectionState). f x ≡ g x) (sym same) here in
    let first : d.number ≡ number = ap (λ (x : ConnectionState). x.number) same ∙ its in
    ap (λ (x : ConnectionState). x ∷ map f cs) head ∙ ap (λ (ds : List ConnectionState). g d ∷ ds) (others (d.number + 1) cs all.1 (omega arith))
  where
    others : (low : ℕ) (ds : List ConnectionState) → AreNumbered low ds high → number < low → map f ds ≡ map g ds
    others low [] rise below = refl
    others low (e ∷ ds) rise below =
        let differ : e.number ≢ number = let from : low ≤ e.number = rise.0 in omega arith in
        ap (λ (x : ConnectionState). x ∷ map f ds) (apart e differ) ∙ ap (λ (es : List ConnectionState). g e ∷ es) (others (e.number + 1) ds rise.1 (let from : low ≤ e.number = rise.0 in omega arith))
changes_alike f g number c least high (d ∷ cs) (suc i) all is its here apart =
    let after : d.number + 1 ≤ c.number = least_at (d.number + 1) high cs i c all.1 is in
    let differ : d.number ≢ number = omega arith in
    ap (λ (x : ConnectionState). x ∷ map f cs) (apart d differ) ∙ ap (λ (ds : List ConnectionState). g d ∷ ds) (changes_alike f g number c (d.number + 1) high cs i all.1 is its here apart)

-- up to a place whose number is smaller all are
pub smaller_before : (high : ℕ) (cs : List ConnectionState) (m number : ℕ) (x : ConnectionState) → AreNumbered 0 cs high → slice_get cs m ≡ Some x → x.number < number → (i : ℕ) (c : ConnectionState) → i < m + 1 → slice_get cs i ≡ Some c → c.number < number
smaller_before high cs m number x all is less i c below there = go (i == m) refl
  where
    go : (test : Bool) → (i == m) ≡ test → c.number < number
    go true same =
        let at : i ≡ m = grind (arith, nat_tests) in
        let found : slice_get cs m ≡ Some c = subst (λ (k : ℕ). slice_get cs k ≡ Some c) at there in
        let one : x ≡ c = cc in
        subst (λ (y : ConnectionState). y.number < number) one less
    go false apart =
        let before : i < m = grind (arith, nat_tests) in
        let rise : c.number < x.number = numbers_rise 0 high cs i m c x all there is before in
        omega arith

-- from a place on whose number is greater all are
pub greater_behind : (high : ℕ) (cs : List ConnectionState) (m number : ℕ) (x : ConnectionState) → AreNumbered 0 cs high → slice_get cs m ≡ Some x → number < x.number → (i : ℕ) (c : ConnectionState) → m ≤ i → slice_get cs i ≡ Some c → number < c.number
greater_behind high cs m number x all is less i c below there = go (i == m) refl
  where
    go : (test : Bool) → (i == m) ≡ test → number < c.number
    go true same =
        let at : i ≡ m = grind (arith, nat_tests) in
        let found : slice_get cs m ≡ Some c = subst (λ (k : ℕ). slice_get cs k ≡ Some c) at there in
        let one : x ≡ c = cc in
        subst (λ (y : ConnectionState). number < y.number) one less
    go false apart =
        let after : m < i = grind (arith, nat_tests) in
        let rise : x.number < c.number = numbers_rise 0 high cs m i x c all is there after in
        omega arith

-- where the ranges meet, nobody has the number
pub nobody_between : (cs : List ConnectionState) (low high number : ℕ) → high ≤ low → ((i : ℕ) (c : ConnectionState) → i < low → slice_get cs i ≡ Some c → c.number < number) → ((i : ℕ) (c : ConnectionState) → high ≤ i → slice_get cs i ≡ Some c → number < c.number) → connection_numbered cs number ≡ None
nobody_between cs low high number meet below above = none_numbered cs number (λ i c is. go i c is (nat_lt i low) refl)
  where
    go : (i : ℕ) (c : ConnectionState) → slice_get cs i ≡ Some c → (test : Bool) → nat_lt i low ≡ test → c.number ≢ number
    go i c is true less = let h : c.number < number = below i c (grind (arith, nat_tests)) is in omega arith
    go i c is false more = let h : number < c.number = above i c (grind (arith, nat_tests)) is in omega arith

-- the one that has a name is here
pub named_is_here : (cs : List ConnectionState) (name : List ℕ) (number : ℕ) → number_named (roster_of cs) name ≡ Some number → connection_numbered cs number ≡ None → ⊥
named_is_here [] name number named none = absurd (cc)
named_is_here (c ∷ cs) name number named none = go (bytes_eq c.name name) refl (c.number == number) refl (named_is_here cs name number)
  where
    go : (test : Bool) → bytes_eq c.name name ≡ test → (its : Bool) → (c.number == number) ≡ its → (number_named (roster_of cs) name ≡ Some number → connection_numbered cs number ≡ None → ⊥) → ⊥
    go test is true same later = let e : Some c ≡ None = subst (λ (b : Bool). cond b (Some c) (connection_numbered cs number) ≡ None) same none in absurd (cc)
    go true is false differ later =
        let e : Some c.number ≡ Some number = subst (λ (b : Bool). cond b (Some c.number) (number_named (roster_of cs) name) ≡ Some number) is named in
        let same : c.number ≡ number = cc in
        absurd (let t : (c.number == number) ≡ true = grind (arith, nat_tests) in cc)
    go false is false differ later =
        later (subst (λ (b : Bool). cond b (Some c.number) (number_named (roster_of cs) name) ≡ Some number) is named) (subst (λ (b : Bool). cond b (Some c) (connection_numbered cs number) ≡ None) differ none)

-- a place where one stands is within
pub place_within : (cs : List ConnectionState) (place : ℕ) (P : ConnectionState → Type 0) → IsSomeAnd (slice_get cs place) P → place < length cs
place_within [] place P has = absurd has
place_within (c ∷ cs) zero P has = omega arith
place_within (c ∷ cs) (suc place) P has = let rest : place < length cs = place_within cs place P has in omega arith

-- a write where one stands is a change of the one with its number
pub write_at : (f : ConnectionState → ConnectionState) (cs : List ConnectionState) (place number : ℕ) (x new : ConnectionState) → IsAt cs place number → new ≡ f (get_or cs place x) → set cs place new ≡ map (connection_changed_at number f) cs
write_at f cs place number x new at made = go (slice_get cs place) refl at.there
  where
    go : (o : Option ConnectionState) → slice_get cs place ≡ o → IsSomeAnd o (λ c. c.number ≡ number) → set cs place new ≡ map (connection_changed_at number f) cs
    go None is has = absurd has
    go (Some c) is has =
        ap (set cs place) (made ∙ ap f (got cs place c x is))
        ∙ set_is_change f 0 (2 ^ 32) cs place c at.numbered is
        ∙ ap (λ (n : ℕ). map (connection_changed_at n f) cs) has
