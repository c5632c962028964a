-- Which connections are found by number and name, as connections come, go and change.
use Rattle.std.proofs.Common.{◌≡◌, ℕ, ◌+◌, ◌<◌, ◌≤◌, ◌==◌, ◌∙◌, Bool, true, false, List, [], ◌∷◌, ◌++◌, map, Option, Some, None, refl, ap, sym, subst, cond, arith}
use Rattle.std.specs.Prelude.{filter, not}
use Rattle.std.specs.Str.{bytes_eq}
use Rattle.std.proofs.lemmas.Bool.Decides.{nat_tests}
use Rattle.rtc_gate_calls.specs.Routing.{number_named}
use Rattle.rtc_gate_calls.specs.GateState.{ConnectionState, roster_of, connection_numbered}
use Rattle.rtc_gate_calls.specs.Gate.{AreNumbered}
use Rattle.rtc_gate_calls.specs.History.{name_numbered}

-- the one that is found has the number
pub number_is : (cs : List ConnectionState) (n : ℕ) (c : ConnectionState) → connection_numbered cs n ≡ Some c → c.number ≡ n
number_is [] n c is = absurd (cc)
number_is (d ∷ cs) n c is = go (d.number == n) refl (number_is cs n c)
  where
    go : (its : Bool) → (d.number == n) ≡ its → (connection_numbered cs n ≡ Some c → c.number ≡ n) → c.number ≡ n
    go true at rest =
        let e : Some d ≡ Some c = subst (λ (b : Bool). cond b (Some d) (connection_numbered cs n) ≡ Some c) at is in
        let one : d ≡ c = cc in
        let same : d.number ≡ n = grind (arith, nat_tests) in
        sym (ap (λ (x : ConnectionState). x.number) one) ∙ same
    go false at rest = rest (subst (λ (b : Bool). cond b (Some d) (connection_numbered cs n) ≡ Some c) at is)

-- and its name stands in the roster
pub name_is : (cs : List ConnectionState) (n : ℕ) (c : ConnectionState) → connection_numbered cs n ≡ Some c → name_numbered n (roster_of cs) ≡ c.name
name_is [] n c is = absurd (cc)
name_is (d ∷ cs) n c is = go (d.number == n) refl (name_is cs n c)
  where
    go : (its : Bool) → (d.number == n) ≡ its → (connection_numbered cs n ≡ Some c → name_numbered n (roster_of cs) ≡ c.name) → name_numbered n (roster_of (d ∷ cs)) ≡ c.name
    go true at rest =
        let e : Some d ≡ Some c = subst (λ (b : Bool). cond b (Some d) (connection_numbered cs n) ≡ Some c) at is in
        let one : d ≡ c = cc in
        ap (λ (b : Bool). cond b d.name (name_numbered n (roster_of cs))) at ∙ ap (λ (x : ConnectionState). x.name) one
    go false at rest =
        ap (λ (b : Bool). cond b d.name (name_numbered n (roster_of cs))) at ∙ rest (subst (λ (b : Bool). cond b (Some d) (connection_numbered cs n) ≡ Some c) at is)

spans : (least high : ℕ) (cs : List ConnectionState) → AreNumbered least cs high → least ≤ high
spans least high [] all = all
spans least high (c ∷ cs) all =
    let rest : c.number + 1 ≤ high = spans (c.number + 1) high cs all.1 in
    omega (arith, all.0)

-- numbers are below that of the next connection
pub is_below : (least high : ℕ) (cs : List ConnectionState) (n : ℕ) (c : ConnectionState) → AreNumbered least cs high → connection_numbered cs n ≡ Some c → n < high
is_below least high [] n c all is = absurd (cc)
is_below least high (d ∷ cs) n c all is = go (d.number == n) refl (is_below (d.number + 1) high cs n c all.1)
  where
    go : (its : Bool) → (d.number == n) ≡ its → (connection_numbered cs n ≡ Some c → n < high) → n < high
    go true at rest =
        let same : d.number ≡ n = grind (arith, nat_tests) in
        let next : d.number + 1 ≤ high = spans (d.number + 1) high cs all.1 in
        omega arith
    go false at rest = rest (subst (λ (b : Bool). cond b (Some d) (connection_numbered cs n) ≡ Some c) at is)

pub named_below : (least high : ℕ) (cs : List ConnectionState) (name : List ℕ) (k : ℕ) → AreNumbered least cs high → number_named (roster_of cs) name ≡ Some k → k < high
named_below least high [] name k all is = absurd (cc)
named_below least high (d ∷ cs) name k all is = go (bytes_eq d.name name) refl (named_below (d.number + 1) high cs name k all.1)
  where
    go : (its : Bool) → bytes_eq d.name name ≡ its → (number_named (roster_of cs) name ≡ Some k → k < high) → k < high
    go true at rest =
        let e : Some d.number ≡ Some k = subst (λ (b : Bool). cond b (Some d.number) (number_named (roster_of cs) name) ≡ Some k) at is in
        let same : d.number ≡ k = cc in
        let next : d.number + 1 ≤ high = spans (d.number + 1) high cs all.1 in
        omega arith
    go false at rest = rest (subst (λ (b : Bool). cond b (Some d.number) (number_named (roster_of cs) name) ≡ Some k) at is)

-- one is found among those with one more: it was there, or it is that one
pub push_found : (P : Type 0) (cs : List ConnectionState) (d : ConnectionState) (n : ℕ) (c : ConnectionState) → connection_numbered (cs ++ d ∷ []) n ≡ Some c → (connection_numbered cs n ≡ Some c → P) → (d ≡ c → d.number ≡ n → P) → P
push_found P [] d n c is old new = go (d.number == n) refl
  where
    go : (its : Bool) → (d.number == n) ≡ its → P
    go true at =
        let e : Some d ≡ Some c = subst (λ (b : Bool). cond b (Some d) None ≡ Some c) at is in
        let one : d ≡ c = cc in
        new one (grind (arith, nat_tests))
    go false at = absurd (let e : None ≡ Some c = subst (λ (b : Bool). cond b (Some d) None ≡ Some c) at is in cc)
push_found P (x ∷ cs) d n c is old new = go (x.number == n) refl (push_found P cs d n c)
  where
    go : (its : Bool) → (x.number == n) ≡ its → (connection_numbered (cs ++ d ∷ []) n ≡ Some c → (connection_numbered cs n ≡ Some c → P) → (d ≡ c → d.number ≡ n → P) → P) → P
    go true at rest =
        old (ap (λ (b : Bool). cond b (Some x) (connection_numbered cs n)) at ∙ sym (ap (λ (b : Bool). cond b (Some x) (connection_numbered (cs ++ d ∷ []) n)) at) ∙ is)
    go false at rest =
        rest (subst (λ (b : Bool). cond b (Some x) (connection_numbered (cs ++ d ∷ []) n) ≡ Some c) at is) (λ was. old (ap (λ (b : Bool). cond b (Some x) (connection_numbered cs n)) at ∙ was)) new

-- nobody has the number of one that left
gone : (cs : List ConnectionState) (m : ℕ) → connection_numbered (filter (λ d. not (d.number == m)) cs) m ≡ None
gone [] m = refl
gone (d ∷ cs) m = go (d.number == m) refl (gone cs m)
  where
    others : List ConnectionState
    others = filter (λ d. not (d.number == m)) cs

    go : (its : Bool) → (d.number == m) ≡ its → connection_numbered (filter (λ d. not (d.number == m)) cs) m ≡ None → connection_numbered (filter (λ d. not (d.number == m)) (d ∷ cs)) m ≡ None
    go true at rest = ap (λ (b : Bool). connection_numbered (cond (not b) (d ∷ filter (λ d. not (d.number == m)) cs) (filter (λ d. not (d.number == m)) cs)) m) at ∙ rest
    go false at rest =
        ap (λ (b : Bool). connection_numbered (cond (not b) (d ∷ filter (λ d. not (d.number == m)) cs) (filter (λ d. not (d.number == m)) cs)) m) at
        ∙ ap (λ (b : Bool). cond b (Some d) (connection_numbered (filter (λ d. not (d.number == m)) cs) m)) at
        ∙ rest

-- one is found among those that stay: it was there
pub filter_found : (cs : List ConnectionState) (m n : ℕ) (c : ConnectionState) → connection_numbered (filter (λ d. not (d.number == m)) cs) n ≡ Some c → connection_numbered cs n ≡ Some c
filter_found [] m n c is = is
filter_found (d ∷ cs) m n c is = go (d.number == m) refl (d.number == n) refl (filter_found cs m n c)
  where
    go : (out : Bool) → (d.number == m) ≡ out → (its : Bool) → (d.number == n) ≡ its → (connection_numbered (filter (λ d. not (d.number == m)) cs) n ≡ Some c → connection_numbered cs n ≡ Some c) → connection_numbered (d ∷ cs) n ≡ Some c
    go true at true here rest =
        let same : n ≡ m = grind (arith, nat_tests) in
        let left : connection_numbered (filter (λ d. not (d.number == m)) cs) n ≡ Some c = subst (λ (b : Bool). connection_numbered (cond (not b) (d ∷ filter (λ d. not (d.number == m)) cs) (filter (λ d. not (d.number == m)) cs)) n ≡ Some c) at is in
        absurd (let e : None ≡ Some c = sym (gone cs m) ∙ subst (λ (k : ℕ). connection_numbered (filter (λ d. not (d.number == m)) cs) k ≡ Some c) same left in cc)
    go true at false apart rest =
        let left : connection_numbered (filter (λ d. not (d.number == m)) cs) n ≡ Some c = subst (λ (b : Bool). connection_numbered (cond (not b) (d ∷ filter (λ d. not (d.number == m)) cs) (filter (λ d. not (d.number == m)) cs)) n ≡ Some c) at is in
        ap (λ (b : Bool). cond b (Some d) (connection_numbered cs n)) apart ∙ rest left
    go false at true here rest =
        let left : connection_numbered (d ∷ filter (λ d. not (d.number == m)) cs) n ≡ Some c = subst (λ (b : Bool). connection_numbered (cond (not b) (d ∷ filter (λ d. not (d.number == m)) cs) (filter (λ d. not (d.number == m)) cs)) n ≡ Some c) at is in
        ap (λ (b : Bool). cond b (Some d) (connection_numbered cs n)) here ∙ sym (ap (λ (b : Bool). cond b (Some d) (connection_numbered (filter (λ d. not (d.number == m)) cs) n)) here) ∙ left
    go false at false apart rest =
        let left : connection_numbered (d ∷ filter (λ d. not (d.number == m)) cs) n ≡ Some c = subst (λ (b : Bool). connection_numbered (cond (not b) (d ∷ filter (λ d. not (d.number == m)) cs) (filter (λ d. not (d.number == m)) cs)) n ≡ Some c) at is in
        ap (λ (b : Bool). cond b (Some d) (connection_numbered cs n)) apart ∙ rest (sym (ap (λ (b : Bool). cond b (Some d) (connection_numbered (filter (λ d. not (d.number == m)) cs) n)) apart) ∙ left)

-- a change of the one that is found, if any
abbrev pub changed_by : (ConnectionState → ConnectionState) → Option ConnectionState → Option ConnectionState
changed_by f None = None
changed_by f (Some c) = Some (f c)

pub map_numbered : (f : ConnectionState → ConnectionState) → ((c : ConnectionState) → (f c).number ≡ c.number) → (cs : List ConnectionState) (n : ℕ) → connection_numbered (map f cs) n ≡ changed_by f (connection_numbered cs n)
map_numbered f keeps [] n = refl
map_numbered f keeps (d ∷ cs) n =
    ap (λ (k : ℕ). cond (k == n) (Some (f d)) (connection_numbered (map f cs) n)) (keeps d) ∙ go (d.number == n) (map_numbered f keeps cs n)
  where
    go : (its : Bool) → connection_numbered (map f cs) n ≡ changed_by f (connection_numbered cs n) → cond its (Some (f d)) (connection_numbered (map f cs) n) ≡ changed_by f (cond its (Some d) (connection_numbered cs n))
    go true rest = refl
    go false rest = rest

-- one is found among those that were changed: it is the change of one that was there
pub map_found : (f : ConnectionState → ConnectionState) → ((c : ConnectionState) → (f c).number ≡ c.number) → (cs : List ConnectionState) (n : ℕ) (c : ConnectionState) → connection_numbered (map f cs) n ≡ Some c → (d : ConnectionState) × (connection_numbered cs n ≡ Some d) × (f d ≡ c)
map_found f keeps cs n c is = go (connection_numbered cs n) refl (sym (map_numbered f keeps cs n) ∙ is)
  where
    go : (o : Option ConnectionState) → connection_numbered cs n ≡ o → changed_by f (connection_numbered cs n) ≡ Some c → (d : ConnectionState) × (connection_numbered cs n ≡ Some d) × (f d ≡ c)
    go None at made = absurd (let e : None ≡ Some c = subst (λ (o : Option ConnectionState). changed_by f o ≡ Some c) at made in cc)
    go (Some d) at made = (d, at, let e : Some (f d) ≡ Some c = subst (λ (o : Option ConnectionState). changed_by f o ≡ Some c) at made in cc)
