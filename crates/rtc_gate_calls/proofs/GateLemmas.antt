-- What the fields of a gate keep through its calls.
use Rattle.std.proofs.Common.{◌≡◌, ℕ, zero, suc, ◌+◌, ◌<◌, ◌≤◌, ◌==◌, ◌∙◌, Bool, true, false, List, [], ◌∷◌, ◌++◌, length, map, take, drop, Option, Some, None, refl, ap, sym, subst, cond, arith}
use Rattle.std.specs.Prelude.{slice_get, IsSomeAnd, filter, not}
use Rattle.std.specs.List.{remove}
use Rattle.std.specs.Str.{bytes_eq}
use Rattle.std.specs.Ordering.{nat_cmp, is_eq}
use Rattle.std.specs.Cmp.Lexicographic.{slice_cmp}
use Rattle.std.specs.BTreeMap.{BTreeMap, get}
use Rattle.std.proofs.lemmas.Map.Text.{is_eq-slice_cmp}
use Rattle.std.proofs.lemmas.Bool.Decides.{nat_tests}
use Rattle.std.proofs.lemmas.List.{take_at}
use Rattle.std.proofs.lemmas.Slice.Eq.{bytes_eq-Decides}
use Rattle.rtc_gate_calls.specs.Routing.{number_named}
use Rattle.rtc_gate_calls.specs.GateState.{ConnectionState, roster_entry, roster_of, connection_numbered, without_first}
use Rattle.rtc_gate_calls.specs.Gate.{AreNumbered, HaveOwnNames, IsIndex, IsKept}
use Rattle.rtc_gate_calls.specs.Delivering.{connection_changed_at}
use Rattle.rtc_gate_calls.proofs.ConnectionLemmas.{numbered_from, least_at, numbered_at, numbered_map, map_alike, map_twice}
use Rattle.rtc_gate_calls.proofs.FeedLemmas.{standing}

pub numbered_below : (least joined most : ℕ) (cs : List ConnectionState) → joined ≤ most → AreNumbered least cs joined → AreNumbered least cs most
numbered_below least joined most [] less all = omega (arith, all)
numbered_below least joined most (c ∷ cs) less all = (all.0, numbered_below (c.number + 1) joined most cs less all.1)

-- one without the first frame of its queue
abbrev pub queue_left : ConnectionState → ConnectionState
queue_left c = record c { queue = drop 1 c.queue }

left_alike : (number : ℕ) (c : ConnectionState) (test : Bool) → (number == c.number) ≡ test → connection_changed_at number queue_left c ≡ without_first number c
left_alike number c true is = rw is refl
left_alike number c false is = rw is refl

pub left_is : (number : ℕ) (cs : List ConnectionState) → map (connection_changed_at number queue_left) cs ≡ map (without_first number) cs
left_is number cs = map_alike (connection_changed_at number queue_left) (without_first number) (λ c. left_alike number c (number == c.number) refl) cs

-- where nobody has the number, nothing changes
pub nobody_left : (number : ℕ) (cs : List ConnectionState) → connection_numbered cs number ≡ None → map (without_first number) cs ≡ cs
nobody_left number [] none = refl
nobody_left number (c ∷ cs) none = go (c.number == number) refl (nobody_left number cs)
  where
    go : (test : Bool) → (c.number == number) ≡ test → (connection_numbered cs number ≡ None → map (without_first number) cs ≡ cs) → map (without_first number) (c ∷ cs) ≡ c ∷ cs
    go true is rest = absurd (let e : Some c ≡ None = subst (λ (b : Bool). cond b (Some c) (connection_numbered cs number) ≡ None) is none in cc)
    go false is rest =
        let other : (number == c.number) ≡ false = grind (arith, nat_tests) in
        let none' : connection_numbered cs number ≡ None = subst (λ (b : Bool). cond b (Some c) (connection_numbered cs number) ≡ None) is none in
        let head : without_first number c ≡ c = ap (λ (b : Bool). let d : ConnectionState = record c { queue = cond b (drop 1 c.queue) c.queue } in d) other in
        ap (λ (d : ConnectionState). d ∷ map (without_first number) cs) head ∙ ap (λ (ds : List ConnectionState). c ∷ ds) (rest none')

pub nobody_filtered : (number : ℕ) (cs : List ConnectionState) → connection_numbered cs number ≡ None → filter (λ c. not (c.number == number)) cs ≡ cs
nobody_filtered number [] none = refl
nobody_filtered number (c ∷ cs) none = go (c.number == number) refl (nobody_filtered number cs)
  where
    go : (test : Bool) → (c.number == number) ≡ test → (connection_numbered cs number ≡ None → filter (λ c. not (c.number == number)) cs ≡ cs) → filter (λ c. not (c.number == number)) (c ∷ cs) ≡ c ∷ cs
    go true is rest = absurd (let e : Some c ≡ None = subst (λ (b : Bool). cond b (Some c) (connection_numbered cs number) ≡ None) is none in cc)
    go false is rest =
        let none' : connection_numbered cs number ≡ None = subst (λ (b : Bool). cond b (Some c) (connection_numbered cs number) ≡ None) is none in
        ap (λ (b : Bool). cond (not b) (c ∷ filter (λ c. not (c.number == number)) cs) (filter (λ c. not (c.number == number)) cs)) is ∙ ap (λ (ds : List ConnectionState). c ∷ ds) (rest none')

-- those behind have greater numbers
all_stay : (number least high : ℕ) (cs : List ConnectionState) → AreNumbered least cs high → number < least → filter (λ c. not (c.number == number)) cs ≡ cs
all_stay number least high [] all below = refl
all_stay number least high (c ∷ cs) all below =
    let from : least ≤ c.number = all.0 in
    let test : (c.number == number) ≡ false = grind (arith, nat_tests) in
    ap (λ (b : Bool). cond (not b) (c ∷ filter (λ c. not (c.number == number)) cs) (filter (λ c. not (c.number == number)) cs)) test
    ∙ ap (λ (ds : List ConnectionState). c ∷ ds) (all_stay number (c.number + 1) high cs all.1 (omega arith))

-- one that is removed is filtered out
pub removed_is : (number least high : ℕ) (cs : List ConnectionState) (i : ℕ) (c : ConnectionState) → AreNumbered least cs high → slice_get cs i ≡ Some c → c.number ≡ number → remove cs i ≡ filter (λ c. not (c.number == number)) cs
removed_is number least high [] i c all is its = absurd (cc)
removed_is number least high (d ∷ cs) zero c all is its =
    let same : d.number ≡ number = let e : d ≡ c = cc in ap (λ (x : ConnectionState). x.number) e ∙ its in
    let test : (d.number == number) ≡ true = grind (arith, nat_tests) in
    sym (ap (λ (b : Bool). cond (not b) (d ∷ filter (λ c. not (c.number == number)) cs) (filter (λ c. not (c.number == number)) cs)) test ∙ all_stay number (d.number + 1) high cs all.1 (omega arith))
removed_is number least high (d ∷ cs) (suc i) c all is its =
    let after : d.number + 1 ≤ c.number = least_at (d.number + 1) high cs i c all.1 is in
    let test : (d.number == number) ≡ false = grind (arith, nat_tests) in
    ap (λ (ds : List ConnectionState). d ∷ ds) (removed_is number (d.number + 1) high cs i c all.1 is its)
    ∙ sym (ap (λ (b : Bool). cond (not b) (d ∷ filter (λ c. not (c.number == number)) cs) (filter (λ c. not (c.number == number)) cs)) test)

-- the same roster keeps what is kept
pub kept_roster : (joined : ℕ) (names : _) (cs cs' : List ConnectionState) → roster_of cs' ≡ roster_of cs → AreNumbered 0 cs' joined → IsKept joined names cs → IsKept joined names cs'
kept_roster joined names cs cs' same numbered kept = record {
  numbered = numbered;
  few = kept.few;
  apart = subst HaveOwnNames (sym same) kept.apart;
  index = subst (λ (r : List (ℕ × List ℕ)). IsIndex names r) (sym same) kept.index;
}

pub kept_without : (joined : ℕ) (names : _) (number : ℕ) (cs : List ConnectionState) → IsKept joined names cs → IsKept joined names (map (without_first number) cs)
kept_without joined names number cs kept =
    kept_roster joined names cs (map (without_first number) cs) (map_twice roster_entry (without_first number) cs ∙ map_alike (λ c. roster_entry (without_first number c)) roster_entry (λ c. refl) cs) (numbered_map (without_first number) (λ c. refl) 0 joined cs kept.numbered) kept

-- the one that stands at a place is found by its number
pub found_at : (cs : List ConnectionState) (place number high : ℕ) → AreNumbered 0 cs high → IsSomeAnd (slice_get cs place) (λ d. d.number ≡ number) → (c : ConnectionState) × (slice_get cs place ≡ Some c) × (connection_numbered cs number ≡ Some c) × (c.number ≡ number)
found_at cs place number high numbered has =
    let s = standing cs place (λ d. d.number ≡ number) has in
    (s.0, s.1, subst (λ (n : ℕ). connection_numbered cs n ≡ Some s.0) s.2 (numbered_at 0 high cs place s.0 numbered s.1), s.2)

pub one_found : (cs : List ConnectionState) (number : ℕ) (c d : ConnectionState) → connection_numbered cs number ≡ Some c → connection_numbered cs number ≡ Some d → c ≡ d
one_found cs number c d is is' = cc

-- a slice of a vector that is written back
pub back_whole : {A : Type 0} (n : ℕ) (new items : List A) → length new ≡ length items → length items ≡ n → take n (new ++ drop (length new) items) ≡ new
back_whole n new items same count = take_at new (drop (length new) items) n (same ∙ count)

-- a roster without those that do not pass lacks what it lacked
none_named : (p : ConnectionState → Bool) (cs : List ConnectionState) (name : List ℕ) → number_named (roster_of cs) name ≡ None → number_named (roster_of (filter p cs)) name ≡ None
none_named p [] name none = none
none_named p (c ∷ cs) name none = go (bytes_eq c.name name) refl (p c) refl (none_named p cs name)
  where
    go : (its : Bool) → bytes_eq c.name name ≡ its → (test : Bool) → p c ≡ test → (number_named (roster_of cs) name ≡ None → number_named (roster_of (filter p cs)) name ≡ None) → number_named (roster_of (filter p (c ∷ cs))) name ≡ None
    go true is test passed rest = absurd (let e : Some c.number ≡ None = subst (λ (b : Bool). cond b (Some c.number) (number_named (roster_of cs) name) ≡ None) is none in cc)
    go false is true passed rest =
        let none' : number_named (roster_of cs) name ≡ None = subst (λ (b : Bool). cond b (Some c.number) (number_named (roster_of cs) name) ≡ None) is none in
        ap (λ (b : Bool). number_named (roster_of (cond b (c ∷ filter p cs) (filter p cs))) name) passed ∙ ap (λ (b : Bool). cond b (Some c.number) (number_named (roster_of (filter p cs)) name)) is ∙ rest none'
    go false is false passed rest =
        let none' : number_named (roster_of cs) name ≡ None = subst (λ (b : Bool). cond b (Some c.number) (number_named (roster_of cs) name) ≡ None) is none in
        ap (λ (b : Bool). number_named (roster_of (cond b (c ∷ filter p cs) (filter p cs))) name) passed ∙ rest none'

apart_filter : (p : ConnectionState → Bool) (cs : List ConnectionState) → HaveOwnNames (roster_of cs) → HaveOwnNames (roster_of (filter p cs))
apart_filter p [] apart = tt
apart_filter p (c ∷ cs) apart = go (p c) refl (apart_filter p cs apart.1)
  where
    go : (test : Bool) → p c ≡ test → HaveOwnNames (roster_of (filter p cs)) → HaveOwnNames (roster_of (filter p (c ∷ cs)))
    go true passed rest = subst (λ (b : Bool). HaveOwnNames (roster_of (cond b (c ∷ filter p cs) (filter p cs)))) (sym passed) (none_named p cs c.name apart.0, rest)
    go false passed rest = subst (λ (b : Bool). HaveOwnNames (roster_of (cond b (c ∷ filter p cs) (filter p cs)))) (sym passed) rest

pub numbered_filter : (p : ConnectionState → Bool) (least high : ℕ) (cs : List ConnectionState) → AreNumbered least cs high → AreNumbered least (filter p cs) high
numbered_filter p least high [] all = all
numbered_filter p least high (c ∷ cs) all = go (p c) refl (numbered_filter p (c.number + 1) high cs all.1)
  where
    go : (test : Bool) → p c ≡ test → AreNumbered (c.number + 1) (filter p cs) high → AreNumbered least (filter p (c ∷ cs)) high
    go true passed rest = subst (λ (b : Bool). AreNumbered least (cond b (c ∷ filter p cs) (filter p cs)) high) (sym passed) (all.0, rest)
    go false passed rest = subst (λ (b : Bool). AreNumbered least (cond b (c ∷ filter p cs) (filter p cs)) high) (sym passed) (numbered_from (c.number + 1) least high (filter p cs) (let from : least ≤ c.number = all.0 in omega arith) rest)

-- who is here is named
here_named : (cs : List ConnectionState) (number : ℕ) (c : ConnectionState) → connection_numbered cs number ≡ Some c → number_named (roster_of cs) c.name ≡ None → ⊥
here_named [] number c is none = absurd (cc)
here_named (d ∷ cs) number c is none = go (d.number == number) refl (bytes_eq d.name c.name) refl (here_named cs number c)
  where
    go : (test : Bool) → (d.number == number) ≡ test → (its : Bool) → bytes_eq d.name c.name ≡ its → (connection_numbered cs number ≡ Some c → number_named (roster_of cs) c.name ≡ None → ⊥) → ⊥
    go test its true same rest = let e : Some d.number ≡ None = subst (λ (b : Bool). cond b (Some d.number) (number_named (roster_of cs) c.name) ≡ None) same none in absurd (cc)
    go true its false differ rest =
        let e : Some d ≡ Some c = subst (λ (b : Bool). cond b (Some d) (connection_numbered cs number) ≡ Some c) its is in
        let one : d ≡ c = cc in
        let t : bytes_eq d.name c.name ≡ true = (bytes_eq-Decides d.name c.name).1 (ap (λ (x : ConnectionState). x.name) one) in
        absurd (cc)
    go false its false differ rest =
        rest (subst (λ (b : Bool). cond b (Some d) (connection_numbered cs number) ≡ Some c) its is) (subst (λ (b : Bool). cond b (Some d.number) (number_named (roster_of cs) c.name) ≡ None) differ none)

-- the names without that of the one that leaves
named_without : (cs : List ConnectionState) (number least high : ℕ) (c : ConnectionState) (q : List ℕ) → AreNumbered least cs high → HaveOwnNames (roster_of cs) → connection_numbered cs number ≡ Some c → cond (bytes_eq c.name q) None (number_named (roster_of cs) q) ≡ number_named (roster_of (filter (λ d. not (d.number == number)) cs)) q
named_without [] number least high c q numbered apart is = absurd (cc)
named_without (d ∷ cs) number least high c q numbered apart is = go (d.number == number) refl (bytes_eq d.name q) refl (named_without cs number (d.number + 1) high c q numbered.1 apart.1)
  where
    others : List ConnectionState
    others = filter (λ d. not (d.number == number)) cs

    go : (test : Bool) → (d.number == number) ≡ test → (its : Bool) → bytes_eq d.name q ≡ its → (connection_numbered cs number ≡ Some c → cond (bytes_eq c.name q) None (number_named (roster_of cs) q) ≡ number_named (roster_of (filter (λ d. not (d.number == number)) cs)) q) → cond (bytes_eq c.name q) None (number_named (roster_of (d ∷ cs)) q) ≡ number_named (roster_of (filter (λ d. not (d.number == number)) (d ∷ cs))) q
    go true at its name rest =
        let number_is : d.number ≡ number = grind (arith, nat_tests) in
        let stay : filter (λ d. not (d.number == number)) cs ≡ cs = all_stay number (d.number + 1) high cs numbered.1 (omega arith) in
        let e : Some d ≡ Some c = subst (λ (b : Bool). cond b (Some d) (connection_numbered cs number) ≡ Some c) at is in
        let one : c ≡ d = let f : d ≡ c = cc in sym f in
        let left : filter (λ d. not (d.number == number)) (d ∷ cs) ≡ cs = ap (λ (b : Bool). cond (not b) (d ∷ filter (λ d. not (d.number == number)) cs) (filter (λ d. not (d.number == number)) cs)) at ∙ stay in
        ap (λ (x : ConnectionState). cond (bytes_eq x.name q) None (number_named (roster_of (d ∷ cs)) q)) one
        ∙ gone its name
        ∙ ap (λ (ds : List ConnectionState). number_named (roster_of ds) q) (sym left)
      where
        gone : (its : Bool) → bytes_eq d.name q ≡ its → cond (bytes_eq d.name q) None (cond (bytes_eq d.name q) (Some d.number) (number_named (roster_of cs) q)) ≡ number_named (roster_of cs) q
        gone true name =
            let same : d.name ≡ q = (bytes_eq-Decides d.name q).0 name in
            ap (λ (b : Bool). cond b None (cond b (Some d.number) (number_named (roster_of cs) q))) name ∙ sym (subst (λ (n : List ℕ). number_named (roster_of cs) n ≡ None) same apart.0)
        gone false name = ap (λ (b : Bool). cond b None (cond b (Some d.number) (number_named (roster_of cs) q))) name
    go false at true name rest =
        let later : connection_numbered cs number ≡ Some c = subst (λ (b : Bool). cond b (Some d) (connection_numbered cs number) ≡ Some c) at is in
        let same : d.name ≡ q = (bytes_eq-Decides d.name q).0 name in
        let left : number_named (roster_of (filter (λ d. not (d.number == number)) (d ∷ cs))) q ≡ Some d.number =
        ap (λ (b : Bool). number_named (roster_of (cond (not b) (d ∷ filter (λ d. not (d.number == number)) cs) (filter (λ d. not (d.number == number)) cs))) q) at
        ∙ ap (λ (b : Bool). cond b (Some d.number) (number_named (roster_of (filter (λ d. not (d.number == number)) cs)) q)) name in
        ap (λ (b : Bool). cond (bytes_eq c.name q) None (cond b (Some d.number) (number_named (roster_of cs) q))) name ∙ other later same (bytes_eq c.name q) refl ∙ sym left
      where
        other : connection_numbered cs number ≡ Some c → d.name ≡ q → (test : Bool) → bytes_eq c.name q ≡ test → cond test None (Some d.number) ≡ Some d.number
        other later same true is = absurd (here_named cs number c later (subst (λ (n : List ℕ). number_named (roster_of cs) n ≡ None) (same ∙ sym ((bytes_eq-Decides c.name q).0 is)) apart.0))
        other later same false is = refl
    go false at false name rest =
        let later : connection_numbered cs number ≡ Some c = subst (λ (b : Bool). cond b (Some d) (connection_numbered cs number) ≡ Some c) at is in
        ap (λ (b : Bool). cond (bytes_eq c.name q) None (cond b (Some d.number) (number_named (roster_of cs) q))) name
        ∙ rest later
        ∙ sym (ap (λ (b : Bool). number_named (roster_of (cond (not b) (d ∷ filter (λ d. not (d.number == number)) cs) (filter (λ d. not (d.number == number)) cs))) q) at
        ∙ ap (λ (b : Bool). cond b (Some d.number) (number_named (roster_of (filter (λ d. not (d.number == number)) cs)) q)) name)

-- what a gate keeps when one leaves
pub kept_leave : (joined : ℕ) (names names' : BTreeMap (List ℕ) ℕ) (number : ℕ) (cs : List ConnectionState) (c : ConnectionState) (name : List ℕ) → IsKept joined names cs → connection_numbered cs number ≡ Some c → c.name ≡ name → ((q : List ℕ) → get (slice_cmp nat_cmp) names' q ≡ cond (is_eq (slice_cmp nat_cmp name q)) None (get (slice_cmp nat_cmp) names q)) → IsKept joined names' (filter (λ d. not (d.number == number)) cs)
kept_leave joined names names' number cs c name kept is its updates = record {
  numbered = numbered_filter (λ d. not (d.number == number)) 0 joined cs kept.numbered;
  few = kept.few;
  apart = apart_filter (λ d. not (d.number == number)) cs kept.apart;
  index = λ q. updates q
      ∙ ap (λ (n : List ℕ). cond (is_eq (slice_cmp nat_cmp n q)) None (get (slice_cmp nat_cmp) names q)) (sym its)
      ∙ ap (λ (b : Bool). cond b None (get (slice_cmp nat_cmp) names q)) (is_eq-slice_cmp c.name q)
      ∙ ap (λ (o : Option ℕ). cond (bytes_eq c.name q) None o) (kept.index q)
      ∙ named_without cs number 0 joined c q kept.numbered kept.apart is;
}
