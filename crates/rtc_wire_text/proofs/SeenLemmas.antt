-- A set beside a list in which nothing stands twice: it has what the list has.
use Rattle.std.proofs.Common.{◌≡◌, ℕ, Bool, true, false, not, cond, ◌||◌, List, [], ◌∷◌, refl, sym, ap, ◌∙◌, inl, inr}
use Rattle.std.specs.Str.{bytes_eq}
use Rattle.std.specs.Ordering.{nat_cmp}
use Rattle.std.specs.Cmp.Lexicographic.{slice_cmp}
use Rattle.std.specs.BTreeSet as set
use Rattle.std.specs.BTreeSet.{BTreeSet}
use Rattle.std.specs.BTreeMap.{is_at}
use Rattle.std.proofs.lemmas.List.Folds.{list_any-append}
use Rattle.std.proofs.lemmas.Map.Text.{is_eq-slice_cmp}
use Rattle.rtc_wire_text.proofs.OnceLemmas.{among, grown, bytes_tell, is_grown}

-- the set has what the list has
abbrev pub IsSeen : BTreeSet (List ℕ) → List (List ℕ) → Type 0
IsSeen seen once = (q : List ℕ) → set.contains (slice_cmp nat_cmp) seen q ≡ among bytes_eq q once

-- what an insertion says of the set behind it
abbrev pub Inserted : BTreeSet (List ℕ) → BTreeSet (List ℕ) → List ℕ → Type 0
Inserted seen now x = (q : List ℕ) → set.contains (slice_cmp nat_cmp) now q ≡ cond (is_at (slice_cmp nat_cmp x) q) true (set.contains (slice_cmp nat_cmp) seen q)

inserted : (seen now : BTreeSet (List ℕ)) (x : List ℕ) (once : List (List ℕ)) → Inserted seen now x → IsSeen seen once → (q : List ℕ) → set.contains (slice_cmp nat_cmp) now q ≡ cond (bytes_eq x q) true (among bytes_eq q once)
inserted seen now x once h k q = h q ∙ ap (λ (b : Bool). cond b true (set.contains (slice_cmp nat_cmp) seen q)) (is_eq-slice_cmp x q) ∙ ap (cond (bytes_eq x q) true) (k q)

among_grown : (x q : List ℕ) (once : List (List ℕ)) (t : Bool) → among bytes_eq x once ≡ t → cond (bytes_eq x q) true (among bytes_eq q once) ≡ among bytes_eq q (grown t once x)
among_grown x q once true e = elim (bytes_tell x q) [
  | inl (same, is) ↦ rw same (sym e ∙ ap (λ (y : List ℕ). among bytes_eq y once) is)
  | inr (other, _) ↦ rw other refl
]
among_grown x q once false e = elim (bytes_tell x q) [
  | inl (same, is) ↦ rw (same, list_any-append (λ y. bytes_eq y q) once (x ∷ []), same) (last (among bytes_eq q once))
  | inr (other, _) ↦ rw (other, list_any-append (λ y. bytes_eq y q) once (x ∷ []), other) (none (among bytes_eq q once))
]
  where
    last : (b : Bool) → true ≡ (b || (true || false))
    last true = refl
    last false = refl

    none : (b : Bool) → b ≡ (b || (false || false))
    none true = refl
    none false = refl

pub seen_grown : (seen now : BTreeSet (List ℕ)) (x : List ℕ) (once : List (List ℕ)) → Inserted seen now x → IsSeen seen once → IsSeen now (grown (among bytes_eq x once) once x)
seen_grown seen now x once h k q = inserted seen now x once h k q ∙ among_grown x q once (among bytes_eq x once) refl

opposite : (a b : Bool) → a ≡ not b → b ≡ not a
opposite a true h = sym (ap not h)
opposite a false h = sym (ap not h)

-- the list grew where the insertion was of something new
pub grew : (seen : BTreeSet (List ℕ)) (x : List ℕ) (once next : List (List ℕ)) (added : Bool) → added ≡ not (set.contains (slice_cmp nat_cmp) seen x) → IsSeen seen once → next ≡ grown (not added) once x → next ≡ grown (among bytes_eq x once) once x
grew seen x once next added h k e = is_grown bytes_eq (not added) once next x (sym (k x) ∙ opposite added (set.contains (slice_cmp nat_cmp) seen x) h) e
