-- What parts of a text lack that the text lacks.
use Rattle.std.proofs.Common.{◌≡◌, ◌-◌, ℕ, zero, suc, Bool, true, false, cond, eqb, List, [], ◌∷◌, length, take, Option, Some, None, inl, inr}
use Rattle.std.specs.Prelude.{option_map, slice_index}
use Rattle.std.specs.List.{AllByRecursion, onto_first}
use Rattle.std.specs.Str.Lines.{strip_carriage_return, lines_of_parts}
use Rattle.std.proofs.lemmas.Bool.Decides.{eqb_tells}
use Rattle.rtc_wire_text.specs.Cuts.{cut, Lacks}
use Rattle.rtc_wire_text.specs.Lines.{lines}
use Rattle.rtc_wire_text.specs.Words.{parts}

-- what the halves of a text lack that is cut at a byte
pub record Halves (at : ℕ) (text front behind : List ℕ) : Type 0 where
  pub own : Lacks at front
  pub fronts : (byte : ℕ) → Lacks byte text → Lacks byte front
  pub behinds : (byte : ℕ) → Lacks byte text → Lacks byte behind

abbrev pub CutLacks : ℕ → List ℕ → Option (List ℕ × List ℕ) → Type 0
CutLacks at text None = Lacks at text
CutLacks at text (Some halves) = Halves at text halves.0 halves.1

cut_on : (at x : ℕ) (xs : List ℕ) → eqb x at ≡ false → (found : Option (List ℕ × List ℕ)) → CutLacks at xs found
    → CutLacks at (x ∷ xs) (option_map (λ p. (x ∷ p.0, p.1)) found)
cut_on at x xs f None h = (f, h)
cut_on at x xs f (Some halves) h = record {
  own = (f, h.own);
  fronts = λ byte lacks. (lacks.0, h.fronts byte lacks.1);
  behinds = λ byte lacks. h.behinds byte lacks.1;
}

pub cut_lacks : (at : ℕ) (text : List ℕ) → CutLacks at text (cut at text)
cut_lacks at [] = tt
cut_lacks at (x ∷ xs) = elim (eqb_tells x at) [
  | inl (t, e) ↦ rw t (record { own = tt; fronts = λ byte lacks. tt; behinds = λ byte lacks. lacks.1 })
  | inr (f, _) ↦ rw f (cut_on at x xs f (cut at xs) (cut_lacks at xs))
]

-- ---- parts
onto_lacks : (byte x : ℕ) → eqb x byte ≡ false → (ws : List (List ℕ)) → AllByRecursion (λ w. Lacks byte w) ws
    → AllByRecursion (λ w. Lacks byte w) (onto_first x ws)
onto_lacks byte x f [] h = ((f, tt), tt)
onto_lacks byte x f (w ∷ ws) h = ((f, h.0), h.1)

-- each part lacks what the text lacks
pub parts_keep : (at byte : ℕ) (text : List ℕ) → Lacks byte text → AllByRecursion (λ w. Lacks byte w) (parts at text)
parts_keep at byte [] h = (tt, tt)
parts_keep at byte (x ∷ xs) h = elim (eqb_tells x at) [
  | inl (t, e) ↦ rw t (tt, parts_keep at byte xs h.1)
  | inr (f, _) ↦ rw f (onto_lacks byte x h.0 (parts at xs) (parts_keep at byte xs h.1))
]

-- each part lacks the byte that parts them
pub parts_lack : (at : ℕ) (text : List ℕ) → AllByRecursion (λ w. Lacks at w) (parts at text)
parts_lack at [] = (tt, tt)
parts_lack at (x ∷ xs) = elim (eqb_tells x at) [
  | inl (t, e) ↦ rw t (tt, parts_lack at xs)
  | inr (f, _) ↦ rw f (onto_lacks at x f (parts at xs) (parts_lack at xs))
]

pub both_all : {A : Type 0} (P Q : A → Type 0) (xs : List A) → AllByRecursion P xs → AllByRecursion Q xs → AllByRecursion (λ x. P x × Q x) xs
both_all P Q [] p q = tt
both_all P Q (x ∷ xs) p q = ((p.0, q.0), both_all P Q xs p.1 q.1)

abbrev pub IsFilled : {A : Type 0} → List A → Type 0
IsFilled [] = ⊥
IsFilled (x ∷ xs) = Unit {0}

onto_filled : (x : ℕ) (ws : List (List ℕ)) → IsFilled (onto_first x ws)
onto_filled x [] = tt
onto_filled x (w ∷ ws) = tt

-- there is a part
pub parts_filled : (at : ℕ) (text : List ℕ) → IsFilled (parts at text)
parts_filled at [] = tt
parts_filled at (x ∷ xs) = elim (eqb_tells x at) [
  | inl (t, e) ↦ rw t tt
  | inr (f, _) ↦ rw f (onto_filled x (parts at xs))
]

-- ---- lines
take_lacks : (byte n : ℕ) (text : List ℕ) → Lacks byte text → Lacks byte (take n text)
take_lacks byte zero text h = tt
take_lacks byte (suc n) [] h = tt
take_lacks byte (suc n) (x ∷ xs) h = (h.0, take_lacks byte n xs h.1)

stripped_lacks : (text : List ℕ) → Lacks 10 text → Lacks 10 (strip_carriage_return text)
stripped_lacks text h = by (eqb (slice_index text (length text - 1)) 13)
  where
    by : (b : Bool) → Lacks 10 (cond b (take (length text - 1) text) text)
    by true = take_lacks 10 (length text - 1) text h
    by false = h

last_lacks : (text : List ℕ) → Lacks 10 text → AllByRecursion (λ w. Lacks 10 w) (lines_of_parts (text ∷ []))
last_lacks text h = by (eqb (length text) 0)
  where
    by : (b : Bool) → AllByRecursion (λ w. Lacks 10 w) (cond b [] (text ∷ []))
    by true = tt
    by false = (h, tt)

of_parts_lack : (ws : List (List ℕ)) → AllByRecursion (λ w. Lacks 10 w) ws → AllByRecursion (λ w. Lacks 10 w) (lines_of_parts ws)
of_parts_lack [] h = tt
of_parts_lack (w ∷ []) h = last_lacks w h.0
of_parts_lack (w ∷ v ∷ more) h = (stripped_lacks w h.0, of_parts_lack (v ∷ more) h.1)

-- no line has a line feed
pub lines_lack : (text : List ℕ) → AllByRecursion (λ line. Lacks 10 line) (lines text)
lines_lack text = of_parts_lack (parts 10 text) (parts_lack 10 text)
