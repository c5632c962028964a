-- The calls that fail in a row.
use Rattle.std.proofs.Common.{
  ℕ,
  ◌≡◌,
  ◌+◌,
  ◌-◌,
  ◌^◌,
  ◌&&◌,
  ◌≤◌,
  ◌<◌,
  inl,
  inr,
  suc,
  min,
  Bool,
  true,
  false,
  List,
  refl,
  sym,
  ap,
  ◌∙◌,
  arith,
}
use Rattle.std.specs.Prelude.{nat_le, if◌then◌else◌}
use Rattle.std.proofs.lemmas.Bool.Decides.{leb_tells}
use Rattle.rtc_faulty.specs.Numbering.{Numbering, lists_number, is_failing, call_failed, row_of_listed, faults_ahead}

row_more : (left number : ℕ) (failing : List ℕ) → lists_number number failing ≡ true
    → row_of_listed (suc left) number failing ≡ suc (row_of_listed left (number + 1) failing)
unfolding row_of_listed
row_more left number failing h = ap (λ (t : Bool). if t then suc (row_of_listed left (number + 1) failing) else 0) h

row_end : (left number : ℕ) (failing : List ℕ) → lists_number number failing ≡ false → row_of_listed (suc left) number failing ≡ 0
unfolding row_of_listed
row_end left number failing h = ap (λ (t : Bool). if t then suc (row_of_listed left (number + 1) failing) else 0) h

row_none : (number : ℕ) (failing : List ℕ) → row_of_listed 0 number failing ≡ 0
unfolding row_of_listed
row_none number failing = refl

-- both of two tests hold; the second does not, if the first does and not both
second_holds : (a b : Bool) → a && b ≡ true → b ≡ true
second_holds true b h = h
second_holds false b h = absurd (let x : false ≡ true = h in cc)

second_fails : (a b : Bool) → a ≡ true → a && b ≡ false → b ≡ false
second_fails true b e h = h
second_fails false b e h = absurd (let x : false ≡ true = e in cc)

first_holds : (a b : Bool) → a && b ≡ true → a ≡ true
first_holds true b h = refl
first_holds false b h = h

in_row : (used next left : ℕ) (failing : List ℕ) → lists_number used failing ≡ true → next ≡ used + 1 → 2 ^ 64 - used ≡ suc left
    → 2 ^ 64 - next ≡ left → row_of_listed (2 ^ 64 - used) used failing ≡ suc (row_of_listed (2 ^ 64 - next) next failing)
in_row used next left failing h n l m =
    ap (λ (x : ℕ). row_of_listed x used failing) l
    ∙ row_more left used failing h
    ∙ ap (λ (x : ℕ). suc (row_of_listed left x failing)) (sym n)
    ∙ ap (λ (x : ℕ). suc (row_of_listed x next failing)) (sym m)

-- the row is one longer before a call that fails, and there is none before one that does not
pub ahead_fails : (n : Numbering) → is_failing n ≡ true → faults_ahead n ≡ suc (faults_ahead (call_failed n))
ahead_fails n h = elim (leb_tells n.used (2 ^ 64 - 1)) [
  | inl t ↦ in_row n.used (min (n.used + 1) (2 ^ 64)) (2 ^ 64 - (n.used + 1)) n.failing
      (second_holds (nat_le n.used (2 ^ 64 - 1)) (lists_number n.used n.failing) h)
      (let low : n.used ≤ 2 ^ 64 - 1 = t.1 in omega arith)
      (let low : n.used ≤ 2 ^ 64 - 1 = t.1 in omega arith)
      (let low : n.used ≤ 2 ^ 64 - 1 = t.1 in omega arith)
  | inr t ↦ absurd (let x : false ≡ true = sym t.0 ∙ first_holds (nat_le n.used (2 ^ 64 - 1)) (lists_number n.used n.failing) h in cc)
]

pub ahead_ends : (n : Numbering) → is_failing n ≡ false → faults_ahead n ≡ 0
ahead_ends n h = elim (leb_tells n.used (2 ^ 64 - 1)) [
  | inl t ↦
      let left : 2 ^ 64 - n.used ≡ suc (2 ^ 64 - (n.used + 1)) = (let low : n.used ≤ 2 ^ 64 - 1 = t.1 in omega arith) in
      ap (λ (x : ℕ). row_of_listed x n.used n.failing) left
      ∙ row_end (2 ^ 64 - (n.used + 1)) n.used n.failing
      (second_fails (nat_le n.used (2 ^ 64 - 1)) (lists_number n.used n.failing) t.0 h)
  | inr t ↦
      let left : 2 ^ 64 - n.used ≡ 0 = (let high : 2 ^ 64 - 1 < n.used = t.1 in omega arith) in
      ap (λ (x : ℕ). row_of_listed x n.used n.failing) left ∙ row_none n.used n.failing
]

-- if no fault is ahead, the next call does not fail
pub fails_none : (b : Bool) (n : Numbering) → is_failing n ≡ b → faults_ahead n ≡ 0 → b ≡ false
fails_none true n e h = absurd (let more : faults_ahead n ≡ suc (faults_ahead (call_failed n)) = ahead_fails n e in
    let none : suc (faults_ahead (call_failed n)) ≡ 0 = sym more ∙ h in cc)
fails_none false n e h = refl
