-- The first member that an input is for.
use Rattle.std.proofs.Common.{◌≡◌, ◌∙◌, ◌+◌, ◌≤◌, ◌<◌, if◌then◌else◌, ℕ, zero, suc, Bool, true, false, List, [], ◌∷◌, length, drop, get_or, Option, Some, None, refl, sym, ap, arith}
use Rattle.rtc_peer_transport.specs.declared.input.Input.{Input}
use Rattle.rtc_run.specs.ProgramPair.{PlainPairState}
use Rattle.rtc_room_laws.specs.Accepting.{accepts, first_accepting}
use Rattle.rtc_room_laws.specs.Members.{MemberState}

drop_suc : {A : Type 0} (xs : List A) (i : ℕ) (x : A) → i < length xs → x ≡ get_or xs i x → drop i xs ≡ x ∷ drop (suc i) xs
drop_suc [] i x inside is = absurd (omega (arith, inside))
drop_suc (y ∷ xs) zero x inside is = ap (λ z. z ∷ xs) (sym is)
drop_suc (y ∷ xs) (suc i) x inside is = drop_suc xs i x (omega (arith, inside)) is

drop_at : {A : Type 0} (xs : List A) (i : ℕ) (x : A) → i < length xs → x ≡ get_or xs i x → drop i xs ≡ x ∷ drop (i + 1) xs
drop_at xs i x inside is = drop_suc xs i x inside is ∙ ap (λ (n : ℕ). x ∷ drop n xs) (let next : suc i ≡ i + 1 = omega arith in next)

drop_past : {A : Type 0} (xs : List A) (i : ℕ) → length xs ≤ i → drop i xs ≡ []
drop_past [] zero h = refl
drop_past [] (suc i) h = refl
drop_past (x ∷ xs) zero h = absurd (omega (arith, h))
drop_past (x ∷ xs) (suc i) h = drop_past xs i (omega (arith, h))

module _ (input : Input) (members : List MemberState) (pairs : List PlainPairState) where
  -- from a place on
  abbrev pub from_place : ℕ → Option ℕ
  from_place k = first_accepting k input (drop k members) (drop k pairs)

  opened : (k : ℕ) (member : MemberState) (pair : PlainPairState) → k < length members → k < length pairs → member ≡ get_or members k member
      → pair ≡ get_or pairs k pair → from_place k ≡ (if accepts input member pair then Some k else from_place (k + 1))
  opened k member pair inside within is is' =
      ap (λ (l : List MemberState). first_accepting k input l (drop k pairs)) (drop_at members k member inside is)
      ∙ ap (λ (l : List PlainPairState). first_accepting k input (member ∷ drop (k + 1) members) l) (drop_at pairs k pair within is')

  -- it is for this one
  pub found_here : (k : ℕ) (member : MemberState) (pair : PlainPairState) (fits : Bool) → k < length members → k < length pairs → member ≡ get_or members k member
      → pair ≡ get_or pairs k pair → fits ≡ accepts input member pair → fits ≡ true → from_place k ≡ Some k
  found_here k member pair fits inside within is is' fits_is holds =
      opened k member pair inside within is is' ∙ ap (λ (b : Bool). if b then Some k else from_place (k + 1)) (sym fits_is ∙ holds)

  -- it is not, and one of the others is the first
  pub found_on : (k : ℕ) (member : MemberState) (pair : PlainPairState) (fits : Bool) → k < length members → k < length pairs → member ≡ get_or members k member
      → pair ≡ get_or pairs k pair → fits ≡ accepts input member pair → fits ≡ false → from_place k ≡ from_place (k + 1)
  found_on k member pair fits inside within is is' fits_is no_one =
      opened k member pair inside within is is' ∙ ap (λ (b : Bool). if b then Some k else from_place (k + 1)) (sym fits_is ∙ no_one)

  -- it is for nobody
  pub found_none : (k : ℕ) → length members ≤ k → from_place k ≡ None
  found_none k past = ap (λ (l : List MemberState). first_accepting k input l (drop k pairs)) (drop_past members k past)
