-- Three words that ask for a demo.
use Rattle.std.proofs.Common.{◌≡◌, ◌≤◌, ◌<◌, ◌^◌, ℕ, List, [], ◌∷◌, length, map, get_or, codes, Option, Some, None, refl, ap, sym, ◌∙◌, arith}
use Rattle.std.specs.Prelude.{IfSome}
use Rattle.std.specs.Fmt.{decimal}
use Rattle.rtc_demo.specs.DemoWords.{AreDemoWords}

-- a list of three, by its places
three : {A : Type 0} (xs : List A) (a b c : A) → 3 ≤ length xs → length xs < 4 → a ≡ get_or xs 0 a → b ≡ get_or xs 1 b → c ≡ get_or xs 2 c → xs ≡ a ∷ b ∷ c ∷ []
three [] a b c least most first second third = absurd (omega (arith, least))
three (x ∷ []) a b c least most first second third = absurd (omega (arith, least))
three (x ∷ y ∷ []) a b c least most first second third = absurd (omega (arith, least))
three (x ∷ y ∷ z ∷ []) a b c least most first second third = rw (first, second, third) refl
three (x ∷ y ∷ z ∷ w ∷ xs) a b c least most first second third = absurd (omega (arith, most))

-- the numbers of the second and the third word
pub asks_for_demo : {A : Type 0} (f : A → List ℕ) (words : List A) (word first second : A) (rounds seed : List ℕ) (result : Option (ℕ × ℕ)) → 3 ≤ length words → length words < 4
    → word ≡ get_or words 0 word → first ≡ get_or words 1 first → second ≡ get_or words 2 second → f word ≡ codes "demo" → rounds ≡ f first → seed ≡ f second
    → IfSome result (λ asked. (rounds ≡ decimal asked.0) × (1 ≤ asked.0) × (asked.0 ≤ 100) × (seed ≡ decimal asked.1) × (asked.1 < 2 ^ 32)) → IfSome result (λ asked. AreDemoWords (map f words) asked.0 asked.1)
asks_for_demo f words word first second rounds seed None least most one two three_is verb rounds_is seed_is some = tt
asks_for_demo {A} f words word first second rounds seed (Some asked) least most one two three_is verb rounds_is seed_is some =
    let all : map f words ≡ f word ∷ f first ∷ f second ∷ [] = ap (map f) (three words word first second least most one two three_is) in
    let numbers : f word ∷ f first ∷ f second ∷ [] ≡ codes "demo" ∷ decimal asked.0 ∷ decimal asked.1 ∷ [] =
    ap (λ (text : List ℕ). text ∷ f first ∷ f second ∷ []) verb ∙ ap (λ (text : List ℕ). codes "demo" ∷ text ∷ f second ∷ []) (sym rounds_is ∙ some.0)
    ∙ ap (λ (text : List ℕ). codes "demo" ∷ decimal asked.0 ∷ text ∷ []) (sym seed_is ∙ some.3) in
    record { are = all ∙ numbers; some = some.1; few = some.2; small = some.4 }
