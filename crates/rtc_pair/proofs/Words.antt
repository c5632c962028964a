-- One word asks for a run.
use Rattle.std.proofs.Common.{◌≡◌, zero, ℕ, Bool, List, [], ◌∷◌, map, get_or, codes, sym, ap, ◌∙◌, IsTrue}
use Rattle.rtc_pair.specs.Answers.{run_words}

pub asks : {A : Type 0} (f : A → List ℕ) (words rest : List A) (word : A) (eq : Bool) → words ≡ word ∷ rest → rest ≡ [] → (IsTrue eq → f word ≡ codes "run") × (f word ≡ codes "run" → IsTrue eq) → (IsTrue eq → map f words ≡ run_words) × (map f words ≡ run_words → IsTrue eq)
asks {A} f words rest word eq split none is =
    let all : map f words ≡ f word ∷ [] = ap (map f) (split ∙ ap (λ (r : List A). word ∷ r) none) in
    (λ holds. all ∙ ap (λ (b : List ℕ). b ∷ []) (is.0 holds), λ same. is.1 (ap (λ (xs : List (List ℕ)). get_or xs zero []) (sym all ∙ same)))
