-- Ops of six parts.
use Rattle.std.proofs.Common.{◌≡◌, ◌∙◌, ◌≤◌, ◌<◌, ℕ, List, [], ◌∷◌, length, map, get_or, Option, Result, IfOk, IfNone, refl, subst, arith}
use Rattle.std.specs.declared.alloc.AllocError.{AllocError}
use Rattle.rtc_run_history.specs.declared.op.Op.{Op}
use Rattle.rtc_script.specs.Lines.{AreOpParts}

-- the texts of six items, by their places
abbrev at_places : {A : Type 0} → (A → List ℕ) → List A → A → List (List ℕ)
at_places text parts none =
    text (get_or parts 0 none) ∷ text (get_or parts 1 none) ∷ text (get_or parts 2 none) ∷ text (get_or parts 3 none)
    ∷ text (get_or parts 4 none) ∷ text (get_or parts 5 none) ∷ []

six : {A : Type 0} (text : A → List ℕ) (parts : List A) (none : A) → 6 ≤ length parts → length parts < 7
    → at_places text parts none ≡ map text parts
six text [] none least most = absurd (omega (arith, least))
six text (s ∷ []) none least most = absurd (omega (arith, least))
six text (s ∷ t ∷ []) none least most = absurd (omega (arith, least))
six text (s ∷ t ∷ u ∷ []) none least most = absurd (omega (arith, least))
six text (s ∷ t ∷ u ∷ v ∷ []) none least most = absurd (omega (arith, least))
six text (s ∷ t ∷ u ∷ v ∷ w ∷ []) none least most = absurd (omega (arith, least))
six text (s ∷ t ∷ u ∷ v ∷ w ∷ x ∷ []) none least most = refl
six text (s ∷ t ∷ u ∷ v ∷ w ∷ x ∷ y ∷ parts) none least most = absurd (omega (arith, most))

-- what six parts are not is what their texts are not
pub no_six : {A : Type 0} (text : A → List ℕ) (parts : List A) (none : A) (found : List (List ℕ)) (result : Result (Option Op) AllocError)
    → 6 ≤ length parts → length parts < 7 → map text parts ≡ found
    → IfOk result (λ read. IfNone read ((op : Op) → AreOpParts (at_places text parts none) op → ⊥))
    → IfOk result (λ read. IfNone read ((op : Op) → AreOpParts found op → ⊥))
no_six text parts none found result least most is other =
    subst (λ (found : List (List ℕ)). IfOk result (λ read. IfNone read ((op : Op) → AreOpParts found op → ⊥)))
    (six text parts none least most ∙ is) other
