-- Steps of a list that all are of a kind: those before the last, and the last.
use Rattle.std.proofs.Common.{◌≡◌, ◌&&◌, ◌++◌, ◌∷◌, Bool, true, false, true≢false, List, [], refl, sym}
use Rattle.rtc_run_history.specs.declared.step.Step.{Step}
use Rattle.rtc_run_history.specs.Native.{is_native, are_native}
use Rattle.rtc_run_history.specs.Past.{Entry, steps_of}

and_both : (a b : Bool) → (a && b) ≡ true → (a ≡ true) × (b ≡ true)
and_both true b h = (refl, h)
and_both false b h = absurd (true≢false (sym h))

both_and : (a b : Bool) → a ≡ true → b ≡ true → (a && b) ≡ true
both_and true b h k = k
both_and false b h k = absurd (true≢false (sym h))

native_last : (steps : List Step) (last : Step) → are_native (steps ++ last ∷ []) ≡ true → (are_native steps ≡ true) × (is_native last ≡ true)
native_last [] last h = (refl, (and_both (is_native last) true h).0)
native_last (step ∷ steps) last h =
    let first = and_both (is_native step) (are_native (steps ++ last ∷ [])) h in
    let rest = native_last steps last first.1 in
    (both_and (is_native step) (are_native steps) first.0 rest.0, rest.1)

pub native_entry : {E : Type 0} → (entry : Entry E) (past : List (Entry E)) → are_native (steps_of (entry ∷ past)) ≡ true
    → (are_native (steps_of past) ≡ true) × (is_native entry.step ≡ true)
native_entry entry past h = native_last (steps_of past) entry.step h
