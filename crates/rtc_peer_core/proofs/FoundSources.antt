-- The draw of a source finds an unused number wherever there is one.
use Rattle.std.proofs.Common.{◌≡◌, ◌+◌, ◌-◌, ◌%◌, ◌<◌, ◌^◌, ◌||◌, zero, suc, ℕ, Bool, true, false, cond, List, refl, sym, ap, ◌∙◌, arith}
use Rattle.rtc_parts.specs.Draws.{Draws}
use Rattle.rtc_peer_core.specs.Sources.{is_number, unused, next_source}

-- the search comes to each number within its tries
search_finds : (used : ℕ → Bool) (first tries n d : ℕ) → n < 2 ^ 32 → d < tries → used ((n + d) % 2 ^ 32) ≡ false
    → used (unused used first tries n) ≡ false
unfolding unused
search_finds used first zero n d small below free = absurd (omega (arith, below))
search_finds used first (suc tries) n d small below free =
    by (used n) refl d below free (λ e less there. search_finds used first tries ((n + 1) % 2 ^ 32) e (omega arith) less there)
  where
    by : (taken : Bool) → used n ≡ taken → (e : ℕ) → e < suc tries → used ((n + e) % 2 ^ 32) ≡ false
        → ((rest : ℕ) → rest < tries → used (((n + 1) % 2 ^ 32 + rest) % 2 ^ 32) ≡ false
        → used (unused used first tries ((n + 1) % 2 ^ 32)) ≡ false)
        → used (cond (used n) (unused used first tries ((n + 1) % 2 ^ 32)) n) ≡ false
    by false is e less there behind = rw is is
    by true is zero less there behind =
        let same : (n + 0) % 2 ^ 32 ≡ n = omega (arith, small) in
        absurd (let bad : true ≡ false = sym is ∙ ap used (sym same) ∙ there in cc)
    by true is (suc e) less there behind =
        let same : ((n + 1) % 2 ^ 32 + e) % 2 ^ 32 ≡ (n + suc e) % 2 ^ 32 = omega arith in
        rw is (behind e (omega (arith, less)) (ap used same ∙ there))

-- The source of a draw is unused, where any number is.
pub draw_finds : {N : Type 0} (draws : Draws N) (used : ℕ → Bool) (earlier : List ℕ) (ids : N) (k : ℕ) → k < 2 ^ 32
    → (used k || is_number k earlier) ≡ false
    → (used (next_source draws used earlier ids) || is_number (next_source draws used earlier ids) earlier) ≡ false
draw_finds draws used earlier ids k small free =
    let n : ℕ = draws.drawn ids % 2 ^ 32 in
    let d : ℕ = (k + (2 ^ 32 - n)) % 2 ^ 32 in
    let within : n < 2 ^ 32 = omega arith in
    let there : (n + d) % 2 ^ 32 ≡ k = omega (arith, small, within) in
    let taken : ℕ → Bool = λ (m : ℕ). used m || is_number m earlier in
    search_finds taken n (2 ^ 32) n d within (omega arith) (ap taken there ∙ free)
