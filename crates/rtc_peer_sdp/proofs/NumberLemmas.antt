-- Sets of numbers of sources.
use Rattle.std.proofs.Common.{◌≡◌, ◌∙◌, ◌==◌, ◌||◌, ◌++◌, ℕ, Bool, true, false, cond, List, [], ◌∷◌, refl, sym, ap, arith}
use Rattle.std.specs.Ordering.{nat_cmp}
use Rattle.std.specs.BTreeMap.{is_at}
use Rattle.std.specs.BTreeSet as set
use Rattle.std.specs.BTreeSet.{BTreeSet}
use Rattle.std.proofs.lemmas.Bool.Decides.{nat_tests}
use Rattle.std.proofs.lemmas.List.Folds.{list_any-append}
use Rattle.rtc_peer_core.specs.Sources.{is_number}
use Rattle.rtc_peer_sdp.specs.EarlierNumbers.{HasNumbers}

at_number : (k q : ℕ) → is_at (nat_cmp k) q ≡ (k == q)
at_number k q = grind (arith, nat_tests)

-- what a set has once a number is put into it
abbrev pub HasOneMore : BTreeSet ℕ → BTreeSet ℕ → ℕ → Type 0
HasOneMore found now k = (q : ℕ) → set.contains nat_cmp now q ≡ cond (is_at (nat_cmp k) q) true (set.contains nat_cmp found q)

last_or : (one other : Bool) → cond one true other ≡ (other || (one || false))
last_or true true = refl
last_or true false = refl
last_or false true = refl
last_or false false = refl

-- one number more that was drawn
pub number_more : (found now : BTreeSet ℕ) (earlier : List ℕ) (number : ℕ) → HasOneMore found now number
    → HasNumbers found earlier → HasNumbers now (earlier ++ number ∷ [])
number_more found now earlier number put h = λ q.
    put q
    ∙ ap (λ (b : Bool). cond b true (set.contains nat_cmp found q)) (at_number number q)
    ∙ ap (cond (number == q) true) (h q)
    ∙ last_or (number == q) (is_number q earlier)
    ∙ sym (list_any-append (λ m. m == q) earlier (number ∷ []))
