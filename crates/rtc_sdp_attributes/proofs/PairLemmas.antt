-- A loop that reads pairs and keeps some.
use Rattle.std.proofs.Common.{◌≡◌, ℕ, ◌+◌, ◌<◌, Bool, true, false, List, [], ◌∷◌, ◌++◌, length, drop, get_or, Option, Some, None, refl, sym, ap, ◌∙◌, arith, append_assoc, add-one, drop-cons}
use Rattle.std.specs.Prelude.{option_map, filter}
use Rattle.std.proofs.lemmas.List.{length-map, append-nil}
use Rattle.std.proofs.Math.ListN.{get_or-map}
use denote.Ref.{Bor}
use Rattle.rtc_wire_text.specs.Fields.{each, onto}
use Rattle.rtc_wire_text.proofs.FieldLemmas.{shown, at}
use Rattle.rtc_sdp_attributes.specs.AttributeForms.{is_kept, rid_pair}

abbrev Pair : Type 0
Pair = List ℕ × List ℕ

-- the pairs with one more, where it is kept
abbrev pub grown : List Pair → Pair → List Pair
grown front p = front ++ filter is_kept (p ∷ [])

-- what was kept before, and what of the rest is kept
abbrev pub kept_so_far : List Pair → Option (List Pair) → Option (List Pair)
kept_so_far front rest = option_map (λ pairs. front ++ filter is_kept pairs) rest

regroup : (front : List Pair) (p : Pair) (rest : Option (List Pair)) → kept_so_far front (onto (Some p) rest) ≡ kept_so_far (grown front p) rest
regroup front p None = refl
regroup front p (Some ps) = go (is_kept p) refl
  where
    go : (b : Bool) → is_kept p ≡ b → Some (front ++ filter is_kept (p ∷ ps)) ≡ Some ((front ++ filter is_kept (p ∷ [])) ++ filter is_kept ps)
    go true e = rw e (ap Some (sym (append_assoc front (p ∷ []) (filter is_kept ps))))
    go false e = rw e (ap (λ (l : List Pair). Some (l ++ filter is_kept ps)) (sym (append-nil front)))

at-is : (ws : List (Bor (List ℕ))) (i : ℕ) → get_or (shown ws) i [] ≡ at ws i
at-is ws i = get_or-map (λ (x : Bor (List ℕ)). x.now) ws i (record { ref_ptr = (0, 0); now = [] })

cons : (ws : List (Bor (List ℕ))) (i : ℕ) → i < length ws → drop i (shown ws) ≡ at ws i ∷ drop (i + 1) (shown ws)
cons ws i lt =
    let inside : i < length (shown ws) = omega (arith, length-map ws (λ (x : Bor (List ℕ)). x.now)) in
    let e : drop i (shown ws) ≡ get_or (shown ws) i [] ∷ drop (i + 1) (shown ws) = rw add-one (drop-cons (shown ws) i [] inside) in
    e ∙ ap (λ (w : List ℕ). w ∷ drop (i + 1) (shown ws)) (at-is ws i)

pub keeps_more : (ws : List (Bor (List ℕ))) (i : ℕ) (front : List Pair) (p : Pair) (total : Option (List Pair)) → i < length ws → Some p ≡ rid_pair (at ws i)
    → kept_so_far front (each rid_pair (drop i (shown ws))) ≡ total → kept_so_far (grown front p) (each rid_pair (drop (i + 1) (shown ws))) ≡ total
keeps_more ws i front p total lt e h =
    let step : each rid_pair (drop i (shown ws)) ≡ onto (Some p) (each rid_pair (drop (i + 1) (shown ws))) = ap (each rid_pair) (cons ws i lt) ∙ ap (λ (o : Option Pair). onto o (each rid_pair (drop (i + 1) (shown ws)))) (sym e) in
    sym (regroup front p (each rid_pair (drop (i + 1) (shown ws)))) ∙ ap (kept_so_far front) (sym step) ∙ h

pub keeps_none : (ws : List (Bor (List ℕ))) (i : ℕ) (front : List Pair) (total : Option (List Pair)) → i < length ws → None ≡ rid_pair (at ws i)
    → kept_so_far front (each rid_pair (drop i (shown ws))) ≡ total → None ≡ total
keeps_none ws i front total lt e h =
    let step : each rid_pair (drop i (shown ws)) ≡ onto None (each rid_pair (drop (i + 1) (shown ws))) = ap (each rid_pair) (cons ws i lt) ∙ ap (λ (o : Option Pair). onto o (each rid_pair (drop (i + 1) (shown ws)))) (sym e) in
    ap (kept_so_far front) (sym step) ∙ h
