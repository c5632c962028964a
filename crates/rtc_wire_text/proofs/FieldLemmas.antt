-- Loops that read each field, or look for the first row that gives something.
use Rattle.std.proofs.Common.{◌≡◌, ℕ, ◌+◌, ◌<◌, ◌≤◌, List, [], ◌∷◌, ◌++◌, length, map, get_or, drop, Option, Some, None, refl, sym, ap, ◌∙◌, arith, append_assoc, add-one, drop-cons}
use Rattle.std.specs.Prelude.{option_map}
use Rattle.std.specs.Option.{option_or}
use Rattle.std.proofs.lemmas.List.{drop_all, length-map}
use Rattle.std.proofs.Math.ListN.{get_or-map}
use denote.Ref.{Bor}
use Rattle.rtc_wire_text.specs.Fields.{each, onto, first}

-- what was read before, and what is still to be read
abbrev pub so_far : {B : Type 0} → List B → Option (List B) → Option (List B)
so_far front rest = option_map (λ bs. front ++ bs) rest

pub regroup : {B : Type 0} (front : List B) (b : B) (rest : Option (List B)) → so_far front (onto (Some b) rest) ≡ so_far (front ++ b ∷ []) rest
regroup front b None = refl
regroup front b (Some bs) = ap Some (sym (append_assoc front (b ∷ []) bs))

-- one more field is read
pub each_more : {A B : Type 0} (form : A → Option B) (ws : List A) (i : ℕ) (d : A) (front : List B) (b : B) (total : Option (List B)) → i < length ws → form (get_or ws i d) ≡ Some b
    → so_far front (each form (drop i ws)) ≡ total → so_far (front ++ b ∷ []) (each form (drop (i + 1) ws)) ≡ total
each_more form ws i d front b total lt e h =
    let cons : drop i ws ≡ get_or ws i d ∷ drop (i + 1) ws = rw add-one (drop-cons ws i d lt) in
    let step : each form (drop i ws) ≡ onto (Some b) (each form (drop (i + 1) ws)) = rw (cons, e) refl in
    sym (regroup front b (each form (drop (i + 1) ws))) ∙ ap (so_far front) (sym step) ∙ h

-- a field without the form
pub each_none : {A B : Type 0} (form : A → Option B) (ws : List A) (i : ℕ) (d : A) (front : List B) (total : Option (List B)) → i < length ws → form (get_or ws i d) ≡ None
    → so_far front (each form (drop i ws)) ≡ total → None ≡ total
each_none form ws i d front total lt e h =
    let cons : drop i ws ≡ get_or ws i d ∷ drop (i + 1) ws = rw add-one (drop-cons ws i d lt) in
    let step : each form (drop i ws) ≡ None = rw (cons, e) refl in
    ap (so_far front) (sym step) ∙ h

-- the same where the fields are texts that are lent
abbrev pub shown : List (Bor (List ℕ)) → List (List ℕ)
shown ws = map (λ x. x.now) ws

abbrev pub at : List (Bor (List ℕ)) → ℕ → List ℕ
at ws i = (get_or ws i (record { ref_ptr = (0, 0); now = [] })).now

at-is : (ws : List (Bor (List ℕ))) (i : ℕ) → get_or (shown ws) i [] ≡ at ws i
at-is ws i = get_or-map (λ (x : Bor (List ℕ)). x.now) ws i (record { ref_ptr = (0, 0); now = [] })

pub reads_more : {B : Type 0} (form : List ℕ → Option B) (ws : List (Bor (List ℕ))) (i : ℕ) (front : List B) (b : B) (total : Option (List B)) → i < length ws → Some b ≡ form (at ws i)
    → so_far front (each form (drop i (shown ws))) ≡ total → so_far (front ++ b ∷ []) (each form (drop (i + 1) (shown ws))) ≡ total
reads_more form ws i front b total lt e h =
    each_more form (shown ws) i [] front b total (omega (arith, length-map ws (λ (x : Bor (List ℕ)). x.now))) (ap form (at-is ws i) ∙ sym e) h

pub reads_none : {B : Type 0} (form : List ℕ → Option B) (ws : List (Bor (List ℕ))) (i : ℕ) (front : List B) (total : Option (List B)) → i < length ws → None ≡ form (at ws i)
    → so_far front (each form (drop i (shown ws))) ≡ total → None ≡ total
reads_none form ws i front total lt e h =
    each_none form (shown ws) i [] front total (omega (arith, length-map ws (λ (x : Bor (List ℕ)). x.now))) (ap form (at-is ws i) ∙ sym e) h

first_at : {A B : Type 0} (gives : A → Option B) (xs : List A) (i : ℕ) (d : A) → i < length xs → first gives (drop i xs) ≡ option_or (gives (get_or xs i d)) (first gives (drop (i + 1) xs))
first_at gives xs i d lt = let cons : drop i xs ≡ get_or xs i d ∷ drop (i + 1) xs = rw add-one (drop-cons xs i d lt) in rw cons refl

-- the row is x, which gives y
pub first_found : {A B : Type 0} (gives : A → Option B) (xs : List A) (i : ℕ) (x : A) (y : B) (total : Option B) → i < length xs → x ≡ get_or xs i x → gives x ≡ Some y → first gives (drop i xs) ≡ total → Some y ≡ total
first_found gives xs i x y total lt e g h =
    let here : gives (get_or xs i x) ≡ Some y = ap gives (sym e) ∙ g in
    let step : first gives (drop i xs) ≡ Some y = first_at gives xs i x lt ∙ rw here refl in
    sym step ∙ h

-- the row is x, which gives nothing
pub first_more : {A B : Type 0} (gives : A → Option B) (xs : List A) (i : ℕ) (x : A) (total : Option B) → i < length xs → x ≡ get_or xs i x → gives x ≡ None → first gives (drop i xs) ≡ total → first gives (drop (i + 1) xs) ≡ total
first_more gives xs i x total lt e g h =
    let here : gives (get_or xs i x) ≡ None = ap gives (sym e) ∙ g in
    let step : first gives (drop i xs) ≡ first gives (drop (i + 1) xs) = first_at gives xs i x lt ∙ rw here refl in
    sym step ∙ h

pub first_done : {A B : Type 0} (gives : A → Option B) (xs : List A) (i : ℕ) (total : Option B) → length xs ≤ i → first gives (drop i xs) ≡ total → None ≡ total
first_done gives xs i total le h = let nothing : drop i xs ≡ [] = drop_all i xs le in ap (first gives) (sym nothing) ∙ h

-- the same for the first, where the rows are texts that are lent
pub looks_found : {B : Type 0} (gives : List ℕ → Option B) (ws : List (Bor (List ℕ))) (i : ℕ) (b : B) (total : Option B) → i < length ws → Some b ≡ gives (at ws i)
    → first gives (drop i (shown ws)) ≡ total → Some b ≡ total
looks_found gives ws i b total lt e h =
    let here : gives (get_or (shown ws) i []) ≡ Some b = ap gives (at-is ws i) ∙ sym e in
    let step : first gives (drop i (shown ws)) ≡ Some b = first_at gives (shown ws) i [] (omega (arith, length-map ws (λ (x : Bor (List ℕ)). x.now))) ∙ rw here refl in
    sym step ∙ h

pub looks_more : {B : Type 0} (gives : List ℕ → Option B) (ws : List (Bor (List ℕ))) (i : ℕ) (total : Option B) → i < length ws → None ≡ gives (at ws i)
    → first gives (drop i (shown ws)) ≡ total → first gives (drop (i + 1) (shown ws)) ≡ total
looks_more gives ws i total lt e h =
    let here : gives (get_or (shown ws) i []) ≡ None = ap gives (at-is ws i) ∙ sym e in
    let step : first gives (drop i (shown ws)) ≡ first gives (drop (i + 1) (shown ws)) = first_at gives (shown ws) i [] (omega (arith, length-map ws (λ (x : Bor (List ℕ)). x.now))) ∙ rw here refl in
    sym step ∙ h
