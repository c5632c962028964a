-- What the values that a list gives have in common.
use Rattle.std.proofs.Common.{List, [], ◌∷◌, Option, Some, None}
use Rattle.std.specs.Prelude.{IfSome}
use Rattle.std.specs.List.{AllByRecursion, filter_map, cons_option}
use Rattle.std.specs.Option.{option_or}
use Rattle.rtc_wire_text.specs.Fields.{first}

pub filter_map_gives : {A B : Type 0} (gives : A → Option B) (P : A → Type 0) (Q : B → Type 0) → ((a : A) → P a → IfSome (gives a) Q) → (xs : List A)
    → AllByRecursion P xs → AllByRecursion Q (filter_map gives xs)
filter_map_gives gives P Q then [] h = tt
filter_map_gives {B = B} gives P Q then (x ∷ xs) h = by (gives x) (then x h.0) (filter_map gives xs) (filter_map_gives gives P Q then xs h.1)
  where
    by : (found : Option B) → IfSome found Q → (rest : List B) → AllByRecursion Q rest → AllByRecursion Q (cons_option found rest)
    by None q rest r = r
    by (Some b) q rest r = (q, r)

pub first_gives : {A B : Type 0} (gives : A → Option B) (P : A → Type 0) (Q : B → Type 0) → ((a : A) → P a → IfSome (gives a) Q) → (xs : List A)
    → AllByRecursion P xs → IfSome (first gives xs) Q
first_gives gives P Q then [] h = tt
first_gives {B = B} gives P Q then (x ∷ xs) h = by (gives x) (then x h.0) (first gives xs) (first_gives gives P Q then xs h.1)
  where
    by : (found : Option B) → IfSome found Q → (rest : Option B) → IfSome rest Q → IfSome (option_or found rest) Q
    by None q rest r = r
    by (Some b) q rest r = q
