-- The number that is told is that of the first refused line.
use Rattle.std.proofs.Common.{◌≡◌, ℕ, ◌+◌, ◌-◌, ◌^◌, min, Bool, true, false, cond, List, [], ◌∷◌, ◌++◌, length, Option, Some, None, Ok, Err, refl, sym, ap, ◌∙◌, arith}
use Rattle.std.proofs.lemmas.List.{append-nil}
use Rattle.rtc_sdp_values.specs.declared.sdp.Sdp.{Sdp}
use Rattle.rtc_sdp_grammar.specs.declared.item.Item.{Item}
use Rattle.rtc_sdp_grammar.specs.ItemForm.{items_of}
use Rattle.rtc_sdp_reader.specs.declared.place.Place.{Place}
use Rattle.rtc_sdp_reader.specs.declared.place.Place.TheVariants.{First}
use Rattle.rtc_sdp_reader.specs.Refusal.{is_refused, next, is_short, next_number, refused_from, refused}
use Rattle.rtc_sdp_reader.specs.SessionValue.{sdp_of}
use Rattle.rtc_sdp_reader.specs.Reading.{judged, reading}
use Rattle.rtc_sdp_reader.specs.FirstRefused.{Passes, place_after, IsRefusedNext, IsFirstRefused, IsUnrefused}

-- that a number stops at the greatest does not matter for what comes behind
saturates : (n k more : ℕ) → more ≡ k + 1 → min (next_number n + (k + 1)) (2 ^ 32 - 1) ≡ min (n + (more + 1)) (2 ^ 32 - 1)
saturates n k more e = grind arith

-- the same from any place, where the line in front has number n
record Stops (place : Place) (n : ℕ) (items : List Item) (m : ℕ) : Type 0 where
  front : List Item
  rest : List Item
  parts : items ≡ front ++ rest
  number : m ≡ min (n + (length front + 1)) (2 ^ 32 - 1)
  before : Passes place front rest
  here : IsRefusedNext (place_after place front) rest

stops : (place : Place) (n : ℕ) (items : List Item) (m : ℕ) → refused_from place n items ≡ Some m → Stops place n items m
stops place n [] m e = go (is_short place) refl e
  where
    go : (b : Bool) → is_short place ≡ b → cond b (Some (next_number n)) None ≡ Some m → Stops place n [] m
    go true t h = let q : m ≡ next_number n = cc in record { front = []; rest = []; parts = refl; number = q ∙ ap (λ (k : ℕ). min (n + k) (2 ^ 32 - 1)) (omega arith); before = tt; here = t }
    go false t h = absurd cc
stops place n (item ∷ items) m e = go (is_refused place item items) refl e (λ k. stops (next place item) (next_number n) items m k)
  where
    go : (b : Bool) → is_refused place item items ≡ b → cond b (Some (next_number n)) (refused_from (next place item) (next_number n) items) ≡ Some m → (refused_from (next place item) (next_number n) items ≡ Some m → Stops (next place item) (next_number n) items m) → Stops place n (item ∷ items) m
    go true t h ih = let q : m ≡ next_number n = cc in record { front = []; rest = item ∷ items; parts = refl; number = q ∙ ap (λ (k : ℕ). min (n + k) (2 ^ 32 - 1)) (omega arith); before = tt; here = t }
    go false t h ih =
        let later = ih h in
        let passed : is_refused place item (later.front ++ later.rest) ≡ false = ap (is_refused place item) (sym later.parts) ∙ t in
        let more : length (item ∷ later.front) ≡ length later.front + 1 = omega arith in
        record { front = item ∷ later.front; rest = later.rest; parts = ap (λ (l : List Item). item ∷ l) later.parts; number = later.number ∙ saturates n (length later.front) (length (item ∷ later.front)) more; before = (passed, later.before); here = later.here }

passes : (place : Place) (n : ℕ) (items : List Item) → refused_from place n items ≡ None → Passes place items [] × (is_short (place_after place items) ≡ false)
passes place n [] e = (tt, go (is_short place) refl e)
  where
    go : (b : Bool) → is_short place ≡ b → cond b (Some (next_number n)) None ≡ None → is_short place ≡ false
    go true t h = absurd cc
    go false t h = t
passes place n (item ∷ items) e = go (is_refused place item items) refl e (λ k. passes (next place item) (next_number n) items k)
  where
    go : (b : Bool) → is_refused place item items ≡ b → cond b (Some (next_number n)) (refused_from (next place item) (next_number n) items) ≡ None → (refused_from (next place item) (next_number n) items ≡ None → Passes (next place item) items [] × (is_short (place_after (next place item) items) ≡ false))
        → Passes place (item ∷ items) [] × (is_short (place_after place (item ∷ items)) ≡ false)
    go true t h ih = absurd cc
    go false t h ih =
        let later = ih h in
        ((ap (is_refused place item) (append-nil items) ∙ t, later.0), later.1)

told_refused : (items : List Item) (number : Option ℕ) (n : ℕ) → refused items ≡ number → judged number (sdp_of items) ≡ Err n → IsFirstRefused items n
told_refused items None n e h = absurd cc
told_refused items (Some m) n e h =
    let told : n ≡ m = cc in
    let at = stops First 0 items m e in
    record { front = at.front; rest = at.rest; parts = at.parts; number_is = told ∙ at.number ∙ ap (λ (k : ℕ). min k (2 ^ 32 - 1)) (omega arith); before = at.before; here = at.here }

told_read : (items : List Item) (number : Option ℕ) (sdp : Sdp) → refused items ≡ number → judged number (sdp_of items) ≡ Ok sdp → IsUnrefused items
told_read items None sdp e h = let p = passes First 0 items e in record { passes = p.0; whole = p.1 }
told_read items (Some m) sdp e h = absurd cc

pub refused_is_first : (text : List ℕ) (n : ℕ) → reading text ≡ Err n → IsFirstRefused (items_of text) n
refused_is_first text n h = told_refused (items_of text) (refused (items_of text)) n refl h

pub read_is_unrefused : (text : List ℕ) (sdp : Sdp) → reading text ≡ Ok sdp → IsUnrefused (items_of text)
read_is_unrefused text sdp h = told_read (items_of text) (refused (items_of text)) sdp refl h
