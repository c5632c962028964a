-- Items that are sent: their numbers fit, and the amounts count them.
use Rattle.std.proofs.Common.{ℕ, ◌≡◌, ◌+◌, ◌-◌, ◌≤◌, ◌==◌, ◌||◌, Bool, true, false, cond, List, [], ◌∷◌, ◌++◌, length, refl, sym, ap, ◌∙◌, arith}
use Rattle.std.proofs.lemmas.Bool.{ltb-false}
use Rattle.rtc_assoc_state.specs.declared.item.Item.{Item}
use Rattle.rtc_assoc_state.specs.Pieces.{close_of, pieces_of}
use Rattle.std.specs.BTreeMap.{BTreeMap}
use Rattle.rtc_assoc_state.specs.Outbox.{last_number}
use Rattle.rtc_assoc_state.specs.Amounts.{amount_of, Agree}
use Rattle.rtc_assoc_state.proofs.BufferedLemmas.{buffered-append, buffered-pieces}
use Rattle.rtc_assoc_state.specs.Streams.{any_at_last_generation}
use Rattle.rtc_assoc_state.specs.Contents.{Contents, is_ending, is_closing, is_closed, few_numbers_left}

or_parts : (a b : Bool) → (a || b) ≡ false → (a ≡ false) × (b ≡ false)
or_parts true b e = absurd cc
or_parts false b e = (refl, e)

-- an end that lives has many numbers left
pub numbers_left : (p : Contents) → is_ending p ≡ false → last_number p.outbox + 8589934592 ≤ 18446744073709551615
numbers_left p e =
    let closing : is_closing p ≡ false = (or_parts (is_closing p) (is_closed p) e).0 in
    let early : (p.standing.shut || few_numbers_left p.outbox) ≡ false = (or_parts (p.standing.shut || few_numbers_left p.outbox) (any_at_last_generation p.streams) closing).0 in
    let few : few_numbers_left p.outbox ≡ false = (or_parts p.standing.shut (few_numbers_left p.outbox) early).1 in
    omega (arith, ltb-false (18446744073709551615 - last_number p.outbox) 8589934592 few)

-- the amounts after a message is written, and after a close is queued
pub agree-written : (old new : BTreeMap ℕ ℕ) (items : List Item) (size id g i n : ℕ) (bytes : List ℕ) → Agree old items → n ≡ length bytes → ((s : ℕ) → amount_of s new ≡ amount_of s old + cond (id == s) n 0) → Agree new (items ++ pieces_of size id g i bytes)
agree-written old new items size id g i n bytes a e h = record {
  each = λ s. h s ∙ ap (λ k. amount_of s old + cond (id == s) k 0) e ∙ omega (arith, a.each s, buffered-append s items (pieces_of size id g i bytes), buffered-pieces (length bytes) size id g i s bytes);
}

nothing_for : (b : Bool) (n : ℕ) → n ≡ 0 → cond b n 0 ≡ n
nothing_for true n e = refl
nothing_for false n e = sym e

pub agree-closed : (amounts : BTreeMap ℕ ℕ) (items : List Item) (id g : ℕ) → Agree amounts items → Agree amounts (items ++ close_of id g ∷ [])
agree-closed amounts items id g a = record { each = λ s. omega (arith, a.each s, buffered-append s items (close_of id g ∷ []), nothing_for (id == s) 0 refl) }
