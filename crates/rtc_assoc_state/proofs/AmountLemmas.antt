-- Amounts of streams.
use Rattle.std.proofs.Common.{ℕ, ◌≡◌, ◌-◌, ◌==◌, cond, List, ◌∷◌, length, ap, ◌∙◌, arith}
use Rattle.std.specs.Ordering.{nat_cmp, is_eq}
use Rattle.std.specs.BTreeMap.{BTreeMap}
use Rattle.rtc_assoc_state.specs.declared.item.Item.{Item}
use Rattle.rtc_assoc_state.specs.Amounts.{amount_of, Agree}

-- whether a number compares equal
pub is_eq-nat_cmp : (a b : ℕ) → is_eq (nat_cmp a b) ≡ (a == b)
is_eq-nat_cmp a b = grind arith

-- the amounts agree where the first item is acknowledged
pub agree-behind : (old new : BTreeMap ℕ ℕ) (item : Item) (items : List Item) → Agree old (item ∷ items) → ((s : ℕ) → amount_of s new ≡ amount_of s old - cond (item.stream == s) (length item.bytes) 0) → Agree new items
agree-behind old new item items h e = record { each = λ s. omega (arith, h.each s, e s) }

-- the same, of an item that is lent
pub agree-lent : (old new : BTreeMap ℕ ℕ) (lent item : Item) (n : ℕ) (items : List Item) → lent ≡ item → n ≡ length lent.bytes → Agree old (item ∷ items) → ((s : ℕ) → amount_of s new ≡ amount_of s old - cond (lent.stream == s) n 0) → Agree new items
agree-lent old new lent item n items l k h e =
    agree-behind old new item items h (λ s. e s
    ∙ ap (λ j. amount_of s old - cond (lent.stream == s) j 0) k
    ∙ ap (λ (i : Item). amount_of s old - cond (i.stream == s) (length i.bytes) 0) l)
