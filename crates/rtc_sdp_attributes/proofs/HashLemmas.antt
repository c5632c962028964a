-- Texts that are put together byte by byte on the stack.
use Rattle.std.proofs.Common.{◌≡◌, ◌∙◌, ◌+◌, ◌-◌, ◌*◌, ◌<◌, ◌≤◌, ℕ, List, [], ◌∷◌, ◌++◌, zero, suc, Bool, true, false, not, ◌||◌, ◌&&◌, eqb, length, take, drop, refl, sym, ap, arith}
use Rattle.std.proofs.lemmas.List.{take_all}
use Rattle.std.specs.List.{list_all, list_any}
use Rattle.std.specs.Str.{IsAscii, IsUtf8}
use Rattle.std.proofs.lemmas.Str.{IsAscii-append, IsUtf8-from_ascii}

one_byte : (byte : ℕ) → byte < 128 → IsAscii (byte ∷ [])
one_byte byte lt zero = lt
one_byte byte lt (suc i) = omega arith

-- one more ASCII byte
pub ascii_behind : (front : List ℕ) (byte : ℕ) → IsAscii front → byte < 128 → IsAscii (front ++ byte ∷ [])
ascii_behind front byte h lt = IsAscii-append front (byte ∷ []) h (one_byte byte lt)

-- where none is the byte, all are others
pub none_is_all_others : (at : ℕ) (text : List ℕ) → not (list_any (λ x. eqb x at) text) ≡ list_all (λ x. not (eqb x at)) text
none_is_all_others at [] = refl
none_is_all_others at (b ∷ bs) = pushed (eqb b at) (list_any (λ x. eqb x at) bs) (list_all (λ x. not (eqb x at)) bs) (none_is_all_others at bs) where
  pushed : (one some all : Bool) → not some ≡ all → not (one || some) ≡ (not one && all)
  pushed true some all h = refl
  pushed false some all h = h

-- no byte
pub no_byte : IsAscii []
no_byte i = omega arith

pub ascii_utf8 : (text : List ℕ) → IsAscii text → IsUtf8 text
ascii_utf8 text h = IsUtf8-from_ascii text h

left_length : (rest : List ℕ) → 3 ≤ length rest → length (take (length rest - 3) (drop 3 rest)) ≡ length rest - 3
left_length [] h = absurd (omega arith)
left_length (a ∷ []) h = absurd (omega arith)
left_length (a ∷ b ∷ []) h = absurd (omega arith)
left_length (a ∷ b ∷ c ∷ more) h =
    let all : take (length (a ∷ b ∷ c ∷ more) - 3) more ≡ more = take_all _ more (omega arith) in
    let left : length (a ∷ b ∷ c ∷ more) - 3 ≡ length more = omega arith in
    ap length all ∙ sym left

-- room for the pairs that are left, once one was read
pub room_left : (rest : List ℕ) (len capacity later_len later_capacity : ℕ) → 3 ≤ length rest → later_len ≡ len + 1 → later_capacity ≡ capacity
    → 3 * len + length rest < 3 * capacity → 3 * later_len + length (take (length rest - 3) (drop 3 rest)) < 3 * later_capacity
room_left rest len capacity later_len later_capacity h longer same room =
    let left : length (take (length rest - 3) (drop 3 rest)) ≡ length rest - 3 = left_length rest h in
    omega (arith, left, longer, same, room, h)
