-- The buffered amounts of items.
use Rattle.std.proofs.Common.{ℕ, zero, suc, ◌≡◌, ◌+◌, ◌==◌, inl, inr, cond, List, [], ◌∷◌, ◌++◌, length, take, drop, arith, length-drop}
use Rattle.std.proofs.lemmas.Bool.Decides.{eqb_tells, leb_tells}
use Rattle.std.proofs.lemmas.List.{length-take-le}
use Rattle.rtc_assoc_state.specs.declared.item.Item.{Item}
use Rattle.rtc_assoc_state.specs.Pieces.{pieces_within}
use Rattle.rtc_assoc_state.specs.Outbox.{buffered}

pub buffered-append : (s : ℕ) (xs ys : List Item) → buffered s (xs ++ ys) ≡ buffered s xs + buffered s ys
buffered-append s [] ys = omega arith
buffered-append s (x ∷ xs) ys = omega (arith, buffered-append s xs ys)

-- the pieces of a message have its bytes
pub buffered-pieces : (count size id g i s : ℕ) (bytes : List ℕ) → buffered s (pieces_within count size id g i bytes) ≡ cond (id == s) (length bytes) 0
unfolding pieces_within
buffered-pieces zero size id g i s bytes = omega arith
buffered-pieces (suc count) size id g i s bytes =
    elim (leb_tells (length bytes) size) [
      | inl e ↦ rw e.0 (omega arith)
      | inr e ↦
          let rest = buffered-pieces count size id g i s (drop size bytes) in
          let whole : length (take size bytes) + length (drop size bytes) ≡ length bytes = omega (arith, length-drop size bytes, length-take-le size bytes (omega (arith, e.1))) in
          elim (eqb_tells id s) [
            | inl h ↦ rw (e.0, h.0) (omega (arith, rw h.0 at rest, whole))
            | inr h ↦ rw (e.0, h.0) (omega (arith, rw h.0 at rest))
          ]
    ]
