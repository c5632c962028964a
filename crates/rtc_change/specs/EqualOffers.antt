-- Equality of what offerers keep until an answer is accepted.
use Rattle.std.specs.Prelude.{ℕ, Bool, List, nat_eq}
use Rattle.std.specs.Bool.{beq}
use Rattle.std.specs.Cmp.{IsEquivalence, and_equiv, bool_eq_equiv, nat_eq_equiv, on_equiv}
use Rattle.std.specs.Cmp.Lexicographic.{pointwise, lists_equiv}
use Rattle.std.specs.Ordering.{on, eq_of_both}
use Rattle.rtc_sdp_values.specs.contracts.direction.DirectionPartialEq.TheImpl as direction_eq
use Rattle.rtc_sdp_values.specs.contracts.direction.DirectionEq.TheImpl.Laws as direction_laws
use Rattle.rtc_sdp_values.specs.contracts.mid.MidPartialEq.TheImpl as mid_eq
use Rattle.rtc_sdp_values.specs.contracts.mid.MidEq.TheImpl.Laws as mid_laws
use Rattle.rtc_sdp_values.specs.declared.direction.Direction.{Direction as LineDirection}
use Rattle.rtc_change.specs.PendingOffer.{PendingOffer}
use Rattle.rtc_change.specs.contracts.change.ChangePartialEq.TheImpl as change_eq
use Rattle.rtc_change.specs.contracts.change.ChangeEq.TheImpl.Laws as change_laws

-- two rows were set or stopped alike: the mid, the direction, and whether it was stopped before
abbrev pub same_undone : List ℕ × LineDirection × Bool → List ℕ × LineDirection × Bool → Bool
same_undone =
    eq_of_both
    (eq_of_both
    (on (λ (row : List ℕ × LineDirection × Bool). row.0) (mid_eq.ghosts).eq)
    (on (λ (row : List ℕ × LineDirection × Bool). row.1) (direction_eq.ghosts).eq))
    (on (λ (row : List ℕ × LineDirection × Bool). row.2) beq)

pub same_undone_equiv : IsEquivalence same_undone
same_undone_equiv =
    and_equiv
    (and_equiv
    (on_equiv (λ (row : List ℕ × LineDirection × Bool). row.0) mid_laws.laws-law)
    (on_equiv (λ (row : List ℕ × LineDirection × Bool). row.1) direction_laws.laws-law))
    (on_equiv (λ (row : List ℕ × LineDirection × Bool). row.2) bool_eq_equiv)

-- two offerers keep the same
abbrev pub same_pending : PendingOffer → PendingOffer → Bool
same_pending =
    eq_of_both (on (λ (offer : PendingOffer). offer.id) nat_eq)
    (eq_of_both (on (λ (offer : PendingOffer). offer.changes) (pointwise (change_eq.ghosts).eq))
    (eq_of_both (on (λ (offer : PendingOffer). offer.says_init) beq)
    (on (λ (offer : PendingOffer). offer.undo) (pointwise same_undone))))

pub same_pending_equiv : IsEquivalence same_pending
same_pending_equiv =
    and_equiv (on_equiv (λ (offer : PendingOffer). offer.id) nat_eq_equiv)
    (and_equiv (on_equiv (λ (offer : PendingOffer). offer.changes) (lists_equiv change_laws.laws-law))
    (and_equiv (on_equiv (λ (offer : PendingOffer). offer.says_init) bool_eq_equiv)
    (on_equiv (λ (offer : PendingOffer). offer.undo) (lists_equiv same_undone_equiv))))
