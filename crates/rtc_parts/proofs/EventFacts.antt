-- The order of events, on examples.
use Rattle.std.proofs.Common.{◌≡◌, Bool, true, false, [], ◌∷◌, refl, arith}
use Rattle.rtc_parts.specs.declared.assoc_event.AssocEvent.TheVariants.{Readable, Finished, ResetComplete}
use Rattle.rtc_parts.specs.AssociationEvents.{InOrder}

-- a stream that is closed, reset, used and closed again
closed_and_reset : InOrder 3 false (Finished 3 ∷ ResetComplete 3 ∷ Readable 3 ∷ Finished 3 ∷ []) true
closed_and_reset = (λ e. refl, refl)

-- the close of another stream is none of this one
closed_elsewhere : InOrder 3 false (Finished 4 ∷ ResetComplete 4 ∷ []) false
closed_elsewhere = (λ e. absurd (omega (arith, e)), refl)

-- a reset alone is out of order, and so is a second one behind a single close
reset_alone : (b : Bool) → InOrder 3 false (ResetComplete 3 ∷ []) b → ⊥
reset_alone b h = let k : false ≡ true = h.0 refl in cc

reset_twice : (b : Bool) → InOrder 3 false (Finished 3 ∷ ResetComplete 3 ∷ ResetComplete 3 ∷ []) b → ⊥
reset_twice b h = let k : false ≡ true = h.1.0 refl in cc
