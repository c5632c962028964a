-- The word that leads a join is no number of a member.
use Rattle.std.proofs.Common.{◌≡◌, ◌<◌, ◌^◌, ◌∙◌, ℕ, true, false, List, sym, ap, arith, codes}
use Rattle.std.specs.Fmt.{decimal}
use Rattle.rtc_wire_text.specs.Numbers.{is_numeral}
use Rattle.rtc_wire_text.proofs.NumberLemmas.{is_numeral-decimal}
use Rattle.rtc_room_laws.specs.declared.room_step.RoomStep.{RoomStep}
use Rattle.rtc_room_laws.specs.declared.room_step.RoomStep.TheVariants.{Join, Leave, Perform, Arrive, Forward}
use Rattle.rtc_room.specs.RoomLines.{AreWordsOf, IsRoomWord}

no_number : (n : ℕ) → n < 2 ^ 32 → codes "join" ≡ decimal n → ⊥
no_number n small same =
    let e : false ≡ true = ap is_numeral same ∙ is_numeral-decimal n (omega (arith, small)) in
    absurd (cc)

-- a line that it leads is that of no step if no number of a room is behind it
pub no_join : (first : List ℕ) (rest : List (List ℕ)) → first ≡ codes "join" → ((room : ℕ) → IsRoomWord rest room → ⊥) → (step : RoomStep)
    → AreWordsOf first rest step → ⊥
no_join first rest is none (Join room) h = none room h.1
no_join first rest is none (Leave member) h = no_number member h.0.1 (sym is ∙ h.0.0)
no_join first rest is none (Perform member step) h = no_number member h.0.1 (sym is ∙ h.0.0)
no_join first rest is none (Arrive member packet now) h = no_number member h.0.1 (sym is ∙ h.0.0)
no_join first rest is none (Forward member) h = no_number member h.0.1 (sym is ∙ h.0.0)
