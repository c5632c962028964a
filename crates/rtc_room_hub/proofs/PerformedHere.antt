-- A step of the pair of a member that is here, and what the hub hears.
use Rattle.std.proofs.Common.{◌≡◌, ◌∙◌, ◌+◌, ◌<◌, ◌^◌, ℕ, zero, suc, List, [], ◌∷◌, length, get_or, Some, refl, ap, subst, arith}
use Rattle.std.specs.Prelude.{slice_get, slice_set}
use Rattle.rtc_plain_media.specs.declared.plain_media_event.PlainMediaEvent.{PlainMediaEvent}
use Rattle.rtc_run_history.specs.declared.reply.Reply.{Reply}
use Rattle.rtc_run_history.specs.declared.side.Side.{Side}
use Rattle.rtc_run_history.specs.declared.step.Step.{Step}
use Rattle.rtc_run_history.specs.PairState.{rtc_at}
use Rattle.rtc_run_history.specs.Past.{Entry}
use Rattle.rtc_run_history.specs.Sides.{side_of}
use Rattle.rtc_run.specs.ProgramPair.{PlainPairState}
use Rattle.rtc_room_laws.specs.Hearing.{members_behind}
use Rattle.rtc_room_laws.specs.Members.{MemberState}
use Rattle.rtc_room_laws.specs.RoomSizes.{HaveRoom}
use Rattle.rtc_room_laws.specs.RoomSteps.{PerformsAt, PerformsHere}
use Rattle.rtc_room_hub.proofs.HeardMembers.{some_at}
use Rattle.rtc_room_hub.proofs.RoomSoFar.{room_of}

-- there is room at each place
pub room_at : (size k : ℕ) (pairs : List PlainPairState) (d : PlainPairState) → HaveRoom size pairs → k < length pairs → (get_or pairs k d).size + size < 2 ^ 32
room_at size k [] d h inside = absurd (omega (arith, inside))
room_at size zero (first ∷ pairs) d h inside = h.0
room_at size (suc k) (first ∷ pairs) d h inside = room_at size k pairs d h.1 (omega (arith, inside))

-- what was written at a place is read there
pub read_written : {A : Type 0} (xs : List A) (k : ℕ) (x d : A) → k < length xs → get_or (slice_set xs k x) k d ≡ x
read_written [] k x d inside = absurd (omega (arith, inside))
read_written (z ∷ xs) zero x d inside = refl
read_written (z ∷ xs) (suc k) x d inside = read_written xs k x d (omega (arith, inside))

-- a step at the pair of a member, and what the hub hears of it
pub performed_here : (k : ℕ) (step : Step) (side : Side) (reply : Reply PlainMediaEvent) (members members' : List MemberState)
    (pairs pairs' : List PlainPairState) (performed : List (Entry PlainMediaEvent)) (d : PlainPairState) (h : PerformsAt k step reply pairs performed pairs')
    → k < length members → length members ≡ length pairs → side ≡ side_of step
    → ((member : MemberState) → slice_get members k ≡ Some member
    → members' ≡ members_behind side reply.outcome k member (rtc_at side (get_or pairs' k d)) members)
    → PerformsHere k step reply (room_of members pairs) performed (room_of members' pairs')
performed_here k step side reply members members' pairs pairs' performed d h inside same side_is heard =
    let found : (x : MemberState) × (slice_get members k ≡ Some x) = some_at members k inside in
    let pair_is : get_or pairs' k d ≡ h.after =
    ap (λ (ps : List PlainPairState). get_or ps k d) h.pairs_are ∙ read_written pairs k h.after d (omega (arith, inside, same)) in
    record {
      member = found.0;
      here = found.1;
      pair = h;
      members_are = subst (λ (s : Side). members' ≡ members_behind s reply.outcome k found.0 (rtc_at s h.after) members) side_is
          (subst (λ (p : PlainPairState). members' ≡ members_behind side reply.outcome k found.0 (rtc_at side p) members) pair_is
          (heard found.0 found.1));
    }
