-- Steps of members, by whether they are here.
use Rattle.std.proofs.Common.{◌≡◌, ◌≢◌, ◌∙◌, ◌<◌, ◌++◌, if◌then◌else◌, ℕ, zero, suc, Bool, true, false, List, [], ◌∷◌, length, get_or, Option, Some, None, Result, Ok, Err, OnOk, IfOk, refl, sym, ap, subst}
use Rattle.std.specs.Prelude.{slice_get, slice_set}
use Rattle.std.specs.declared.alloc.Global.{Global}
use Rattle.rtc_plain_media.specs.declared.plain_media_event.PlainMediaEvent.{PlainMediaEvent}
use Rattle.rtc_run_history.specs.declared.reply.Reply.{Reply}
use Rattle.rtc_run_history.specs.declared.shown.Shown.{Shown}
use Rattle.rtc_run_history.specs.declared.side.Side.TheVariants.{Left}
use Rattle.rtc_run_history.specs.declared.step.Step.{Step}
use Rattle.rtc_run_history.specs.declared.step.Step.TheVariants.{Datagram}
use Rattle.rtc_run_history.specs.Fresh.{ArePeersFormed, IsFresh}
use Rattle.rtc_run_history.specs.Past.{Entry}
use Rattle.rtc_run_laws.specs.PlainPairs.{PlainPolled}
use Rattle.rtc_run.specs.NumberedPair.{IsNumberedPair}
use Rattle.rtc_run.specs.ProgramPair.{PlainPairState, plain_parts}
use Rattle.rtc_room_laws.specs.Hearing.{heard_in, line_behind, members_told}
use Rattle.rtc_room_laws.specs.Members.{MemberState, gone_member, hearing_members, is_here, is_present, new_member}
use Rattle.rtc_room_laws.specs.RoomSteps.{IsFor, JoinsRoom, PerformsHere, RoomState, TakesRoomStep, TakesStep, is_allowed}
use Rattle.rtc_room_laws.specs.declared.item.Item.{Item}
use Rattle.rtc_room_laws.specs.declared.room_reply.RoomReply.{RoomReply}
use Rattle.rtc_room_laws.specs.declared.room_reply.RoomReply.TheVariants as replied
use Rattle.rtc_room_laws.specs.declared.room_step.RoomStep.{RoomStep}
use Rattle.rtc_room_laws.specs.declared.room_step.RoomStep.TheVariants.{Join, Leave, Perform, Arrive, Forward}
use Rattle.rtc_room_hub.proofs.HeardMembers.{got_there, place_inside, some_at}
use Rattle.rtc_room_hub.proofs.RoomSoFar.{room_of}
use Rattle.rtc_room_hub.proofs.SentQueues.{SomeForwards}

-- ---- places

-- what is there is what is read
pub got : {A : Type 0} (xs : List A) (i : ℕ) (x d : A) → slice_get xs i ≡ Some x → get_or xs i d ≡ x
got [] i x d is = absurd (let bad : None ≡ Some x = is in cc)
got (a ∷ xs) zero x d is = let one : Some a ≡ Some x = is in let same : a ≡ x = cc in same
got (a ∷ xs) (suc i) x d is = got xs i x d is

pub here_is : (here : Bool) (n k : ℕ) → (if here then Some n else None) ≡ Some k → (here ≡ true) × (n ≡ k)
here_is true n k is = (refl, let one : Some n ≡ Some k = is in cc)
here_is false n k is = absurd (let bad : None ≡ Some k = is in cc)

pub away_is : (here : Bool) (n : ℕ) → (if here then Some n else None) ≡ None → here ≡ false
away_is true n is = absurd (let bad : Some n ≡ None = is in cc)
away_is false n is = refl

present_inside : (found : Option MemberState) (k : ℕ) (members : List MemberState) → slice_get members k ≡ found → is_present found ≡ true → k < length members
present_inside None k members is here = absurd (let bad : false ≡ true = here in cc)
present_inside (Some member) k members is here = place_inside members k member is

-- a member that is here has a place
pub here_inside : (k : ℕ) (members : List MemberState) → is_here k members ≡ true → k < length members
here_inside k members here = present_inside (slice_get members k) k members refl here

-- ---- steps

pub takes_away : (here : Bool) (step : RoomStep) (members : List MemberState) (pairs : List PlainPairState) → here ≡ false
    → TakesRoomStep here step replied.NoMember members pairs members pairs
takes_away here step members pairs away =
    subst (λ (b : Bool). TakesRoomStep b step replied.NoMember members pairs members pairs) (sym away)
    ([], (refl, record { room_is = refl; performed_is = refl }))

-- what is done for a member at a place is done for the number that it is found by
pub on_here : {E : Type 0} (here : Bool) (number k : ℕ) (step : ℕ → RoomStep) (result : Result RoomReply E) (members members' : List MemberState)
    (pairs pairs' : List PlainPairState) → Some k ≡ (if here then Some number else None)
    → IfOk result (λ reply. TakesRoomStep true (step k) reply members pairs members' pairs') → IfOk result (λ reply. TakesRoomStep here (step number) reply members pairs members' pairs')
on_here here number k step result members members' pairs pairs' found h =
    let is : (here ≡ true) × (number ≡ k) = here_is here number k (sym found) in
    subst (λ (b : Bool). IfOk result (λ reply. TakesRoomStep b (step number) reply members pairs members' pairs')) (sym is.0)
    (subst (λ (n : ℕ). IfOk result (λ reply. TakesRoomStep true (step n) reply members pairs members' pairs')) (sym is.1) h)

pub place_here : (number k : ℕ) (members : List MemberState) → Some k ≡ (if is_here number members then Some number else None) → k < length members
place_here number k members found =
    let is : (is_here number members ≡ true) × (number ≡ k) = here_is (is_here number members) number k (sym found) in
    subst (λ (n : ℕ). n < length members) is.1 (here_inside number members is.0)

-- nobody of this number is here
pub on_away : (number : ℕ) (step : RoomStep) (members : List MemberState) (pairs : List PlainPairState) → None ≡ (if is_here number members then Some number else None)
    → TakesRoomStep (is_here number members) step replied.NoMember members pairs members pairs
on_away number step members pairs found = takes_away (is_here number members) step members pairs (away_is (is_here number members) number (sym found))

pub leaves : (number k : ℕ) (members members' : List MemberState) (pairs : List PlainPairState) → Some k ≡ (if is_here number members then Some number else None)
    → ((member : MemberState) → slice_get members k ≡ Some member → members' ≡ slice_set members k (gone_member member))
    → TakesRoomStep (is_here number members) (Leave number) replied.Left members pairs members' pairs
leaves number k members members' pairs is left =
    let found : (x : MemberState) × (slice_get members k ≡ Some x) = some_at members k (place_here number k members is) in
    let taken : TakesRoomStep true (Leave k) replied.Left members pairs members' pairs = (
      [],
      record {
        member = found.0;
        here = found.1;
        room_is = ap (λ (ms : List MemberState). room_of ms pairs) (left found.0 found.1);
        performed_is = refl;
      },
    ) in
    let is_found : (is_here number members ≡ true) × (number ≡ k) = here_is (is_here number members) number k (sym is) in
    subst (λ (b : Bool). TakesRoomStep b (Leave number) replied.Left members pairs members' pairs) (sym is_found.0)
    (subst (λ (n : ℕ). TakesRoomStep true (Leave n) replied.Left members pairs members' pairs) (sym is_found.1) taken)

-- ---- steps at a place

pub refuses_step : (k : ℕ) (step : Step) (allowed : Bool) (members : List MemberState) (pairs : List PlainPairState) → allowed ≡ is_allowed step → allowed ≡ false
    → TakesRoomStep true (Perform k step) replied.NotAllowed members pairs members pairs
refuses_step k step allowed members pairs is refused = ([], (sym is ∙ refused, record { room_is = refl; performed_is = refl }))

pub takes_step : (k : ℕ) (step : Step) (allowed : Bool) (reply : Reply PlainMediaEvent) (members members' : List MemberState) (pairs pairs' : List PlainPairState)
    → allowed ≡ is_allowed step → allowed ≡ true
    → (performed : List (Entry PlainMediaEvent)) × PerformsHere k step reply (room_of members pairs) performed (room_of members' pairs')
    → TakesRoomStep true (Perform k step) (replied.Performed reply) members pairs members' pairs'
takes_step k step allowed reply members members' pairs pairs' is granted h = (h.0, (sym is ∙ granted, h.1))

pub refuses_datagram : (k packet now : ℕ) (found : Option ℕ) (members : List MemberState) (pairs : List PlainPairState) → IsFor k packet now (room_of members pairs) found
    → found ≢ Some k → TakesRoomStep true (Arrive k packet now) replied.NoMember members pairs members pairs
refuses_datagram k packet now found members pairs addressed other = ([], (found, addressed, other, record { room_is = refl; performed_is = refl }))

pub takes_datagram : (k packet now : ℕ) (found : Option ℕ) (reply : Reply PlainMediaEvent) (members members' : List MemberState) (pairs pairs' : List PlainPairState)
    → IsFor k packet now (room_of members pairs) found → found ≡ Some k
    → (performed : List (Entry PlainMediaEvent)) × PerformsHere k (Datagram Left packet now) reply (room_of members pairs) performed (room_of members' pairs')
    → TakesRoomStep true (Arrive k packet now) (replied.Performed reply) members pairs members' pairs'
takes_datagram k packet now found reply members members' pairs pairs' addressed is h =
    (h.0, (subst (λ (f : Option ℕ). IsFor k packet now (room_of members pairs) f) is addressed, h.1))

-- a member joins
pub joined : (alloc : Global) (room number : ℕ) (members members' : List MemberState) (pairs pairs' : List PlainPairState) (member : MemberState) (pair : PlainPairState)
    → number ≡ length members → number < 256 → IsNumberedPair alloc number pair → IsFresh plain_parts pair → ArePeersFormed plain_parts pair
    → member ≡ new_member number room → members' ≡ members ++ member ∷ [] → pairs' ≡ pairs ++ pair ∷ []
    → JoinsRoom alloc room (room_of members pairs) (replied.Joined number) (room_of members' pairs')
joined alloc room number members members' pairs pairs' member pair is few numbered fresh formed member_is members_are pairs_are =
    let next : members' ≡ members ++ new_member number room ∷ [] = members_are ∙ ap (λ (m : MemberState). members ++ m ∷ []) member_is in (
      is,
      few,
      pair,
      record { numbered = numbered; fresh = fresh; formed = formed },
      ap (λ (ms : List MemberState). room_of ms pairs') next
          ∙ ap (λ (ps : List PlainPairState). room_of (members ++ new_member number room ∷ []) ps) pairs_are,
    )

pub takes_join : {E : Type 0} (alloc : Global) (room : ℕ) (step : RoomStep) (result : Result RoomReply E) (old new : RoomState) → step ≡ Join room
    → IfOk result (λ reply. JoinsRoom alloc room old reply new)
    → IfOk result (λ reply. (performed : List (Entry PlainMediaEvent)) × TakesStep alloc step reply old performed new)
takes_join alloc room step (Err e) old new is h = tt
takes_join alloc room step (Ok reply) old new is h =
    ([], subst (λ (s : RoomStep). TakesStep alloc s reply old [] new) (sym is) (h, refl))

-- ---- what is heard in a step

pub told_members : (k room : ℕ) (line line' : Option ℕ) (p : PlainPolled ℕ) (outputs : List (Shown PlainMediaEvent)) (items : List Item)
    (d d' : MemberState) (members with_line members' : List MemberState) → line ≡ (get_or members k d).line → room ≡ (get_or members k d').room
    → line' ≡ line_behind p line outputs → items ≡ heard_in k p line outputs
    → ((member : MemberState) → slice_get members k ≡ Some member → with_line ≡ slice_set members k (record member { line = line' }))
    → members' ≡ hearing_members k room items with_line
    → (member : MemberState) → slice_get members k ≡ Some member → members' ≡ members_told k member p outputs members
told_members k room line line' p outputs items d d' members with_line members' line_is room_is line'_is items_are set heard member there =
    let own : get_or members k d ≡ member = got members k member d there in
    let own' : get_or members k d' ≡ member = got members k member d' there in
    let old_line : line ≡ member.line = line_is ∙ ap (λ (m : MemberState). m.line) own in
    let old_room : room ≡ member.room = room_is ∙ ap (λ (m : MemberState). m.room) own' in
    let next : line' ≡ line_behind p member.line outputs = line'_is ∙ ap (λ (l : Option ℕ). line_behind p l outputs) old_line in
    let those : items ≡ heard_in k p member.line outputs = items_are ∙ ap (λ (l : Option ℕ). heard_in k p l outputs) old_line in
    heard
    ∙ ap (λ (r : ℕ). hearing_members k r items with_line) old_room
    ∙ ap (λ (l : List Item). hearing_members k member.room l with_line) those
    ∙ ap (λ (ms : List MemberState). hearing_members k member.room (heard_in k p member.line outputs) ms)
    (set member there ∙ ap (λ (l : Option ℕ). slice_set members k (record member { line = l })) next)

pub told_ok : {E : Type 0} (result : Result (Unit {0}) E) (k room : ℕ) (line line' : Option ℕ) (p : PlainPolled ℕ) (outputs : List (Shown PlainMediaEvent))
    (items : List Item) (d d' : MemberState) (members with_line members' : List MemberState) → line ≡ (get_or members k d).line
    → room ≡ (get_or members k d').room → line' ≡ line_behind p line outputs → items ≡ heard_in k p line outputs
    → ((member : MemberState) → slice_get members k ≡ Some member → with_line ≡ slice_set members k (record member { line = line' }))
    → OnOk result (members' ≡ hearing_members k room items with_line)
    → OnOk result ((member : MemberState) → slice_get members k ≡ Some member → members' ≡ members_told k member p outputs members)
told_ok (Err error) k room line line' p outputs items d d' members with_line members' line_is room_is line'_is items_are set heard = tt
told_ok (Ok done) k room line line' p outputs items d d' members with_line members' line_is room_is line'_is items_are set heard =
    told_members k room line line' p outputs items d d' members with_line members' line_is room_is line'_is items_are set heard

-- ---- forwards

pub forwards_takes : {E : Type 0} (k : ℕ) (result : Result RoomReply E) (members : List MemberState) (pairs : List PlainPairState) (d member' : MemberState)
    (e after : PlainPairState) → k < length members → k < length pairs
    → IfOk result (λ reply. SomeForwards (get_or members k d).is_put_out (get_or members k d).line (get_or members k d) (get_or pairs k e) reply member' after)
    → IfOk result (λ reply. TakesRoomStep true (Forward k) reply members pairs (slice_set members k member') (slice_set pairs k after))
forwards_takes k (Err error) members pairs d member' e after inside within h = tt
forwards_takes k (Ok reply) members pairs d member' e after inside within h = (
  h.0,
  record {
    member = get_or members k d;
    member' = member';
    here = got_there members k d inside;
    before = get_or pairs k e;
    after = after;
    there = got_there pairs k e within;
    forwards = h.2;
    few = h.1;
    members_are = refl;
    pairs_are = refl;
  },
)
