-- Of who has not joined, nothing was performed, and nothing was heard, of it and for it.
use Rattle.std.proofs.Common.{◌≡◌, ◌∙◌, ◌==◌, ◌&&◌, ◌++◌, if◌then◌else◌, ℕ, zero, suc, Bool, true, false, true≢false, List, [], ◌∷◌, map, Option, Some, None, refl, sym, ap}
use Rattle.std.specs.Prelude.{slice_get, slice_set}
use Rattle.std.specs.declared.alloc.Global.{Global}
use Rattle.std.proofs.lemmas.Bool.{eqb-true}
use Rattle.rtc_plain_media.specs.declared.plain_media_event.PlainMediaEvent.{PlainMediaEvent}
use Rattle.rtc_run_history.specs.Past.{Entry}
use Rattle.rtc_run_history.specs.PairState.{rtc_at}
use Rattle.rtc_run_history.specs.Sides.{same_side, side_of}
use Rattle.rtc_run_history.specs.declared.outcome.Outcome.{Outcome}
use Rattle.rtc_run_history.specs.declared.outcome.Outcome.TheVariants.{Negotiated, Answered, Finished, Done, Wrote, Polled, Refused, NoSuch, Alloc}
use Rattle.rtc_run_history.specs.declared.reply.Reply.{Reply}
use Rattle.rtc_run_history.specs.declared.side.Side.{Side}
use Rattle.rtc_run_history.specs.declared.side.Side.TheVariants.{Left, Right}
use Rattle.rtc_run_laws.specs.PlainPairs.{PlainPolled}
use Rattle.rtc_room_laws.specs.Hearing.{heard_in, line_behind, members_after, members_behind}
use Rattle.rtc_room_laws.specs.Members.{MemberState, hearing_member, hearing_members, is_here, is_present, new_member}
use Rattle.rtc_room_laws.specs.RoomRuns.{RoomWent, is_step_of, performed_of}
use Rattle.rtc_room_laws.specs.RoomSteps.{JoinsRoom, RoomEntry, RoomState, TakesHere, TakesOf, TakesStep}
use Rattle.rtc_room_laws.specs.declared.item.Item.{Item}
use Rattle.rtc_room_laws.specs.declared.room_reply.RoomReply.{RoomReply}
use Rattle.rtc_room_laws.specs.declared.room_reply.RoomReply.TheVariants as replied
use Rattle.rtc_room_laws.specs.declared.room_step.RoomStep.{RoomStep}
use Rattle.rtc_room_laws.specs.declared.room_step.RoomStep.TheVariants.{Join, Leave, Perform, Arrive, Forward}
use Rattle.rtc_room_laws.specs.RoomHandsOn.{are_of_one_room, are_together, entry_told, heard_for, messages_told}
use Rattle.rtc_room_laws.specs.ItemMessages.{LineMessage}
use Rattle.rtc_room_laws.proofs.DueRooms.{empty_if}

-- ---- who was absent after a step was absent before it

some_none : {A : Type 0} (x : A) → Some x ≡ None → ⊥
some_none x h = cc

none_set : {A : Type 0} (xs : List A) (k : ℕ) (v : A) (j : ℕ) → slice_get (slice_set xs k v) j ≡ None → slice_get xs j ≡ None
none_set [] k v j h = refl
none_set (y ∷ xs) zero v zero h = absurd (some_none v h)
none_set (y ∷ xs) zero v (suc j) h = h
none_set (y ∷ xs) (suc k) v zero h = h
none_set (y ∷ xs) (suc k) v (suc j) h = none_set xs k v j h

none_map : {A : Type 0} (f : A → A) (xs : List A) (j : ℕ) → slice_get (map f xs) j ≡ None → slice_get xs j ≡ None
none_map f [] j h = refl
none_map f (y ∷ xs) zero h = absurd (some_none (f y) h)
none_map f (y ∷ xs) (suc j) h = none_map f xs j h

none_push : {A : Type 0} (xs : List A) (v : A) (j : ℕ) → slice_get (xs ++ v ∷ []) j ≡ None → slice_get xs j ≡ None
none_push [] v j h = refl
none_push (y ∷ xs) v zero h = absurd (some_none y h)
none_push (y ∷ xs) v (suc j) h = none_push xs v j h

none_heard : (sender room : ℕ) (items : List Item) (members : List MemberState) (j : ℕ) → slice_get (hearing_members sender room items members) j ≡ None
    → slice_get members j ≡ None
none_heard sender room [] members j h = h
none_heard sender room (item ∷ items) members j h = none_map (hearing_member sender room (item ∷ items)) members j h

none_after : (outcome : Outcome PlainMediaEvent) (k : ℕ) (member : MemberState) (p : PlainPolled ℕ) (members : List MemberState) (j : ℕ)
    → slice_get (members_after outcome k member p members) j ≡ None → slice_get members j ≡ None
none_after (Polled outputs end) k member p members j h =
    none_set members k (record member { line = line_behind p member.line outputs }) j
    (none_heard k member.room (heard_in k p member.line outputs) (slice_set members k (record member { line = line_behind p member.line outputs })) j h)
none_after (Negotiated answers made) k member p members j h = h
none_after (Answered text) k member p members j h = h
none_after Finished k member p members j h = h
none_after Done k member p members j h = h
none_after (Wrote taken) k member p members j h = h
none_after (Refused error) k member p members j h = h
none_after NoSuch k member p members j h = h
none_after Alloc k member p members j h = h

none_behind : (side : Side) (outcome : Outcome PlainMediaEvent) (k : ℕ) (member : MemberState) (p : PlainPolled ℕ) (members : List MemberState) (j : ℕ)
    → slice_get (members_behind side outcome k member p members) j ≡ None → slice_get members j ≡ None
none_behind Left outcome k member p members j h = none_after outcome k member p members j h
none_behind Right outcome k member p members j h = h

by_room : (old new : RoomState) (j : ℕ) → new ≡ old → slice_get new.members j ≡ None → slice_get old.members j ≡ None
by_room old new j same h = sym (ap (λ (r : RoomState). slice_get r.members j) same) ∙ h

by_members : (members members' : List MemberState) (j : ℕ) → members' ≡ members → slice_get members' j ≡ None → slice_get members j ≡ None
by_members members members' j same h = sym (ap (λ (ms : List MemberState). slice_get ms j) same) ∙ h

none_here : (step : RoomStep) (reply : RoomReply) (old new : RoomState) (performed : List (Entry PlainMediaEvent)) (j : ℕ) → TakesHere step reply old performed new
    → slice_get new.members j ≡ None → slice_get old.members j ≡ None
none_here (Leave k) replied.Left old new performed j h none =
    none_set old.members k _ j (by_members _ new.members j (ap (λ (r : RoomState). r.members) h.room_is) none)
none_here (Perform k step) replied.NotAllowed old new performed j h none = by_room old new j h.1.room_is none
none_here (Perform k step) (replied.Performed reply) old new performed j h none =
    none_behind (side_of step) reply.outcome k h.1.member (rtc_at (side_of step) h.1.pair.after) old.members j (by_members _ new.members j h.1.members_are none)
none_here (Arrive k packet now) replied.NoMember old new performed j h none = by_room old new j h.3.room_is none
none_here (Arrive k packet now) (replied.Performed reply) old new performed j h none =
    none_behind Left reply.outcome k h.1.member (rtc_at Left h.1.pair.after) old.members j (by_members _ new.members j h.1.members_are none)
none_here (Forward k) reply old new performed j h none = none_set old.members k h.member' j (by_members _ new.members j h.members_are none)
none_here step reply old new performed j h none = absurd h

none_of : (here : Bool) (step : RoomStep) (reply : RoomReply) (old new : RoomState) (performed : List (Entry PlainMediaEvent)) (j : ℕ)
    → TakesOf here step reply old performed new → slice_get new.members j ≡ None → slice_get old.members j ≡ None
none_of false step reply old new performed j h none = by_room old new j h.1.room_is none
none_of true step reply old new performed j h none = none_here step reply old new performed j h none

none_join : (alloc : Global) (room : ℕ) (reply : RoomReply) (old new : RoomState) (j : ℕ) → JoinsRoom alloc room old reply new
    → slice_get new.members j ≡ None → slice_get old.members j ≡ None
none_join alloc room (replied.Joined k) old new j h none =
    none_push old.members (new_member k room) j (by_members _ new.members j (ap (λ (r : RoomState). r.members) h.4) none)
none_join alloc room replied.Full old new j h none = by_room old new j h.1 none
none_join alloc room reply old new j h none = absurd h

pub none_before : (alloc : Global) (step : RoomStep) (reply : RoomReply) (old new : RoomState) (performed : List (Entry PlainMediaEvent)) (j : ℕ)
    → TakesStep alloc step reply old performed new → slice_get new.members j ≡ None → slice_get old.members j ≡ None
none_before alloc (Join room) reply old new performed j h none = none_join alloc room reply old new j h.0 none
none_before alloc (Leave k) reply old new performed j h none = none_of (is_here k old.members) (Leave k) reply old new performed j h none
none_before alloc (Perform k step) reply old new performed j h none = none_of (is_here k old.members) (Perform k step) reply old new performed j h none
none_before alloc (Arrive k packet now) reply old new performed j h none =
    none_of (is_here k old.members) (Arrive k packet now) reply old new performed j h none
none_before alloc (Forward k) reply old new performed j h none = none_of (is_here k old.members) (Forward k) reply old new performed j h none

-- ---- nothing is performed of who is absent

away_performs : (here : Bool) (step : RoomStep) (reply : RoomReply) (old new : RoomState) (performed : List (Entry PlainMediaEvent)) → here ≡ false
    → TakesOf here step reply old performed new → performed ≡ []
away_performs false step reply old new performed away h = h.1.performed_is
away_performs true step reply old new performed away h = absurd (true≢false away)

away : (k j : ℕ) (members : List MemberState) → slice_get members j ≡ None → (k == j) ≡ true → is_here k members ≡ false
away k j members none own = ap is_present (ap (slice_get members) (eqb-true k j own) ∙ none)

pub absent_performs : (alloc : Global) (step : RoomStep) (reply : RoomReply) (old new : RoomState) (performed : List (Entry PlainMediaEvent)) (j : ℕ)
    → TakesStep alloc step reply old performed new → slice_get old.members j ≡ None → is_step_of j step ≡ true → performed ≡ []
absent_performs alloc (Join room) reply old new performed j h none own = h.1
absent_performs alloc (Leave k) reply old new performed j h none own =
    away_performs (is_here k old.members) (Leave k) reply old new performed (away k j old.members none own) h
absent_performs alloc (Perform k step) reply old new performed j h none own =
    away_performs (is_here k old.members) (Perform k step) reply old new performed (away k j old.members none own) h
absent_performs alloc (Arrive k packet now) reply old new performed j h none own =
    away_performs (is_here k old.members) (Arrive k packet now) reply old new performed (away k j old.members none own) h
absent_performs alloc (Forward k) reply old new performed j h none own =
    away_performs (is_here k old.members) (Forward k) reply old new performed (away k j old.members none own) h

-- nor is anything told
messages_none : (j : ℕ) (found : Option MemberState) (new : RoomState) (reply : Reply PlainMediaEvent) → found ≡ None → messages_told j found (slice_get new.pairs j) reply ≡ []
messages_none j found new reply none = ap (λ (o : Option MemberState). messages_told j o (slice_get new.pairs j) reply) none

pub absent_told : (j : ℕ) (step : RoomStep) (reply : RoomReply) (old new : RoomState) → slice_get old.members j ≡ None → entry_told j step reply old new ≡ []
absent_told j (Perform k step) (replied.Performed reply) old new none =
    empty_if ((k == j) && same_side (side_of step) Left) (messages_told j (slice_get old.members j) (slice_get new.pairs j) reply)
    (messages_none j (slice_get old.members j) new reply none)
absent_told j (Arrive k packet now) (replied.Performed reply) old new none =
    empty_if (k == j) (messages_told j (slice_get old.members j) (slice_get new.pairs j) reply) (messages_none j (slice_get old.members j) new reply none)
absent_told j step reply old new none = refl

none_second : (x : Option MemberState) → are_of_one_room x None ≡ false
none_second None = refl
none_second (Some a) = refl

pub apart_if_absent : (s m : ℕ) (room : RoomState) → slice_get room.members m ≡ None → are_together s m room ≡ false
apart_if_absent s m room none =
    ap (λ (o : Option MemberState). are_of_one_room (slice_get room.members s) o) none ∙ none_second (slice_get room.members s)

pub apart_if_unspoken : (s m : ℕ) (room : RoomState) → slice_get room.members s ≡ None → are_together s m room ≡ false
apart_if_unspoken s m room none = ap (λ (o : Option MemberState). are_of_one_room o (slice_get room.members m)) none

-- ---- in a whole run

performed_if : (b : Bool) (performed earlier : List (Entry PlainMediaEvent)) → (b ≡ true → performed ≡ []) → earlier ≡ []
    → (if b then performed ++ earlier else earlier) ≡ []
performed_if true performed earlier none before = ap (λ (l : List (Entry PlainMediaEvent)). l ++ earlier) (none refl) ∙ before
performed_if false performed earlier none before = before

-- of who has not joined before a step, nothing was performed with it
pub unperformed_with : (alloc : Global) (j : ℕ) (entry : RoomEntry) (past : List RoomEntry) (old new : RoomState)
    → TakesStep alloc entry.step entry.reply old entry.performed new → slice_get old.members j ≡ None → performed_of j past ≡ []
    → performed_of j (entry ∷ past) ≡ []
unperformed_with alloc j entry past old new h none before =
    performed_if (is_step_of j entry.step) entry.performed (performed_of j past) (absent_performs alloc entry.step entry.reply old new entry.performed j h none) before

pub unperformed : (alloc : Global) (past : List RoomEntry) (room : RoomState) (went : RoomWent alloc past room) (j : ℕ) → slice_get room.members j ≡ None
    → performed_of j past ≡ []
unperformed alloc [] room went j none = refl
unperformed alloc (entry ∷ past) room went j none =
    let before : slice_get went.0.members j ≡ None = none_before alloc entry.step entry.reply went.0 room entry.performed j went.2 none in
    unperformed_with alloc j entry past went.0 room went.2 before (unperformed alloc past went.0 went.1 j before)

-- two members of whom one is absent, or that are apart
pub apart_told : (b : Bool) (heard told : List LineMessage) → b ≡ false → heard ≡ [] → heard ++ (if b then told else []) ≡ []
apart_told false heard told e none = ap (λ (l : List LineMessage). l ++ []) none
apart_told true heard told e none = absurd (true≢false e)

pub unheard_by : (alloc : Global) (past : List RoomEntry) (room : RoomState) (went : RoomWent alloc past room) (s m : ℕ) → slice_get room.members m ≡ None
    → heard_for alloc s m past room went ≡ []
unheard_by alloc [] room went s m none = refl
unheard_by alloc (entry ∷ past) room went s m none =
    let before : slice_get went.0.members m ≡ None = none_before alloc entry.step entry.reply went.0 room entry.performed m went.2 none in
    apart_told (are_together s m went.0) (heard_for alloc s m past went.0 went.1) (entry_told s entry.step entry.reply went.0 room)
    (apart_if_absent s m went.0 before) (unheard_by alloc past went.0 went.1 s m before)

pub unheard_of : (alloc : Global) (past : List RoomEntry) (room : RoomState) (went : RoomWent alloc past room) (s m : ℕ) → slice_get room.members s ≡ None
    → heard_for alloc s m past room went ≡ []
unheard_of alloc [] room went s m none = refl
unheard_of alloc (entry ∷ past) room went s m none =
    let before : slice_get went.0.members s ≡ None = none_before alloc entry.step entry.reply went.0 room entry.performed s went.2 none in
    apart_told (are_together s m went.0) (heard_for alloc s m past went.0 went.1) (entry_told s entry.step entry.reply went.0 room)
    (apart_if_unspoken s m went.0 before) (unheard_of alloc past went.0 went.1 s m before)
