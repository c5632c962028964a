-- Where the members of a room are from that a step left: each was there before, in the same room, or just joined.
use Rattle.std.proofs.Common.{◌≡◌, ◌∙◌, ◌⊎◌, inl, inr, ◌+◌, ◌<◌, ◌++◌, if◌then◌else◌, ℕ, zero, suc, Bool, true, false, true≢false, List, [], ◌∷◌, map, length, drop, Option, Some, None, refl, sym, ap, subst, arith}
use Rattle.std.specs.Prelude.{nat_lt, slice_get, slice_set}
use Rattle.std.specs.declared.alloc.Global.{Global}
use Rattle.rtc_plain_media.specs.declared.plain_media_event.PlainMediaEvent.{PlainMediaEvent}
use Rattle.rtc_run_history.specs.Past.{Entry}
use Rattle.rtc_run_history.specs.PairState.{rtc_at}
use Rattle.rtc_run_history.specs.Sides.{side_of}
use Rattle.rtc_run_history.specs.declared.outcome.Outcome.{Outcome}
use Rattle.rtc_run_history.specs.declared.outcome.Outcome.TheVariants.{Negotiated, Answered, Finished, Done, Wrote, Polled, Refused, NoSuch, Alloc}
use Rattle.rtc_run_history.specs.declared.shown.Shown.{Shown}
use Rattle.rtc_run_history.specs.declared.side.Side.{Side}
use Rattle.rtc_run_history.specs.declared.side.Side.TheVariants.{Left, Right}
use Rattle.rtc_run_laws.specs.PlainPairs.{PlainPolled}
use Rattle.rtc_run.specs.ProgramPair.{PlainPairState}
use Rattle.rtc_room_laws.specs.Forwarding.{Forwards}
use Rattle.rtc_room_laws.specs.Hearing.{heard_in, line_behind, members_after, members_behind}
use Rattle.rtc_room_laws.specs.Members.{MemberState, gone_member, hearing_member, hearing_members, is_for_member, is_here, new_member, put_out_member, with_items}
use Rattle.rtc_room_laws.specs.RoomSteps.{JoinsRoom, RoomState, TakesHere, TakesOf, TakesStep}
use Rattle.rtc_room_laws.specs.declared.item.Item.{Item}
use Rattle.rtc_room_laws.specs.declared.room_reply.RoomReply.{RoomReply}
use Rattle.rtc_room_laws.specs.declared.room_reply.RoomReply.TheVariants as replied
use Rattle.rtc_room_laws.specs.declared.room_step.RoomStep.{RoomStep}
use Rattle.rtc_room_laws.specs.declared.room_step.RoomStep.TheVariants.{Join, Leave, Perform, Arrive, Forward}
use Rattle.rtc_room_laws.proofs.DueItems.{AreOf, AreWritable}
use Rattle.rtc_room_laws.proofs.HeardSteps.{heard_of_sender}
use Rattle.rtc_room_laws.proofs.MembersHear.{some_is, written_at}

-- one member before a step and after it
pub record KeptMember (a b : MemberState) : Type 0 where
  pub number_is : b.number ≡ a.number
  pub room_is : b.room ≡ a.room
  pub left_before : b.has_left ≡ false → a.has_left ≡ false
  pub small : AreWritable a.queue → AreWritable b.queue

-- what the hub hears of another one leaves its line too
pub record HeardMember (a b : MemberState) : Type 0 where
  pub number_is : b.number ≡ a.number
  pub room_is : b.room ≡ a.room
  pub left_is : b.has_left ≡ a.has_left
  pub line_is : b.line ≡ a.line
  pub small : AreWritable a.queue → AreWritable b.queue

-- a member of a list is one of another list, kept in this way
pub record IsFrom (Keeps : MemberState → MemberState → Type 0) (members : List MemberState) (j : ℕ) (b : MemberState) : Type 0 where
  pub a : MemberState
  pub there : slice_get members j ≡ Some a
  pub kept : Keeps a b

same_member : (a : MemberState) → KeptMember a a
same_member a = record { number_is = refl; room_is = refl; left_before = λ h. h; small = λ w. w }

-- ---- a member hears

writable_more : (items more : List Item) → AreWritable items → AreWritable more → AreWritable (items ++ more)
writable_more [] more w v = v
writable_more (item ∷ items) more w v = (w.0, writable_more items more w.1 v)

heard_kept : (sender room : ℕ) (items : List Item) (a : MemberState) → AreWritable items → HeardMember a (hearing_member sender room items a)
heard_kept sender room items a w = by (is_for_member sender room a)
  where
    hearing : (b : Bool) → HeardMember a (if b then put_out_member a else record a { queue = a.queue ++ items })
    hearing true = record { number_is = refl; room_is = refl; left_is = refl; line_is = refl; small = λ v. tt }
    hearing false =
        record { number_is = refl; room_is = refl; left_is = refl; line_is = refl; small = λ v. writable_more a.queue items v w }

    by : (b : Bool) → HeardMember a (if b then with_items items a else a)
    by true = hearing (nat_lt 1024 (length a.queue + length items))
    by false = record { number_is = refl; room_is = refl; left_is = refl; line_is = refl; small = λ v. v }

from_map : (f : MemberState → MemberState) → ((a : MemberState) → HeardMember a (f a)) → (members : List MemberState) (j : ℕ) (b : MemberState)
    → slice_get (map f members) j ≡ Some b → IsFrom HeardMember members j b
from_map f keeps [] j b there = absurd (none_some b there)
  where
    none_some : (x : MemberState) → None ≡ Some x → ⊥
    none_some x h = cc
from_map f keeps (a ∷ members) zero b there =
    record { a = a; there = refl; kept = subst (λ (x : MemberState). HeardMember a x) (some_is (f a) b there) (keeps a) }
from_map f keeps (a ∷ members) (suc j) b there =
    let rest = from_map f keeps members j b there in record { a = rest.a; there = rest.there; kept = rest.kept }

pub from_heard : (sender room : ℕ) (items : List Item) (members : List MemberState) (j : ℕ) (b : MemberState) → AreWritable items
    → slice_get (hearing_members sender room items members) j ≡ Some b → IsFrom HeardMember members j b
from_heard sender room [] members j b w there =
    record { a = b; there = there; kept = record { number_is = refl; room_is = refl; left_is = refl; line_is = refl; small = λ v. v } }
from_heard sender room (item ∷ items) members j b w there =
    from_map (hearing_member sender room (item ∷ items)) (λ a. heard_kept sender room (item ∷ items) a w) members j b there

-- ---- one member is written

from_set : (members : List MemberState) (k : ℕ) (a v : MemberState) (j : ℕ) (b : MemberState) → slice_get members k ≡ Some a → KeptMember a v
    → slice_get (slice_set members k v) j ≡ Some b → IsFrom KeptMember members j b
from_set members k a v j b here keeps there = by (written_at members k v j b there)
  where
    by : ((j ≡ k) × (b ≡ v)) ⊎ ((j ≡ k → ⊥) × (slice_get members j ≡ Some b)) → IsFrom KeptMember members j b
    by (inl own) = record {
      a = a;
      there = ap (slice_get members) own.0 ∙ here;
      kept = subst (λ (x : MemberState). KeptMember a x) (sym own.1) keeps;
    }
    by (inr other) = record { a = b; there = other.1; kept = same_member b }

kept_heard : (a x b : MemberState) → KeptMember a x → HeardMember x b → KeptMember a b
kept_heard a x b h k = record {
  number_is = k.number_is ∙ h.number_is;
  room_is = k.room_is ∙ h.room_is;
  left_before = λ e. h.left_before (sym k.left_is ∙ e);
  small = λ w. k.small (h.small w);
}

-- ---- a step of a pair

-- items of one sender can be written if its number is small
of_writable : (sender : ℕ) (items : List Item) → sender < 256 → AreOf sender items → AreWritable items
of_writable sender [] few are = tt
of_writable sender (item ∷ items) few are =
    ((let own : item.sender ≡ sender = are.0 in omega (arith, own, few)), of_writable sender items few are.1)

pub heard_writable : (k : ℕ) (p : PlainPolled ℕ) (line : Option ℕ) (outputs : List (Shown PlainMediaEvent)) → k < 256 → AreWritable (heard_in k p line outputs)
heard_writable k p line outputs few = of_writable k (heard_in k p line outputs) few (heard_of_sender k p line outputs)

from_told : (k : ℕ) (member : MemberState) (p : PlainPolled ℕ) (outputs : List (Shown PlainMediaEvent)) (members : List MemberState) (j : ℕ) (b : MemberState)
    → k < 256 → slice_get members k ≡ Some member
    → slice_get (hearing_members k member.room (heard_in k p member.line outputs) (slice_set members k (record member { line = line_behind p member.line outputs }))) j ≡ Some b
    → IsFrom KeptMember members j b
from_told k member p outputs members j b few here there =
    let heard = from_heard k member.room (heard_in k p member.line outputs) (slice_set members k (record member { line = line_behind p member.line outputs })) j b
    (heard_writable k p member.line outputs few) there in
    let set = from_set members k member (record member { line = line_behind p member.line outputs }) j heard.a here
    (record { number_is = refl; room_is = refl; left_before = λ h. h; small = λ w. w }) heard.there in
    record { a = set.a; there = set.there; kept = kept_heard set.a heard.a b set.kept heard.kept }

unchanged : (members : List MemberState) (j : ℕ) (b : MemberState) → slice_get members j ≡ Some b → IsFrom KeptMember members j b
unchanged members j b there = record { a = b; there = there; kept = same_member b }

from_after : (outcome : Outcome PlainMediaEvent) (k : ℕ) (member : MemberState) (p : PlainPolled ℕ) (members : List MemberState) (j : ℕ) (b : MemberState)
    → k < 256 → slice_get members k ≡ Some member → slice_get (members_after outcome k member p members) j ≡ Some b → IsFrom KeptMember members j b
from_after (Polled outputs end) k member p members j b few here there = from_told k member p outputs members j b few here there
from_after (Negotiated answers made) k member p members j b few here there = unchanged members j b there
from_after (Answered text) k member p members j b few here there = unchanged members j b there
from_after Finished k member p members j b few here there = unchanged members j b there
from_after Done k member p members j b few here there = unchanged members j b there
from_after (Wrote taken) k member p members j b few here there = unchanged members j b there
from_after (Refused error) k member p members j b few here there = unchanged members j b there
from_after NoSuch k member p members j b few here there = unchanged members j b there
from_after Alloc k member p members j b few here there = unchanged members j b there

from_behind : (side : Side) (outcome : Outcome PlainMediaEvent) (k : ℕ) (member : MemberState) (p : PlainPolled ℕ) (members : List MemberState) (j : ℕ) (b : MemberState)
    → k < 256 → slice_get members k ≡ Some member → slice_get (members_behind side outcome k member p members) j ≡ Some b → IsFrom KeptMember members j b
from_behind Left outcome k member p members j b few here there = from_after outcome k member p members j b few here there
from_behind Right outcome k member p members j b few here there = unchanged members j b there

-- ---- a forward

writable_rest : (n : ℕ) (items : List Item) → AreWritable items → AreWritable (drop n items)
writable_rest zero items w = w
writable_rest (suc n) [] w = tt
writable_rest (suc n) (item ∷ items) w = writable_rest n items w.1

forwarded_kept : (out : Bool) (line : Option ℕ) (member : MemberState) (before : PlainPairState) (reply : RoomReply) (performed : List (Entry PlainMediaEvent))
    (member' : MemberState) (after : PlainPairState) → Forwards out line member before reply performed member' after → KeptMember member member'
forwarded_kept true line member before replied.PutOut performed member' after h = subst (λ (x : MemberState). KeptMember member x) (sym h.1) (same_member member)
forwarded_kept false None member before (replied.Forwarded taken) performed member' after h =
    subst (λ (x : MemberState). KeptMember member x) (sym h.1) (same_member member)
forwarded_kept false (Some line) member before (replied.Forwarded taken) performed member' after h =
    subst (λ (x : MemberState). KeptMember member x) (sym h.3)
    (record { number_is = refl; room_is = refl; left_before = λ e. e; small = λ w. writable_rest taken member.queue w })
forwarded_kept false (Some line) member before replied.PutOut performed member' after h =
    subst (λ (x : MemberState). KeptMember member x) (sym h.3)
    (record { number_is = refl; room_is = refl; left_before = λ e. e; small = λ w. tt })
forwarded_kept out line member before reply performed member' after h = absurd h

-- ---- any step of one that is here

gone_kept : (a : MemberState) → KeptMember a (gone_member a)
gone_kept a = record { number_is = refl; room_is = refl; left_before = λ h. absurd (true≢false h); small = λ w. tt }

from_same : (old new : RoomState) (j : ℕ) (b : MemberState) → new ≡ old → slice_get new.members j ≡ Some b → IsFrom KeptMember old.members j b
from_same old new j b same there = unchanged old.members j b (sym (ap (λ (r : RoomState). slice_get r.members j) same) ∙ there)

-- numbers are small
abbrev pub ArePlaced : List MemberState → Type 0
ArePlaced members = (k : ℕ) (member : MemberState) → slice_get members k ≡ Some member → k < 256

from_here : (step : RoomStep) (reply : RoomReply) (old : RoomState) (performed : List (Entry PlainMediaEvent)) (new : RoomState) (j : ℕ) (b : MemberState)
    → ArePlaced old.members → TakesHere step reply old performed new → slice_get new.members j ≡ Some b → IsFrom KeptMember old.members j b
from_here (Leave k) replied.Left old performed new j b few h there =
    from_set old.members k h.member (gone_member h.member) j b h.here (gone_kept h.member) (sym (ap (λ (r : RoomState). slice_get r.members j) h.room_is) ∙ there)
from_here (Perform k step) replied.NotAllowed old performed new j b few h there = from_same old new j b h.1.room_is there
from_here (Perform k step) (replied.Performed reply) old performed new j b few h there =
    from_behind (side_of step) reply.outcome k h.1.member (rtc_at (side_of step) h.1.pair.after) old.members j b (few k h.1.member h.1.here) h.1.here
    (sym (ap (λ (ms : List MemberState). slice_get ms j) h.1.members_are) ∙ there)
from_here (Arrive k packet now) replied.NoMember old performed new j b few h there = from_same old new j b h.3.room_is there
from_here (Arrive k packet now) (replied.Performed reply) old performed new j b few h there =
    from_behind Left reply.outcome k h.1.member (rtc_at Left h.1.pair.after) old.members j b (few k h.1.member h.1.here) h.1.here
    (sym (ap (λ (ms : List MemberState). slice_get ms j) h.1.members_are) ∙ there)
from_here (Forward k) reply old performed new j b few h there =
    from_set old.members k h.member h.member' j b h.here
    (forwarded_kept h.member.is_put_out h.member.line h.member h.before reply performed h.member' h.after h.forwards)
    (sym (ap (λ (ms : List MemberState). slice_get ms j) h.members_are) ∙ there)
from_here step reply old performed new j b few h there = absurd h

-- ---- any step

-- a member just joined, at the end of those before
pub record JustJoined (old : List MemberState) (j : ℕ) (b : MemberState) : Type 0 where
  pub absent : slice_get old j ≡ None
  pub place : j ≡ length old
  pub few : j < 256
  pub room : ℕ
  pub is : b ≡ new_member j room

from_push : (members : List MemberState) (v : MemberState) (j : ℕ) (b : MemberState) → slice_get (members ++ v ∷ []) j ≡ Some b
    → (slice_get members j ≡ Some b) ⊎ ((slice_get members j ≡ None) × (j ≡ length members) × (b ≡ v))
from_push [] v zero b there = inr (refl, refl, sym (some_is v b there))
from_push [] v (suc j) b there = absurd (none_some b there)
  where
    none_some : (x : MemberState) → None ≡ Some x → ⊥
    none_some x h = cc
from_push (a ∷ members) v zero b there = inl there
from_push (a ∷ members) v (suc j) b there =
    elim (from_push members v j b there)
    [ inl h ↦ inl h | inr h ↦ inr (h.0, ap suc h.1, h.2) ]

abbrev pub ComesFrom : List MemberState → ℕ → MemberState → Type 0
ComesFrom old j b = IsFrom KeptMember old j b ⊎ JustJoined old j b

from_join : (alloc : Global) (room : ℕ) (reply : RoomReply) (old new : RoomState) (j : ℕ) (b : MemberState) → JoinsRoom alloc room old reply new
    → slice_get new.members j ≡ Some b → ComesFrom old.members j b
from_join alloc room (replied.Joined k) old new j b h there =
    by (from_push old.members (new_member k room) j b (sym (ap (λ (r : RoomState). slice_get r.members j) h.4) ∙ there))
  where
    by : (slice_get old.members j ≡ Some b) ⊎ ((slice_get old.members j ≡ None) × (j ≡ length old.members) × (b ≡ new_member k room))
        → ComesFrom old.members j b
    by (inl found) = inl (unchanged old.members j b found)
    by (inr new_one) =
        let same : k ≡ j = h.0 ∙ sym new_one.1 in
        inr (record {
          absent = new_one.0;
          place = new_one.1;
          few = subst (λ (n : ℕ). n < 256) same h.1;
          room = room;
          is = new_one.2 ∙ ap (λ (n : ℕ). new_member n room) same;
        })
from_join alloc room replied.Full old new j b h there = inl (from_same old new j b h.1 there)
from_join alloc room reply old new j b h there = absurd h

from_of : (here : Bool) (step : RoomStep) (reply : RoomReply) (old : RoomState) (performed : List (Entry PlainMediaEvent)) (new : RoomState) (j : ℕ) (b : MemberState)
    → ArePlaced old.members → TakesOf here step reply old performed new → slice_get new.members j ≡ Some b → ComesFrom old.members j b
from_of false step reply old performed new j b few h there = inl (from_same old new j b h.1.room_is there)
from_of true step reply old performed new j b few h there = inl (from_here step reply old performed new j b few h there)

pub from_step : (alloc : Global) (step : RoomStep) (reply : RoomReply) (old : RoomState) (performed : List (Entry PlainMediaEvent)) (new : RoomState)
    → ArePlaced old.members → TakesStep alloc step reply old performed new → (j : ℕ) (b : MemberState) → slice_get new.members j ≡ Some b → ComesFrom old.members j b
from_step alloc (Join room) reply old performed new few h j b there = from_join alloc room reply old new j b h.0 there
from_step alloc (Leave k) reply old performed new few h j b there = from_of (is_here k old.members) (Leave k) reply old performed new j b few h there
from_step alloc (Perform k step) reply old performed new few h j b there =
    from_of (is_here k old.members) (Perform k step) reply old performed new j b few h there
from_step alloc (Arrive k packet now) reply old performed new few h j b there =
    from_of (is_here k old.members) (Arrive k packet now) reply old performed new j b few h there
from_step alloc (Forward k) reply old performed new few h j b there = from_of (is_here k old.members) (Forward k) reply old performed new j b few h there
