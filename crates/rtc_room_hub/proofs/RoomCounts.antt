-- A room has as many members as pairs.
use Rattle.std.proofs.Common.{◌≡◌, ◌∙◌, ◌+◌, ℕ, Bool, true, false, List, [], ◌∷◌, length, refl, sym, ap, subst, length-append, length-set}
use Rattle.std.proofs.lemmas.List.{length-map}
use Rattle.std.specs.declared.alloc.Global.{Global}
use Rattle.rtc_plain_media.specs.declared.plain_media_event.PlainMediaEvent.{PlainMediaEvent}
use Rattle.rtc_run_history.specs.declared.outcome.Outcome.{Outcome}
use Rattle.rtc_run_history.specs.declared.outcome.Outcome.TheVariants.{Negotiated, Answered, Finished, Done, Wrote, Polled, Refused, NoSuch, Alloc}
use Rattle.rtc_run_history.specs.declared.reply.Reply.{Reply}
use Rattle.rtc_run_history.specs.declared.side.Side.{Side}
use Rattle.rtc_run_history.specs.declared.side.Side.TheVariants.{Left, Right}
use Rattle.rtc_run_history.specs.declared.step.Step.{Step}
use Rattle.rtc_run_history.specs.declared.step.Step.TheVariants.{Datagram}
use Rattle.rtc_run_history.specs.Past.{Entry}
use Rattle.rtc_run_history.specs.PairState.{rtc_at}
use Rattle.rtc_run_history.specs.Sides.{side_of}
use Rattle.rtc_run_laws.specs.PlainPairs.{PlainPolled}
use Rattle.rtc_room_laws.specs.Hearing.{members_after, members_behind}
use Rattle.rtc_room_laws.specs.Members.{MemberState, hearing_member, hearing_members, is_here}
use Rattle.rtc_room_laws.specs.RoomSteps.{JoinsRoom, PerformsHere, RoomState, TakesHere, TakesOf, TakesStep}
use Rattle.rtc_room_laws.specs.declared.item.Item.{Item}
use Rattle.rtc_room_laws.specs.declared.room_reply.RoomReply.{RoomReply}
use Rattle.rtc_room_laws.specs.declared.room_reply.RoomReply.TheVariants as replied
use Rattle.rtc_room_laws.specs.declared.room_step.RoomStep.{RoomStep}
use Rattle.rtc_room_laws.specs.declared.room_step.RoomStep.TheVariants.{Join, Leave, Perform, Arrive, Forward}

hearing_count : (sender room : ℕ) (items : List Item) (members : List MemberState) → length (hearing_members sender room items members) ≡ length members
hearing_count sender room [] members = refl
hearing_count sender room (item ∷ items) members = length-map members (hearing_member sender room (item ∷ items))

after_count : (outcome : Outcome PlainMediaEvent) (k : ℕ) (member : MemberState) (p : PlainPolled ℕ) (members : List MemberState)
    → length (members_after outcome k member p members) ≡ length members
after_count (Polled outputs end) k member p members = hearing_count k member.room _ _ ∙ length-set members k _
after_count (Negotiated answers made) k member p members = refl
after_count (Answered text) k member p members = refl
after_count Finished k member p members = refl
after_count Done k member p members = refl
after_count (Wrote taken) k member p members = refl
after_count (Refused error) k member p members = refl
after_count NoSuch k member p members = refl
after_count Alloc k member p members = refl

behind_count : (side : Side) (outcome : Outcome PlainMediaEvent) (k : ℕ) (member : MemberState) (p : PlainPolled ℕ) (members : List MemberState)
    → length (members_behind side outcome k member p members) ≡ length members
behind_count Left outcome k member p members = after_count outcome k member p members
behind_count Right outcome k member p members = refl

performs_count : (k : ℕ) (step : Step) (reply : Reply PlainMediaEvent) (old new : RoomState) (performed : List (Entry PlainMediaEvent))
    → PerformsHere k step reply old performed new → length old.members ≡ length old.pairs → length new.members ≡ length new.pairs
performs_count k step reply old new performed h same =
    ap length h.members_are
    ∙ behind_count (side_of step) reply.outcome k h.member (rtc_at (side_of step) h.pair.after) old.members
    ∙ same
    ∙ sym (length-set old.pairs k h.pair.after)
    ∙ sym (ap length h.pair.pairs_are)

kept_count : (old new : RoomState) → new ≡ old → length old.members ≡ length old.pairs → length new.members ≡ length new.pairs
kept_count old new is same = subst (λ (r : RoomState). length r.members ≡ length r.pairs) (sym is) same

takes_here_count : (step : RoomStep) (reply : RoomReply) (old new : RoomState) (performed : List (Entry PlainMediaEvent)) → TakesHere step reply old performed new
    → length old.members ≡ length old.pairs → length new.members ≡ length new.pairs
takes_here_count (Leave k) replied.Left old new performed h same =
    subst (λ (r : RoomState). length r.members ≡ length r.pairs) (sym h.room_is) (length-set old.members k _ ∙ same)
takes_here_count (Perform k step) replied.NotAllowed old new performed h same = kept_count old new h.1.room_is same
takes_here_count (Perform k step) (replied.Performed reply) old new performed h same = performs_count k step reply old new performed h.1 same
takes_here_count (Arrive k packet now) replied.NoMember old new performed h same = kept_count old new h.3.room_is same
takes_here_count (Arrive k packet now) (replied.Performed reply) old new performed h same = performs_count k (Datagram Left packet now) reply old new performed h.1 same
takes_here_count (Forward k) reply old new performed h same =
    ap length h.members_are ∙ length-set old.members k h.member' ∙ same ∙ sym (length-set old.pairs k h.after) ∙ sym (ap length h.pairs_are)
takes_here_count step reply old new performed h same = absurd h

takes_of_count : (here : Bool) (step : RoomStep) (reply : RoomReply) (old new : RoomState) (performed : List (Entry PlainMediaEvent)) → TakesOf here step reply old performed new
    → length old.members ≡ length old.pairs → length new.members ≡ length new.pairs
takes_of_count false step reply old new performed h same = kept_count old new h.1.room_is same
takes_of_count true step reply old new performed h same = takes_here_count step reply old new performed h same

joins_count : (alloc : Global) (room : ℕ) (reply : RoomReply) (old new : RoomState) → JoinsRoom alloc room old reply new
    → length old.members ≡ length old.pairs → length new.members ≡ length new.pairs
joins_count alloc room (replied.Joined k) old new h same =
    subst (λ (r : RoomState). length r.members ≡ length r.pairs) (sym h.4)
    (length-append old.members _ ∙ ap (λ (n : ℕ). n + 1) same ∙ sym (length-append old.pairs (h.2 ∷ [])))
joins_count alloc room replied.Full old new h same = kept_count old new h.1 same
joins_count alloc room reply old new h same = absurd h

pub takes_count : (alloc : Global) (step : RoomStep) (reply : RoomReply) (old new : RoomState) (performed : List (Entry PlainMediaEvent))
    → TakesStep alloc step reply old performed new → length old.members ≡ length old.pairs → length new.members ≡ length new.pairs
takes_count alloc (Join room) reply old new performed h same = joins_count alloc room reply old new h.0 same
takes_count alloc (Leave k) reply old new performed h same = takes_of_count (is_here k old.members) (Leave k) reply old new performed h same
takes_count alloc (Perform k step) reply old new performed h same = takes_of_count (is_here k old.members) (Perform k step) reply old new performed h same
takes_count alloc (Arrive k packet now) reply old new performed h same = takes_of_count (is_here k old.members) (Arrive k packet now) reply old new performed h same
takes_count alloc (Forward k) reply old new performed h same = takes_of_count (is_here k old.members) (Forward k) reply old new performed h same
