-- Nothing that is performed on the pair of a member runs out of memory.
use Rattle.std.proofs.Common.{◌≡◌, ◌++◌, if◌then◌else◌, ℕ, Bool, true, false, List, [], ◌∷◌, take, drop, Option, Some, None, sym, ap, subst}
use Rattle.std.specs.declared.alloc.Global.{Global}
use Rattle.rtc_plain_media.specs.declared.plain_media_event.PlainMediaEvent.{PlainMediaEvent}
use Rattle.rtc_run_history.specs.Memory.{outcome_lacks}
use Rattle.rtc_run_history.specs.Past.{Entry}
use Rattle.rtc_run_laws.proofs.OutRuns.{AreLasting}
use Rattle.rtc_run.specs.ProgramPair.{PlainPairState}
use Rattle.rtc_room_laws.specs.Forwarding.{AreTaken, AreWritten, Forwards, WriteEnd, WriteRefused}
use Rattle.rtc_room_laws.specs.Members.{MemberState, is_here}
use Rattle.rtc_room_laws.specs.RoomRuns.{RoomWent, is_step_of, performed_of}
use Rattle.rtc_room_laws.specs.RoomSteps.{RoomEntry, RoomState, TakesHere, TakesOf, TakesStep}
use Rattle.rtc_room_laws.specs.declared.item.Item.{Item}
use Rattle.rtc_room_laws.specs.declared.room_reply.RoomReply.{RoomReply}
use Rattle.rtc_room_laws.specs.declared.room_reply.RoomReply.TheVariants as replied
use Rattle.rtc_room_laws.specs.declared.room_step.RoomStep.{RoomStep}
use Rattle.rtc_room_laws.specs.declared.room_step.RoomStep.TheVariants.{Join, Leave, Perform, Arrive, Forward}

more_last : (more past : List (Entry PlainMediaEvent)) → AreLasting more → AreLasting past → AreLasting (more ++ past)
more_last [] past h k = k
more_last (entry ∷ more) past h k = (h.0, more_last more past h.1 k)

taken_last : (c : ℕ) (items : List Item) (performed : List (Entry PlainMediaEvent)) → AreTaken c items performed → AreLasting performed
taken_last c items [] h = tt
taken_last c items (entry ∷ performed) h = (ap outcome_lacks h.4, taken_last c h.0 performed h.5)

written_last : (c : ℕ) (items : List Item) (end : Option WriteEnd) (left : List Item) (performed : List (Entry PlainMediaEvent))
    → AreWritten c items end left performed → AreLasting performed
written_last c items None left performed h = taken_last c items performed h.0
written_last c items (Some end) [] performed h = absurd h
written_last c items (Some end) (next ∷ left) [] h = absurd h
written_last c items (Some end) (next ∷ left) (entry ∷ performed) h = (h.3, taken_last c items performed h.0)

none_last : (performed : List (Entry PlainMediaEvent)) → performed ≡ [] → AreLasting performed
none_last performed none = subst (λ (l : List (Entry PlainMediaEvent)). AreLasting l) (sym none) tt

forwarded_last : (out : Bool) (line : Option ℕ) (member : MemberState) (before : PlainPairState) (reply : RoomReply) (performed : List (Entry PlainMediaEvent))
    (member' : MemberState) (after : PlainPairState) → Forwards out line member before reply performed member' after → AreLasting performed
forwarded_last true line member before replied.PutOut performed member' after h = none_last performed h.0
forwarded_last false None member before (replied.Forwarded taken) performed member' after h = none_last performed h.0
forwarded_last false (Some c) member before (replied.Forwarded taken) performed member' after h =
    written_last c (take taken member.queue) h.0 (drop taken member.queue) performed h.2.written
forwarded_last false (Some c) member before replied.PutOut performed member' after h =
    written_last c (take h.0 member.queue) (Some (WriteRefused h.1)) (drop h.0 member.queue) performed h.2.written
forwarded_last out line member before reply performed member' after h = absurd h

one_last : (entry : Entry PlainMediaEvent) (performed : List (Entry PlainMediaEvent)) → performed ≡ entry ∷ [] → outcome_lacks entry.outcome ≡ false
    → AreLasting performed
one_last entry performed is lasts = subst (λ (l : List (Entry PlainMediaEvent)). AreLasting l) (sym is) (lasts, tt)

here_last : (step : RoomStep) (reply : RoomReply) (old new : RoomState) (performed : List (Entry PlainMediaEvent)) → TakesHere step reply old performed new
    → AreLasting performed
here_last (Leave k) replied.Left old new performed h = none_last performed h.performed_is
here_last (Perform k step) replied.NotAllowed old new performed h = none_last performed h.1.performed_is
here_last (Perform k step) (replied.Performed reply) old new performed h = one_last _ performed h.1.pair.performed_is h.1.pair.lasts
here_last (Arrive k packet now) replied.NoMember old new performed h = none_last performed h.3.performed_is
here_last (Arrive k packet now) (replied.Performed reply) old new performed h = one_last _ performed h.1.pair.performed_is h.1.pair.lasts
here_last (Forward k) reply old new performed h =
    forwarded_last h.member.is_put_out h.member.line h.member h.before reply performed h.member' h.after h.forwards
here_last step reply old new performed h = absurd h

of_last : (here : Bool) (step : RoomStep) (reply : RoomReply) (old new : RoomState) (performed : List (Entry PlainMediaEvent))
    → TakesOf here step reply old performed new → AreLasting performed
of_last false step reply old new performed h = none_last performed h.1.performed_is
of_last true step reply old new performed h = here_last step reply old new performed h

step_last : (alloc : Global) (step : RoomStep) (reply : RoomReply) (old new : RoomState) (performed : List (Entry PlainMediaEvent))
    → TakesStep alloc step reply old performed new → AreLasting performed
step_last alloc (Join room) reply old new performed h = none_last performed h.1
step_last alloc (Leave k) reply old new performed h = of_last (is_here k old.members) (Leave k) reply old new performed h
step_last alloc (Perform k step) reply old new performed h = of_last (is_here k old.members) (Perform k step) reply old new performed h
step_last alloc (Arrive k packet now) reply old new performed h = of_last (is_here k old.members) (Arrive k packet now) reply old new performed h
step_last alloc (Forward k) reply old new performed h = of_last (is_here k old.members) (Forward k) reply old new performed h

pub room_last : (alloc : Global) (k : ℕ) (past : List RoomEntry) (room : RoomState) → RoomWent alloc past room → AreLasting (performed_of k past)
room_last alloc k [] room went = tt
room_last alloc k (entry ∷ past) room went = by (is_step_of k entry.step) (room_last alloc k past went.0 went.1)
  where
    by : (b : Bool) → AreLasting (performed_of k past) → AreLasting (if b then entry.performed ++ performed_of k past else performed_of k past)
    by true earlier =
        more_last entry.performed (performed_of k past) (step_last alloc entry.step entry.reply went.0 room entry.performed went.2) earlier
    by false earlier = earlier
