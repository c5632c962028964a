-- What a forward writes to the line of a member.
use Rattle.std.specs.Prelude.{◌≡◌, ◌≤◌, ℕ, Bool, true, false, List, [], ◌∷◌, ◌++◌, length, take, drop, Option, Some, None}
use Rattle.rtc_plain_ice.specs.Messages.{is_ice_message}
use Rattle.rtc_plain_media.specs.declared.plain_media_event.PlainMediaEvent.{PlainMediaEvent}
use Rattle.rtc_peer_core.specs.declared.rtc_error.RtcError.{RtcError}
use Rattle.rtc_run_history.specs.declared.outcome.Outcome.{Outcome}
use Rattle.rtc_run_history.specs.declared.outcome.Outcome.TheVariants.{Wrote, Refused, NoSuch}
use Rattle.rtc_run_history.specs.declared.side.Side.TheVariants.{Left}
use Rattle.rtc_run_history.specs.declared.step.Step.{Step}
use Rattle.rtc_run_history.specs.declared.step.Step.TheVariants.{Write}
use Rattle.rtc_run_history.specs.Memory.{outcome_lacks}
use Rattle.rtc_run_history.specs.Past.{Entry}
use Rattle.rtc_run_history.specs.Runs.{Reached}
use Rattle.rtc_run.specs.ProgramPair.{PlainPairState, plain_parts}
use Rattle.rtc_room_laws.specs.Members.{MemberState, item_bytes, put_out_member}
use Rattle.rtc_room_laws.specs.declared.item.Item.{Item}
use Rattle.rtc_room_laws.specs.declared.room_reply.RoomReply.{RoomReply}
use Rattle.rtc_room_laws.specs.declared.room_reply.RoomReply.TheVariants.{Forwarded, PutOut}

-- the step that writes an item to the line of a member
abbrev pub write_of : (line : ℕ) → Item → Step
write_of line item = Write Left line true (item_bytes item)

-- these items were written to a line, one in each entry (a past has its newest entry first), and each was taken
abbrev pub AreTaken : (line : ℕ) → List Item → List (Entry PlainMediaEvent) → Type 0
AreTaken line items [] = items ≡ []
AreTaken line items (entry ∷ past) =
    (front : List Item)
    × (last : Item)
    × (items ≡ front ++ last ∷ [])
    × (entry.step ≡ write_of line last)
    × (entry.outcome ≡ Wrote true)
    × AreTaken line front past

-- why an item was not taken: there is no room for it, the line is not open, or its write was refused
pub data WriteEnd : Type 0 where
  NotTaken : WriteEnd
  NotOpen : WriteEnd
  WriteRefused : RtcError → WriteEnd

abbrev pub end_outcome : WriteEnd → Outcome PlainMediaEvent
end_outcome NotTaken = Wrote false
end_outcome NotOpen = NoSuch
end_outcome (WriteRefused error) = Refused error

abbrev pub is_write_refused : Option WriteEnd → Bool
is_write_refused None = false
is_write_refused (Some NotTaken) = false
is_write_refused (Some NotOpen) = false
is_write_refused (Some (WriteRefused error)) = true

-- items were taken, and none is left; or the next one was not, and its write did not run out of memory
abbrev pub AreWritten : (line : ℕ) → List Item → Option WriteEnd → (left : List Item) → List (Entry PlainMediaEvent) → Type 0
AreWritten line items None left past = AreTaken line items past × (left ≡ [])
AreWritten line items (Some end) [] past = ⊥
AreWritten line items (Some end) (next ∷ left) [] = ⊥
AreWritten line items (Some end) (next ∷ left) (entry ∷ past) =
    AreTaken line items past
    × (entry.step ≡ write_of line next)
    × (entry.outcome ≡ end_outcome end)
    × (outcome_lacks entry.outcome ≡ false)

-- so many of the items that wait for a member were written to its line, up to the one that was not taken, if one was not
pub record SendsItems (line : ℕ) (queue : List Item) (taken : ℕ) (end : Option WriteEnd) (before : PlainPairState)
    (performed : List (Entry PlainMediaEvent)) (after : PlainPairState) : Type 0 where
  pub counted : taken ≤ length queue
  pub went : Reached plain_parts is_ice_message before performed after
  pub written : AreWritten line (take taken queue) end (drop taken queue) performed
  pub few : length performed ≤ length queue

-- A forward writes what waits for a member to its line. One who was put out stays so; without a line nothing is written; one whose write is
-- refused is put out.
abbrev pub Forwards : (is_put_out : Bool) → (line : Option ℕ) → MemberState → PlainPairState → RoomReply
    → List (Entry PlainMediaEvent) → MemberState → PlainPairState → Type 0
Forwards true line member before PutOut performed member' after = (performed ≡ []) × (member' ≡ member) × (after ≡ before)
Forwards false None member before (Forwarded taken) performed member' after =
    (performed ≡ []) × (member' ≡ member) × (after ≡ before) × (taken ≡ 0)
Forwards false (Some line) member before (Forwarded taken) performed member' after =
    (end : Option WriteEnd)
    × (is_write_refused end ≡ false)
    × SendsItems line member.queue taken end before performed after
    × (member' ≡ record member { queue = drop taken member.queue })
Forwards false (Some line) member before PutOut performed member' after =
    (taken : ℕ)
    × (error : RtcError)
    × SendsItems line member.queue taken (Some (WriteRefused error)) before performed after
    × (member' ≡ put_out_member member)
Forwards is_put_out line member before reply performed member' after = ⊥
