-- The members of rooms, and the messages that wait for them.
use Rattle.std.specs.Prelude.{◌+◌, ◌==◌, ◌&&◌, not, nat_lt, if◌then◌else◌, ℕ, Bool, true, false, List, [], ◌∷◌, ◌++◌, length, map}
use Rattle.std.specs.Prelude.{slice_get}
use Rattle.std.specs.Prelude.{Option, Some, None}
use Rattle.std.specs.Int.{w32, to_be_bytes}
use Rattle.rtc_room_laws.specs.declared.item.Item.{Item}

-- whether a message is binary, as a byte
abbrev pub binary_byte : Bool → ℕ
binary_byte true = 1
binary_byte false = 0

-- an item as it is written: the number of its sender in four bytes, whether it is binary, and its bytes
abbrev pub item_bytes : Item → List ℕ
item_bytes item = to_be_bytes w32 item.sender ++ binary_byte item.binary ∷ item.bytes

-- A member without its pair: its number and room, whether it has left or was put out, the number of its line at the hub once it has
-- one, and what waits for it.
pub record MemberState : Type 0 where
  pub number : ℕ
  pub room : ℕ
  pub has_left : Bool
  pub is_put_out : Bool
  pub line : Option ℕ
  pub queue : List Item

abbrev pub new_member : (number room : ℕ) → MemberState
new_member number room =
    record { number = number; room = room; has_left = false; is_put_out = false; line = None; queue = [] }

abbrev pub gone_member : MemberState → MemberState
gone_member member = record member { has_left = true; queue = [] }

abbrev pub put_out_member : MemberState → MemberState
put_out_member member = record member { is_put_out = true; queue = [] }

-- items wait for a member, which is put out if there would be more than 1024
abbrev pub with_items : List Item → MemberState → MemberState
with_items items member =
    if nat_lt 1024 (length member.queue + length items) then put_out_member member else record member { queue = member.queue ++ items }

-- whether a message of a sender in a room is for a member: another one of the room, which has not left and was not put out
abbrev pub is_for_member : (sender room : ℕ) → MemberState → Bool
is_for_member sender room member =
    not (member.number == sender) && ((member.room == room) && (not member.has_left && not member.is_put_out))

-- a member, once these items of a sender in a room were heard
abbrev pub hearing_member : (sender room : ℕ) → List Item → MemberState → MemberState
hearing_member sender room items member = if is_for_member sender room member then with_items items member else member

-- what was heard of a sender waits for the others
abbrev pub hearing_members : (sender room : ℕ) → List Item → List MemberState → List MemberState
hearing_members sender room [] members = members
hearing_members sender room (item ∷ items) members = map (hearing_member sender room (item ∷ items)) members

-- whether a member of this number joined and has not left
abbrev pub is_present : Option MemberState → Bool
is_present None = false
is_present (Some member) = not member.has_left

abbrev pub is_here : ℕ → List MemberState → Bool
is_here number members = is_present (slice_get members number)
