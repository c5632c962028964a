-- What each step of a room does, and the exact cause of each reply.
use Rattle.std.specs.Prelude.{◌≡◌, ◌≢◌, ◌≤◌, ◌<◌, ℕ, Bool, true, false, List, [], ◌∷◌, ◌++◌, length, Option, Some, slice_get, slice_set}
use Rattle.std.specs.declared.alloc.Global.{Global}
use Rattle.rtc_plain_ice.specs.Messages.{is_ice_message}
use Rattle.rtc_plain_media.specs.declared.plain_media_event.PlainMediaEvent.{PlainMediaEvent}
use Rattle.rtc_run.specs.OwnPackets.{own_packet}
use Rattle.rtc_run_history.specs.declared.reply.Reply.{Reply}
use Rattle.rtc_run_history.specs.declared.side.Side.TheVariants.{Left, Right}
use Rattle.rtc_run_history.specs.declared.step.Step.{Step}
use Rattle.rtc_run_history.specs.declared.step.Step.TheVariants.{Negotiate, AcceptOffer, AcceptAnswer, Time, Datagram, Poll, Drain}
use Rattle.rtc_run_history.specs.declared.step.Step.TheVariants.{Write, CloseChannel, Close, Rollback, ForeignOffer, ForeignAnswer, Raw}
use Rattle.rtc_run_history.specs.Fresh.{ArePeersFormed, IsFresh}
use Rattle.rtc_run_history.specs.Memory.{lacks_memory}
use Rattle.rtc_run_history.specs.PairState.{rtc_at}
use Rattle.rtc_run_history.specs.Past.{Entry}
use Rattle.rtc_run_history.specs.Performs.{Performs, sdps_behind}
use Rattle.rtc_run_history.specs.Sides.{same_side, side_of}
use Rattle.rtc_run.specs.NumberedPair.{IsNumberedPair}
use Rattle.rtc_run.specs.ProgramPair.{PlainPairState, plain_parts}
use Rattle.rtc_room_laws.specs.Accepting.{IsAddressee}
use Rattle.rtc_room_laws.specs.Forwarding.{Forwards}
use Rattle.rtc_room_laws.specs.Hearing.{members_behind}
use Rattle.rtc_room_laws.specs.Members.{MemberState, gone_member, is_here, new_member}
use Rattle.rtc_room_laws.specs.declared.room_reply.RoomReply.{RoomReply}
use Rattle.rtc_room_laws.specs.declared.room_reply.RoomReply.TheVariants as replied
use Rattle.rtc_room_laws.specs.declared.room_step.RoomStep.{RoomStep}
use Rattle.rtc_room_laws.specs.declared.room_step.RoomStep.TheVariants.{Join, Leave, Perform, Arrive, Forward}

-- The members that joined so far, also those that have left, and their pairs.
pub record RoomState : Type 0 where
  pub members : List MemberState
  pub pairs : List PlainPairState

-- nobody joined yet
abbrev pub empty_room : RoomState
empty_room = record { members = []; pairs = [] }

-- a step with its reply, and what was performed on the pair of its member, newest first
pub record RoomEntry : Type 0 where
  pub step : RoomStep
  pub reply : RoomReply
  pub performed : List (Entry PlainMediaEvent)

-- whether the pair of a member may perform a step: it takes nothing of anybody, and at the side of the hub no message and no datagram
abbrev pub is_allowed : Step → Bool
is_allowed (Negotiate at ops apply) = true
is_allowed (AcceptOffer at offer) = true
is_allowed (AcceptAnswer at token answer) = true
is_allowed (Time at now) = true
is_allowed (Datagram at packet now) = same_side at Right
is_allowed (Poll at) = true
is_allowed (Drain at) = true
is_allowed (Write at channel binary bytes) = same_side at Right
is_allowed (CloseChannel at channel) = true
is_allowed (Close at) = true
is_allowed (Rollback at token) = true
is_allowed (ForeignOffer at text) = false
is_allowed (ForeignAnswer at token text) = false
is_allowed (Raw at bytes now) = false

-- nothing changes, and nothing is performed
pub record NothingChanges (old : RoomState) (performed : List (Entry PlainMediaEvent)) (new : RoomState) : Type 0 where
  pub room_is : new ≡ old
  pub performed_is : performed ≡ []

-- the fresh pair of a new member
pub record IsNewPairOf (alloc : Global) (k : ℕ) (pair : PlainPairState) : Type 0 where
  pub numbered : IsNumberedPair alloc k pair
  pub fresh : IsFresh plain_parts pair
  pub formed : ArePeersFormed plain_parts pair

-- A member joins a room, unless 256 did before. It gets the next number, and the pair of this number.
abbrev pub JoinsRoom : Global → (room : ℕ) → RoomState → RoomReply → RoomState → Type 0
JoinsRoom alloc room old (replied.Joined k) new =
    (k ≡ length old.members)
    × (k < 256)
    × (pair : PlainPairState)
    × IsNewPairOf alloc k pair
    × (new ≡ record { members = old.members ++ new_member k room ∷ []; pairs = old.pairs ++ pair ∷ [] })
JoinsRoom alloc room old replied.Full new = (256 ≤ length old.members) × (new ≡ old)
JoinsRoom alloc room old reply new = ⊥

-- A step of the pair of one member, which does not run out of memory.
pub record PerformsAt (k : ℕ) (step : Step) (reply : Reply PlainMediaEvent) (pairs : List PlainPairState)
    (performed : List (Entry PlainMediaEvent)) (pairs' : List PlainPairState) : Type 0 where
  pub before : PlainPairState
  pub after : PlainPairState
  pub there : slice_get pairs k ≡ Some before
  pub performs : Performs plain_parts is_ice_message before step reply.outcome reply.table after
  pub lasts : lacks_memory reply ≡ false
  pub pairs_are : pairs' ≡ slice_set pairs k after
  pub performed_is : performed
      ≡ record { step = step; outcome = reply.outcome; table = reply.table; made = sdps_behind before.sdps after.sdps } ∷ []

-- A member that is here performs a step, and the hub hears what its left peer hands out.
pub record PerformsHere (k : ℕ) (step : Step) (reply : Reply PlainMediaEvent) (old : RoomState) (performed : List (Entry PlainMediaEvent))
    (new : RoomState) : Type 0 where
  pub member : MemberState
  pub here : slice_get old.members k ≡ Some member
  pub pair : PerformsAt k step reply old.pairs performed new.pairs
  pub members_are : new.members
      ≡ members_behind (side_of step) reply.outcome k member (rtc_at (side_of step) pair.after) old.members

-- What waits for a member that is here is written to its line, by at most 1024 writes.
pub record ForwardsHere (k : ℕ) (reply : RoomReply) (old : RoomState) (performed : List (Entry PlainMediaEvent)) (new : RoomState)
    : Type 0 where
  pub member : MemberState
  pub member' : MemberState
  pub here : slice_get old.members k ≡ Some member
  pub before : PlainPairState
  pub after : PlainPairState
  pub there : slice_get old.pairs k ≡ Some before
  pub forwards : Forwards member.is_put_out member.line member before reply performed member' after
  pub few : length performed ≤ 1024
  pub members_are : new.members ≡ slice_set old.members k member'
  pub pairs_are : new.pairs ≡ slice_set old.pairs k after

-- a member that is here leaves
pub record LeavesRoom (k : ℕ) (old : RoomState) (performed : List (Entry PlainMediaEvent)) (new : RoomState) : Type 0 where
  pub member : MemberState
  pub here : slice_get old.members k ≡ Some member
  pub room_is : new ≡ record old { members = slice_set old.members k (gone_member member) }
  pub performed_is : performed ≡ []

-- the datagram of a number that a member's right peer sent is for this member, or not
pub record IsFor (k packet now : ℕ) (old : RoomState) (found : Option ℕ) : Type 0 where
  pub sender : PlainPairState
  pub there : slice_get old.pairs k ≡ Some sender
  pub addressee : IsAddressee (own_packet sender.packets Right packet) now old.members old.pairs found

-- what a step of a member that is here does
abbrev pub TakesHere : RoomStep → RoomReply → RoomState → List (Entry PlainMediaEvent) → RoomState → Type 0
TakesHere (Leave k) replied.Left old performed new = LeavesRoom k old performed new
TakesHere (Perform k step) replied.NotAllowed old performed new = (is_allowed step ≡ false) × NothingChanges old performed new
TakesHere (Perform k step) (replied.Performed reply) old performed new =
    (is_allowed step ≡ true) × PerformsHere k step reply old performed new
TakesHere (Arrive k packet now) replied.NoMember old performed new =
    (found : Option ℕ) × IsFor k packet now old found × (found ≢ Some k) × NothingChanges old performed new
TakesHere (Arrive k packet now) (replied.Performed reply) old performed new =
    IsFor k packet now old (Some k) × PerformsHere k (Datagram Left packet now) reply old performed new
TakesHere (Forward k) reply old performed new = ForwardsHere k reply old performed new
TakesHere step reply old performed new = ⊥

-- a step of a member: of one that never joined or has left it changes nothing
abbrev pub TakesOf : (here : Bool) → RoomStep → RoomReply → RoomState → List (Entry PlainMediaEvent) → RoomState → Type 0
TakesOf false step reply old performed new = (reply ≡ replied.NoMember) × NothingChanges old performed new
TakesOf true step reply old performed new = TakesHere step reply old performed new

-- what a step does to a room
abbrev pub TakesStep : Global → RoomStep → RoomReply → RoomState → List (Entry PlainMediaEvent) → RoomState → Type 0
TakesStep alloc (Join room) reply old performed new = JoinsRoom alloc room old reply new × (performed ≡ [])
TakesStep alloc (Leave k) reply old performed new = TakesOf (is_here k old.members) (Leave k) reply old performed new
TakesStep alloc (Perform k step) reply old performed new =
    TakesOf (is_here k old.members) (Perform k step) reply old performed new
TakesStep alloc (Arrive k packet now) reply old performed new =
    TakesOf (is_here k old.members) (Arrive k packet now) reply old performed new
TakesStep alloc (Forward k) reply old performed new = TakesOf (is_here k old.members) (Forward k) reply old performed new

-- the same of the members and the pairs before and after, with what was performed
abbrev pub TakesRoomStep : Bool → RoomStep → RoomReply → List MemberState → List PlainPairState → List MemberState
    → List PlainPairState → Type 0
TakesRoomStep here step reply members pairs members' pairs' =
    (performed : List (Entry PlainMediaEvent))
    × TakesOf here step reply (record { members = members; pairs = pairs }) performed (record { members = members'; pairs = pairs' })
