-- Runs of rooms, and what they performed on the pair of each member.
use Rattle.std.specs.Prelude.{◌≡◌, ◌==◌, if◌then◌else◌, ℕ, Bool, false, List, [], ◌∷◌, ◌++◌, Option, Some, None}
use Rattle.std.specs.Prelude.{slice_get}
use Rattle.std.specs.declared.alloc.Global.{Global}
use Rattle.rtc_plain_ice.specs.Messages.{is_ice_message}
use Rattle.rtc_plain_media.specs.declared.plain_media_event.PlainMediaEvent.{PlainMediaEvent}
use Rattle.rtc_run_history.specs.Past.{Entry}
use Rattle.rtc_run_history.specs.Runs.{EntersSoundly, Went}
use Rattle.rtc_run_history.specs.Sides.{same_side, side_of}
use Rattle.rtc_run_history.specs.declared.side.Side.TheVariants.{Left}
use Rattle.rtc_run.specs.ProgramPair.{PlainPairState, plain_parts}
use Rattle.rtc_room_laws.specs.Hearing.{line_behind, outcome_outputs}
use Rattle.rtc_room_laws.specs.Members.{MemberState}
use Rattle.rtc_room_laws.specs.RoomSteps.{IsNewPairOf, RoomEntry, RoomState, TakesStep, empty_room}
use Rattle.rtc_room_laws.specs.declared.room_reply.RoomReply.{RoomReply}
use Rattle.rtc_room_laws.specs.declared.room_step.RoomStep.{RoomStep}
use Rattle.rtc_room_laws.specs.declared.room_step.RoomStep.TheVariants.{Join, Leave, Perform, Arrive, Forward}

-- a room passes through a past, newest entry first, from an empty room on
abbrev pub RoomWent : Global → List RoomEntry → RoomState → Type 0
RoomWent alloc [] room = room ≡ empty_room
RoomWent alloc (entry ∷ past) room =
    (between : RoomState) × RoomWent alloc past between × TakesStep alloc entry.step entry.reply between entry.performed room

abbrev pub room_steps : List RoomEntry → List RoomStep
room_steps [] = []
room_steps (entry ∷ past) = room_steps past ++ entry.step ∷ []

abbrev pub room_replies : List RoomEntry → List RoomReply
room_replies [] = []
room_replies (entry ∷ past) = room_replies past ++ entry.reply ∷ []

-- whether a step is one of a member
abbrev pub is_step_of : ℕ → RoomStep → Bool
is_step_of k (Join room) = false
is_step_of k (Leave member) = member == k
is_step_of k (Perform member step) = member == k
is_step_of k (Arrive member packet now) = member == k
is_step_of k (Forward member) = member == k

-- what was performed on the pair of a member, newest first
abbrev pub performed_of : ℕ → List RoomEntry → List (Entry PlainMediaEvent)
performed_of k [] = []
performed_of k (entry ∷ past) =
    if is_step_of k entry.step then entry.performed ++ performed_of k past else performed_of k past

-- The pair of a member was made for its number, and went from step to step, each of them sound, by what was performed on it.
pub record MemberRan (alloc : Global) (k : ℕ) (past : List RoomEntry) (pair : PlainPairState) : Type 0 where
  pub start : PlainPairState
  pub made : IsNewPairOf alloc k start
  pub went : Went (EntersSoundly plain_parts is_ice_message start) (λ fresh. fresh ≡ start) (performed_of k past) pair

-- The line of a member behind a step of its pair, which left the pair so, and behind all its steps: by what the left peer announced, and
-- by the configs of channels as each step left them.
abbrev pub line_entered : Entry PlainMediaEvent → PlainPairState → Option ℕ → Option ℕ
line_entered entry pair line =
    if same_side (side_of entry.step) Left then line_behind pair.left line (outcome_outputs entry.outcome) else line

abbrev pub line_along : (start : PlainPairState) (past : List (Entry PlainMediaEvent)) (pair : PlainPairState)
    → Went (EntersSoundly plain_parts is_ice_message start) (λ fresh. fresh ≡ start) past pair → Option ℕ
line_along start [] pair went = None
line_along start (entry ∷ past) pair went = line_entered entry pair (line_along start past went.0 went.1)

-- A run by these steps, with these replies, which left these pairs. The line of a member is that behind the steps of its pair.
pub record RoomRuns (alloc : Global) (steps : List RoomStep) (replies : List RoomReply) (pairs : List PlainPairState) : Type 0 where
  pub past : List RoomEntry
  pub steps_are : room_steps past ≡ steps
  pub replies_are : room_replies past ≡ replies
  pub room : RoomState
  pub went : RoomWent alloc past room
  pub pairs_are : room.pairs ≡ pairs
  pub members : (k : ℕ) (pair : PlainPairState) → slice_get pairs k ≡ Some pair → MemberRan alloc k past pair
  pub lines : (k : ℕ) (pair : PlainPairState) (there : slice_get pairs k ≡ Some pair) (member : MemberState)
      → slice_get room.members k ≡ Some member
      → member.line ≡ line_along (members k pair there).start (performed_of k past) pair (members k pair there).went
