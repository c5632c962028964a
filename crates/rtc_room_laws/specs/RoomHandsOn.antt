-- That the hub hands on what it hears: what a member got of another one is a prefix of what the hub heard of that one while both were in
-- one room, which is a contiguous stretch of what that one wrote.
use Rattle.std.specs.Prelude.{◌≡◌, ◌≢◌, ◌⊎◌, ◌==◌, ◌&&◌, ◌++◌, not, if◌then◌else◌, ℕ, Bool, true, false, List, [], ◌∷◌, map, Option, Some}
use Rattle.std.specs.Prelude.{None, slice_get}
use Rattle.std.specs.declared.alloc.Global.{Global}
use Rattle.rtc_parts.specs.Among.{Member}
use Rattle.rtc_plain_ice.specs.Messages.{is_ice_message}
use Rattle.rtc_plain_media.specs.declared.plain_media_event.PlainMediaEvent.{PlainMediaEvent}
use Rattle.rtc_assoc.specs.Unread.{IsPrefix}
use Rattle.rtc_assoc_state.specs.Outbox.{has_unacknowledged}
use Rattle.rtc_peer_transport.specs.ChannelCalls.{open_stream_under}
use Rattle.rtc_run_history.specs.Past.{steps_of}
use Rattle.rtc_run_history.specs.Sides.{same_side, side_of}
use Rattle.rtc_run_history.specs.declared.reply.Reply.{Reply}
use Rattle.rtc_run_history.specs.declared.side.Side.{Side}
use Rattle.rtc_run_history.specs.declared.side.Side.TheVariants.{Left, Right}
use Rattle.rtc_run_history.specs.declared.step.Step.{Step}
use Rattle.rtc_run_laws.specs.ChannelUses.{ChannelUse}
use Rattle.rtc_run_laws.specs.Delivered.{KeepsStream}
use Rattle.rtc_run_laws.specs.InBandSteps.{AreInBandStepsAt}
use Rattle.rtc_run_laws.specs.PastUses.{IsPastUse}
use Rattle.rtc_run_laws.specs.PlainPairs.{PlainPolled}
use Rattle.rtc_run_laws.specs.SentMessages.{sent_over}
use Rattle.rtc_run_laws.specs.SideDrains.{IsSideDrained}
use Rattle.rtc_run_laws.specs.Unannounced.{HaveNumbersLeft, IsAnnouncedOver}
use Rattle.rtc_run_laws.specs.UsesOfRuns.{reached_by, uses_of}
use Rattle.rtc_run.specs.ProgramPair.{PlainPairState, plain_parts}
use Rattle.rtc_room_laws.specs.Hearing.{heard_in, outcome_outputs}
use Rattle.rtc_room_laws.specs.Members.{MemberState}
use Rattle.rtc_room_laws.specs.RoomRuns.{MemberRan, RoomRuns, RoomWent, performed_of}
use Rattle.rtc_room_laws.specs.RoomSteps.{RoomEntry, RoomState}
use Rattle.rtc_room_laws.specs.declared.room_reply.RoomReply.{RoomReply}
use Rattle.rtc_room_laws.specs.declared.room_reply.RoomReply.TheVariants.{Performed}
use Rattle.rtc_room_laws.specs.declared.room_step.RoomStep.{RoomStep}
use Rattle.rtc_room_laws.specs.declared.room_step.RoomStep.TheVariants.{Arrive, Perform}
use Rattle.rtc_room_laws.specs.ItemMessages.{LineMessage, messages_from}

-- ---- what the hub heard

abbrev pub are_of_one_room : Option MemberState → Option MemberState → Bool
are_of_one_room (Some a) (Some b) = (a.room == b.room) && (not a.has_left && not b.has_left)
are_of_one_room (Some a) None = false
are_of_one_room None b = false

-- two members joined one room, and neither has left
abbrev pub are_together : (s m : ℕ) → RoomState → Bool
are_together s m room = are_of_one_room (slice_get room.members s) (slice_get room.members m)

-- the messages that a member's left peer handed out on its line, in outputs that left its pair so
abbrev pub messages_told : ℕ → Option MemberState → Option PlainPairState → Reply PlainMediaEvent → List LineMessage
messages_told s (Some member) (Some pair) reply =
    map (λ item. (item.binary, item.bytes)) (heard_in s pair.left member.line (outcome_outputs reply.outcome))
messages_told s (Some member) None reply = []
messages_told s None pair reply = []

-- the same in a step that led from one room to another: only steps of the left peer hand out something there
abbrev pub entry_told : ℕ → RoomStep → RoomReply → RoomState → RoomState → List LineMessage
entry_told s (Perform k step) (Performed reply) old new =
    if (k == s) && same_side (side_of step) Left then messages_told s (slice_get old.members s) (slice_get new.pairs s) reply else []
entry_told s (Arrive k packet now) (Performed reply) old new =
    if k == s then messages_told s (slice_get old.members s) (slice_get new.pairs s) reply else []
entry_told s step reply old new = []

-- What the hub heard of a member for another one: what the member's left peer handed out on its line at steps when both had joined one room
-- and neither had left.
abbrev pub heard_for : (alloc : Global) (s m : ℕ) (past : List RoomEntry) (room : RoomState) → RoomWent alloc past room → List LineMessage
heard_for alloc s m [] room went = []
heard_for alloc s m (entry ∷ past) room went =
    heard_for alloc s m past went.0 went.1
    ++ (if are_together s m went.0 then entry_told s entry.step entry.reply went.0 room else [])

-- ---- lines

-- the first channel of this number that was announced
abbrev pub first_use : (channel : ℕ) → List ChannelUse → Option ChannelUse
first_use channel [] = None
first_use channel (x ∷ uses) = if x.channel == channel then Some x else first_use channel uses

-- The hub's end of a member's line: the channel that the hub found, as its peer announced it.
pub record IsHubEnd (line : Option ℕ) (hub : List ChannelUse) (x : ChannelUse) : Type 0 where
  pub channel : ℕ
  pub line_is : line ≡ Some channel
  pub first : first_use channel hub ≡ Some x

-- Its two ends: the hub's, and the channel of the same stream and generation that the member's own peer announced. That was opened in-band
-- too. This is asked only if the stream is past the generation at the member's peer, which is `own`, and only if a step of this peer added
-- a channel that is negotiated out-of-band.
pub record AreLineEnds (line : Option ℕ) (steps : List Step) (hub member : List ChannelUse) (own : PlainPolled ℕ) (x y : ChannelUse)
    : Type 0 where
  pub hub_end : IsHubEnd line hub x
  pub other : Member y member
  pub other_in_band : IsPastUse y own → AreInBandStepsAt Right steps ⊎ (y.in_band ≡ true)
  pub stream_is : y.stream ≡ x.stream
  pub generation_is : y.generation ≡ x.generation

-- the channels that a side of a member's pair announced
abbrev pub uses_at : (alloc : Global) (k : ℕ) (past : List RoomEntry) (pair : PlainPairState) → MemberRan alloc k past pair → Side
    → List ChannelUse
uses_at alloc k past pair ran at =
    uses_of plain_parts is_ice_message ran.start at (performed_of k past) pair
    (reached_by plain_parts is_ice_message ran.start (performed_of k past) pair ran.went)

-- the messages that a side of a member's pair wrote to a stream in a generation, and that were taken
abbrev pub sent_at : (alloc : Global) (k : ℕ) (past : List RoomEntry) (pair : PlainPairState) → MemberRan alloc k past pair → Side
    → (stream generation : ℕ) → List LineMessage
sent_at alloc k past pair ran at =
    sent_over plain_parts is_ice_message ran.start at (performed_of k past) pair
    (reached_by plain_parts is_ice_message ran.start (performed_of k past) pair ran.went)

-- the hub's end of a member's line, and both ends, in the run of its pair
abbrev pub IsHubEndOf : (alloc : Global) (k : ℕ) (past : List RoomEntry) (pair : PlainPairState) → MemberRan alloc k past pair
    → Option ℕ → (x : ChannelUse) → Type 0
IsHubEndOf alloc k past pair ran line x = IsHubEnd line (uses_at alloc k past pair ran Left) x

abbrev pub AreLineEndsOf : (alloc : Global) (k : ℕ) (past : List RoomEntry) (pair : PlainPairState) → MemberRan alloc k past pair
    → Option ℕ → (x y : ChannelUse) → Type 0
AreLineEndsOf alloc k past pair ran line x y =
    AreLineEnds line (steps_of (performed_of k past)) (uses_at alloc k past pair ran Left) (uses_at alloc k past pair ran Right) pair.right
    x y

-- both peers have the stream of a line still, and neither closed it; the member's end is open
pub record KeepsLine (y : ChannelUse) (q : PlainPolled ℕ) (x : ChannelUse) (p : PlainPolled ℕ) : Type 0 where
  pub reader : KeepsStream y q
  pub there : open_stream_under y.channel q ≡ Some reader.stream
  pub writer : KeepsStream x p

-- a contiguous stretch of a list
pub record IsStretch {A : Type 0} (part whole : List A) : Type 0 where
  pub before : List A
  pub behind : List A
  pub is : whole ≡ before ++ (part ++ behind)

-- what was heard is a contiguous stretch of what was written to the stream of a channel, in its generation
pub record IsHeardOver (heard : List LineMessage) (x : ChannelUse) (written : (stream generation : ℕ) → List LineMessage) : Type 0 where
  pub stream : ℕ
  pub stream_is : x.stream ≡ Some stream
  pub stretch : IsStretch heard (written stream x.generation)

-- ---- the theorem

module _ (alloc : Global) (past : List RoomEntry) (room : RoomState) (went : RoomWent alloc past room) where
  -- What a member got of another one over its line is a prefix of what the hub heard of that one for it, and nothing if their rooms differ.
  -- A member received all that was heard, if: it has not left and was not put out; its queue is empty; neither end of its line was closed,
  -- and its own is open; the hub has no unacknowledged item of the line; a poll of its own peer returned a timeout since its last input.
  pub record GetsOf (s m : ℕ) (listener : MemberState) (pair : PlainPairState) (ran : MemberRan alloc m past pair) : Type 0 where
    pub prefix : (x y : ChannelUse) → AreLineEndsOf alloc m past pair ran listener.line x y
        → IsPrefix (messages_from s y.got) (heard_for alloc s m past room went)
    pub apart : (sender : MemberState) → slice_get room.members s ≡ Some sender → sender.room ≢ listener.room → (x y : ChannelUse)
        → AreLineEndsOf alloc m past pair ran listener.line x y → messages_from s y.got ≡ []
    pub all : listener.has_left ≡ false → listener.is_put_out ≡ false → listener.queue ≡ [] → (x y : ChannelUse)
        → AreLineEndsOf alloc m past pair ran listener.line x y → IsSideDrained Right (performed_of m past)
        → (h : KeepsLine y pair.right x pair.left)
        → has_unacknowledged h.writer.stream pair.left.core.sctp.association.outbox.items ≡ false
        → messages_from s y.got ≡ heard_for alloc s m past room went

  -- Nothing is heard of a member without a line, and the line of a member was announced at the hub. What the hub heard of the member is a
  -- contiguous stretch of what its own peer wrote to the stream of the line in the generation of this, whatever channels that peer
  -- announced. If it announced none over that generation, nothing was heard, unless no number was left for a channel. If it did, and no
  -- rollback removed its channel, what was heard is a stretch of what was sent over this.
  pub record IsHeardOf (s m : ℕ) (speaker : MemberState) (pair : PlainPairState) (ran : MemberRan alloc s past pair) : Type 0 where
    pub none : speaker.line ≡ None → heard_for alloc s m past room went ≡ []
    pub found : (channel : ℕ) → speaker.line ≡ Some channel
        → (x : ChannelUse) × (first_use channel (uses_at alloc s past pair ran Left) ≡ Some x)
    pub stretch : (x : ChannelUse) → IsHubEndOf alloc s past pair ran speaker.line x
        → IsHeardOver (heard_for alloc s m past room went) x (sent_at alloc s past pair ran Right)
    pub silent : HaveNumbersLeft pair → (x : ChannelUse) → IsHubEndOf alloc s past pair ran speaker.line x → (stream : ℕ)
        → x.stream ≡ Some stream
        → (heard_for alloc s m past room went ≡ []) ⊎ IsAnnouncedOver stream x.generation (uses_at alloc s past pair ran Right)
    pub over : (x y : ChannelUse) → AreLineEndsOf alloc s past pair ran speaker.line x y → y.rolled_back ≡ false
        → IsStretch (heard_for alloc s m past room went) y.sent

-- For each two members of a run: what the one got of the other, and what the hub heard of it.
pub record RoomHandsOn (alloc : Global) (steps : List RoomStep) (replies : List RoomReply) (pairs : List PlainPairState)
    (run : RoomRuns alloc steps replies pairs) : Type 0 where
  pub gets : (s m : ℕ) → s ≢ m → (listener : MemberState) → slice_get run.room.members m ≡ Some listener
      → (pair : PlainPairState) (there : slice_get pairs m ≡ Some pair)
      → GetsOf alloc run.past run.room run.went s m listener pair (run.members m pair there)
  pub heard : (s m : ℕ) → s ≢ m → (speaker : MemberState) → slice_get run.room.members s ≡ Some speaker
      → (pair : PlainPairState) (there : slice_get pairs s ≡ Some pair)
      → IsHeardOf alloc run.past run.room run.went s m speaker pair (run.members s pair there)
