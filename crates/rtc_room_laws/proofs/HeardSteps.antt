-- What a step of a member's pair tells the hub, for a speaker and a listener.
use Rattle.std.proofs.Common.{◌≡◌, ◌≢◌, ◌∙◌, ◌==◌, ◌&&◌, ◌++◌, if◌then◌else◌, ℕ, Bool, true, false, List, [], ◌∷◌, map, Option, Some, None, refl, sym, ap, subst, append-nil}
use Rattle.std.specs.Prelude.{not, slice_get}
use Rattle.std.proofs.lemmas.Bool.{eqb-true}
use Rattle.rtc_plain_media.specs.declared.plain_media_event.PlainMediaEvent.{PlainMediaEvent}
use Rattle.rtc_peer_transport.specs.declared.channel_data.ChannelData.{ChannelData as ChannelMessage}
use Rattle.rtc_peer_transport.specs.declared.event.Event.{Event}
use Rattle.rtc_peer_transport.specs.declared.event.Event.TheVariants as events
use Rattle.rtc_run_history.specs.declared.outcome.Outcome.{Outcome}
use Rattle.rtc_run_history.specs.declared.outcome.Outcome.TheVariants.{Negotiated, Answered, Finished, Done, Wrote, Polled, Refused, NoSuch, Alloc}
use Rattle.rtc_run_history.specs.declared.reply.Reply.{Reply}
use Rattle.rtc_run_history.specs.declared.shown.Shown.{Shown}
use Rattle.rtc_run_history.specs.declared.shown.Shown.TheVariants as shows
use Rattle.rtc_run_history.specs.declared.side.Side.{Side}
use Rattle.rtc_run_history.specs.declared.side.Side.TheVariants.{Left, Right}
use Rattle.rtc_run_history.specs.Sides.{same_side}
use Rattle.rtc_run_laws.specs.PlainPairs.{PlainPolled}
use Rattle.rtc_run.specs.ProgramPair.{PlainPairState}
use Rattle.rtc_room_laws.specs.RoomHandsOn.{are_of_one_room, messages_told}
use Rattle.rtc_room_laws.specs.Hearing.{event_heard, heard_in, heard_shown, line_behind, line_shown, members_after, members_behind, message_heard, outcome_outputs}
use Rattle.rtc_room_laws.specs.ItemMessages.{LineMessage}
use Rattle.rtc_room_laws.specs.Members.{MemberState, is_present}
use Rattle.rtc_room_laws.specs.declared.item.Item.{Item}
use Rattle.rtc_room_laws.proofs.DueItems.{AreOf, IsDue}
use Rattle.rtc_room_laws.proofs.ItemTexts.{item_message}
use Rattle.rtc_room_laws.proofs.MembersHear.{due_told, some_is, told_of}

-- ---- the items of a speaker

message_of_sender : (message : ChannelMessage) (sender : ℕ) (line : Option ℕ) → AreOf sender (message_heard message sender line)
message_of_sender message sender None = tt
message_of_sender message sender (Some line) = by (line == message.id)
  where
    by : (b : Bool) → AreOf sender (if b then record { sender = sender; binary = message.binary; bytes = message.bytes } ∷ [] else [])
    by true = (refl, tt)
    by false = tt

event_of_sender : (event : Event PlainMediaEvent) (sender : ℕ) (line : Option ℕ) → AreOf sender (event_heard event sender line)
event_of_sender (events.ChannelData message) sender line = message_of_sender message sender line
event_of_sender events.Connected sender line = tt
event_of_sender (events.IceConnectionStateChange state) sender line = tt
event_of_sender (events.ChannelOpen id label) sender line = tt
event_of_sender (events.ChannelClose id) sender line = tt
event_of_sender (events.ChannelBufferedAmountLow id) sender line = tt
event_of_sender (events.PeerStats stats) sender line = tt
event_of_sender (events.MediaIngressStats stats) sender line = tt
event_of_sender (events.MediaEgressStats stats) sender line = tt
event_of_sender (events.Media event) sender line = tt
event_of_sender events.Closed sender line = tt

shown_of_sender : (shown : Shown PlainMediaEvent) (sender : ℕ) (line : Option ℕ) → AreOf sender (heard_shown shown sender line)
shown_of_sender (shows.Event event) sender line = event_of_sender event sender line
shown_of_sender (shows.Timeout moment reason) sender line = tt
shown_of_sender (shows.Packet number len) sender line = tt

are_of-append : (sender : ℕ) (items more : List Item) → AreOf sender items → AreOf sender more → AreOf sender (items ++ more)
are_of-append sender [] more h k = k
are_of-append sender (item ∷ items) more h k = (h.0, are_of-append sender items more h.1 k)

pub heard_of_sender : (sender : ℕ) (p : PlainPolled ℕ) (line : Option ℕ) (outputs : List (Shown PlainMediaEvent)) → AreOf sender (heard_in sender p line outputs)
heard_of_sender sender p line [] = tt
heard_of_sender sender p line (shown ∷ outputs) =
    are_of-append sender (heard_shown shown sender line) (heard_in sender p (line_shown shown p line) outputs) (shown_of_sender shown sender line)
    (heard_of_sender sender p (line_shown shown p line) outputs)

-- ---- what an entry tells

-- a member that is here has not left
pub present_stays : (found : Option MemberState) (member : MemberState) → is_present found ≡ true → found ≡ Some member → member.has_left ≡ false
present_stays None member here is = absurd (let bad : None ≡ Some member = is in cc)
present_stays (Some one) member here is = by one.has_left here (ap (λ (m : MemberState). m.has_left) (some_is one member is))
  where
    by : (left : Bool) → not left ≡ true → left ≡ member.has_left → member.has_left ≡ false
    by true h e = absurd (let bad : false ≡ true = h in cc)
    by false h e = sym e

nothing_told : (b : Bool) (l : List LineMessage) → l ≡ [] → (if b then l else []) ≡ []
nothing_told true l e = e
nothing_told false l e = refl

-- what is told of a speaker to a listener is what the hub hears of it while both are in one room
pub told_together : (s k : ℕ) (left : Bool) (reply : Reply PlainMediaEvent) (speaker listener : MemberState) (members : List MemberState) (pairs : List PlainPairState)
    (after : PlainPairState) (m : ℕ) → slice_get members k ≡ Some speaker → slice_get members m ≡ Some listener → speaker.has_left ≡ false
    → slice_get pairs k ≡ Some after
    → (if are_of_one_room (slice_get members s) (slice_get members m)
    then (if (k == s) && left then messages_told s (slice_get members s) (slice_get pairs s) reply else [])
    else [])
    ≡ told_of s k speaker listener (if left then heard_in k after.left speaker.line (outcome_outputs reply.outcome) else [])
told_together s k left reply speaker listener members pairs after m here there present pair_there = by (k == s) refl
  where
    said : List Item
    said = heard_in k after.left speaker.line (outcome_outputs reply.outcome)

    messages_if : (b : Bool) → map item_message (if b then said else []) ≡ (if b then map item_message said else [])
    messages_if true = refl
    messages_if false = refl

    told_is : k ≡ s → messages_told s (slice_get members s) (slice_get pairs s) reply ≡ map item_message said
    told_is same =
        ap (λ (n : ℕ). messages_told n (slice_get members n) (slice_get pairs n) reply) (sym same)
        ∙ ap (λ (o : Option MemberState). messages_told k o (slice_get pairs k) reply) here
        ∙ ap (λ (o : Option PlainPairState). messages_told k (Some speaker) o reply) pair_there

    room_is : k ≡ s → are_of_one_room (slice_get members s) (slice_get members m) ≡ ((speaker.room == listener.room) && not listener.has_left)
    room_is same =
        ap (λ (n : ℕ). are_of_one_room (slice_get members n) (slice_get members m)) (sym same)
        ∙ ap (λ (o : Option MemberState). are_of_one_room o (slice_get members m)) here
        ∙ ap (λ (o : Option MemberState). are_of_one_room (Some speaker) o) there
        ∙ ap (λ (b : Bool). (speaker.room == listener.room) && (not b && not listener.has_left)) present

    by : (b : Bool) → (k == s) ≡ b
        → (if are_of_one_room (slice_get members s) (slice_get members m)
        then (if b && left then messages_told s (slice_get members s) (slice_get pairs s) reply else [])
        else [])
        ≡ (if b && ((speaker.room == listener.room) && not listener.has_left) then map item_message (if left then said else []) else [])
    by false e = nothing_told (are_of_one_room (slice_get members s) (slice_get members m)) [] refl
    by true e =
        let same : k ≡ s = eqb-true k s e in
        ap (λ (b : Bool). if b then (if left then messages_told s (slice_get members s) (slice_get pairs s) reply else []) else []) (room_is same)
        ∙ ap (λ (l : List LineMessage). if (speaker.room == listener.room) && not listener.has_left then (if left then l else []) else []) (told_is same)
        ∙ ap (λ (l : List LineMessage). if (speaker.room == listener.room) && not listener.has_left then l else []) (sym (messages_if left))

-- ---- the listener behind the step

told_none : (s k : ℕ) (speaker listener : MemberState) → told_of s k speaker listener [] ≡ []
told_none s k speaker listener = nothing_told ((k == s) && ((speaker.room == listener.room) && not listener.has_left)) (map item_message []) refl

untold_due : (s k : ℕ) (speaker listener listener' : MemberState) (sent heard : List LineMessage) → listener ≡ listener' → IsDue s listener sent heard
    → IsDue s listener' sent (heard ++ told_of s k speaker listener [])
untold_due s k speaker listener listener' sent heard same due =
    subst (λ (l : List LineMessage). IsDue s listener' sent l) (sym (ap (λ (l : List LineMessage). heard ++ l) (told_none s k speaker listener) ∙ append-nil heard))
    (subst (λ (l : MemberState). IsDue s l sent heard) same due)

module _ (s m k : ℕ) (speaker listener listener' : MemberState) (members : List MemberState) (p : PlainPolled ℕ) (sent heard : List LineMessage) (apart : s ≢ m)
    (here : slice_get members k ≡ Some speaker) (there : slice_get members m ≡ Some listener) (number : listener.number ≡ m)
    (due : IsDue s listener sent heard) where
  unchanged : slice_get members m ≡ Some listener' → IsDue s listener' sent (heard ++ told_of s k speaker listener [])
  unchanged there' = untold_due s k speaker listener listener' sent heard (some_is listener listener' (sym there ∙ there')) due

  after_due : (outcome : Outcome PlainMediaEvent) → slice_get (members_after outcome k speaker p members) m ≡ Some listener'
      → IsDue s listener' sent (heard ++ told_of s k speaker listener (heard_in k p speaker.line (outcome_outputs outcome)))
  after_due (Polled outputs end) there' =
      due_told s m k (line_behind p speaker.line outputs) (heard_in k p speaker.line outputs) speaker listener listener' members sent heard apart
      (heard_of_sender k p speaker.line outputs) here there number due there'
  after_due (Negotiated answers made) there' = unchanged there'
  after_due (Answered text) there' = unchanged there'
  after_due Finished there' = unchanged there'
  after_due Done there' = unchanged there'
  after_due (Wrote taken) there' = unchanged there'
  after_due (Refused error) there' = unchanged there'
  after_due NoSuch there' = unchanged there'
  after_due Alloc there' = unchanged there'

  pub behind_due : (side : Side) (outcome : Outcome PlainMediaEvent) → slice_get (members_behind side outcome k speaker p members) m ≡ Some listener'
      → IsDue s listener' sent (heard ++ told_of s k speaker listener (if same_side side Left then heard_in k p speaker.line (outcome_outputs outcome) else []))
  behind_due Left outcome there' = after_due outcome there'
  behind_due Right outcome there' = unchanged there'
