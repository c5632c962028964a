-- What was taken of writes to a line is what was sent over the first channel of its number.
use Rattle.std.proofs.Common.{◌≡◌, ◌∙◌, ◌⊎◌, inl, inr, ◌++◌, ◌==◌, if◌then◌else◌, ℕ, Bool, true, false, true≢false, List, [], ◌∷◌, Some, None, refl, sym, ap, append-nil}
use Rattle.rtc_plain_media.specs.declared.plain_media_event.PlainMediaEvent.{PlainMediaEvent}
use Rattle.rtc_peer_transport.specs.declared.event.Event.{Event}
use Rattle.rtc_peer_transport.specs.declared.event.Event.TheVariants as events
use Rattle.rtc_run_history.specs.Past.{Entry}
use Rattle.rtc_run_history.specs.Sides.{same_side, side_of}
use Rattle.rtc_run_history.specs.declared.outcome.Outcome.{Outcome}
use Rattle.rtc_run_history.specs.declared.outcome.Outcome.TheVariants.{Wrote}
use Rattle.rtc_run_history.specs.declared.shown.Shown.{Shown}
use Rattle.rtc_run_history.specs.declared.shown.Shown.TheVariants as shows
use Rattle.rtc_run_history.specs.declared.side.Side.TheVariants.{Left, Right}
use Rattle.rtc_run_history.specs.declared.step.Step.{Step}
use Rattle.rtc_run_history.specs.declared.step.Step.TheVariants.{Negotiate, AcceptOffer, AcceptAnswer, Time, Datagram, Poll, Drain}
use Rattle.rtc_run_history.specs.declared.step.Step.TheVariants.{Write, CloseChannel, Close, Rollback, ForeignOffer, ForeignAnswer, Raw}
use Rattle.rtc_run_laws.specs.ChannelUses.{ChannelUse, with_got_message, with_sent_message}
use Rattle.rtc_run_laws.specs.UsesOfRuns.{uses_written}
use Rattle.rtc_room_laws.specs.Forwarding.{write_of}
use Rattle.rtc_room_laws.specs.Hearing.{outcome_outputs}
use Rattle.rtc_room_laws.specs.declared.item.Item.{Item}
use Rattle.rtc_room_laws.specs.RoomHandsOn.{first_use}
use Rattle.rtc_room_laws.specs.ItemMessages.{LineMessage}
use Rattle.rtc_room_laws.proofs.ItemTexts.{written_message}
use Rattle.rtc_room_laws.proofs.TakenMessages.{message_taken, taken_by, taken_messages}
use Rattle.rtc_room_laws.proofs.Talks.{blank_new, talk_event, talk_shown, talks_acted, talks_behind, talks_entered, talks_on}

-- ---- writes to a line

-- an item was written to a line, whose channel had been announced, and was taken
pub record WroteTo (c : ℕ) (entry : Entry PlainMediaEvent) (past : List (Entry PlainMediaEvent)) : Type 0 where
  pub item : Item
  pub step_is : entry.step ≡ write_of c item
  pub taken : entry.outcome ≡ Wrote true
  pub first : ChannelUse
  pub is_first : first_use c (talks_on past []) ≡ Some first

-- no entry wrote at the left peer what was taken
abbrev pub TakeNone : List (Entry PlainMediaEvent) → Type 0
TakeNone [] = Unit {0}
TakeNone (entry ∷ past) = (taken_by entry.step entry.outcome ≡ []) × TakeNone past

-- all that was taken was written to a line
abbrev pub WriteTo : (c : ℕ) → List (Entry PlainMediaEvent) → Type 0
WriteTo c [] = Unit {0}
WriteTo c (entry ∷ past) = ((taken_by entry.step entry.outcome ≡ []) ⊎ WroteTo c entry past) × WriteTo c past

pub none_to : (c : ℕ) (past : List (Entry PlainMediaEvent)) → TakeNone past → WriteTo c past
none_to c [] h = tt
none_to c (entry ∷ past) h = (inl h.0, none_to c past h.1)

-- ---- what was sent over the first of a number

abbrev pub sent_by : (c : ℕ) → List ChannelUse → List LineMessage
sent_by c [] = []
sent_by c (x ∷ talks) = if x.channel == c then x.sent else sent_by c talks

use_is : (x y : ChannelUse) → Some x ≡ Some y → x ≡ y
use_is x y h = cc

none_some : (x : ChannelUse) → None ≡ Some x → ⊥
none_some x h = cc

pub sent_by-first : (c : ℕ) (talks : List ChannelUse) (x : ChannelUse) → first_use c talks ≡ Some x → sent_by c talks ≡ x.sent
sent_by-first c [] x h = absurd (none_some x h)
sent_by-first c (y ∷ talks) x h = by (y.channel == c) h (λ k. sent_by-first c talks x k)
  where
    by : (b : Bool) → (if b then Some y else first_use c talks) ≡ Some x → (first_use c talks ≡ Some x → sent_by c talks ≡ x.sent)
        → (if b then y.sent else sent_by c talks) ≡ x.sent
    by true k rest = ap (λ (z : ChannelUse). z.sent) (use_is y x k)
    by false k rest = rest k

sent_by-more : (c id : ℕ) (talks : List ChannelUse) → sent_by c (talks ++ blank_new id ∷ []) ≡ sent_by c talks
sent_by-more c id [] = by (id == c)
  where
    none : List LineMessage
    none = []

    by : (b : Bool) → (if b then none else none) ≡ none
    by true = refl
    by false = refl
sent_by-more c id (y ∷ talks) = ap (λ (l : List LineMessage). if y.channel == c then y.sent else l) (sent_by-more c id talks)

-- what a change of a use keeps
got_channel : (b : Bool) (message : LineMessage) (y : ChannelUse) → (if b then record y { got = y.got ++ message ∷ [] } else y).channel ≡ y.channel
got_channel true message y = refl
got_channel false message y = refl

got_sent : (b : Bool) (message : LineMessage) (y : ChannelUse) → (if b then record y { got = y.got ++ message ∷ [] } else y).sent ≡ y.sent
got_sent true message y = refl
got_sent false message y = refl

sent_channel : (b : Bool) (message : LineMessage) (y : ChannelUse) → (if b then record y { sent = y.sent ++ message ∷ [] } else y).channel ≡ y.channel
sent_channel true message y = refl
sent_channel false message y = refl

sent_by-got : (c d : ℕ) (message : LineMessage) (talks : List ChannelUse) → sent_by c (with_got_message d message talks) ≡ sent_by c talks
sent_by-got c d message [] = refl
sent_by-got c d message (y ∷ talks) =
    ap (λ (n : ℕ). if n == c then (if y.channel == d then record y { got = y.got ++ message ∷ [] } else y).sent else sent_by c (with_got_message d message talks))
    (got_channel (y.channel == d) message y)
    ∙ ap (λ (l : List LineMessage). if y.channel == c then l else sent_by c (with_got_message d message talks)) (got_sent (y.channel == d) message y)
    ∙ ap (λ (l : List LineMessage). if y.channel == c then y.sent else l) (sent_by-got c d message talks)

sent_by-sent : (c : ℕ) (message : LineMessage) (talks : List ChannelUse) (x : ChannelUse) → first_use c talks ≡ Some x
    → sent_by c (with_sent_message c message talks) ≡ sent_by c talks ++ message ∷ []
sent_by-sent c message [] x h = absurd (none_some x h)
sent_by-sent c message (y ∷ talks) x h =
    ap (λ (n : ℕ). if n == c then (if y.channel == c then record y { sent = y.sent ++ message ∷ [] } else y).sent else sent_by c (with_sent_message c message talks))
    (sent_channel (y.channel == c) message y)
    ∙ by (y.channel == c) h (λ k. sent_by-sent c message talks x k)
  where
    by : (b : Bool) → (if b then Some y else first_use c talks) ≡ Some x
        → (first_use c talks ≡ Some x → sent_by c (with_sent_message c message talks) ≡ sent_by c talks ++ message ∷ [])
        → (if b then (if b then record y { sent = y.sent ++ message ∷ [] } else y).sent else sent_by c (with_sent_message c message talks))
        ≡ (if b then y.sent else sent_by c talks) ++ message ∷ []
    by true k rest = refl
    by false k rest = rest k

-- ---- entries

sent_by-event : (c : ℕ) (event : Event PlainMediaEvent) (talks : List ChannelUse) → sent_by c (talk_event event talks) ≡ sent_by c talks
sent_by-event c (events.ChannelOpen id label) talks = sent_by-more c id talks
sent_by-event c (events.ChannelData message) talks = sent_by-got c message.id (message.binary, message.bytes) talks
sent_by-event c event talks = refl

sent_by-shown : (c : ℕ) (shown : Shown PlainMediaEvent) (talks : List ChannelUse) → sent_by c (talk_shown shown talks) ≡ sent_by c talks
sent_by-shown c (shows.Event event) talks = sent_by-event c event talks
sent_by-shown c (shows.Timeout moment reason) talks = refl
sent_by-shown c (shows.Packet number len) talks = refl

sent_by-behind : (c : ℕ) (outputs : List (Shown PlainMediaEvent)) (talks : List ChannelUse) → sent_by c (talks_behind outputs talks) ≡ sent_by c talks
sent_by-behind c [] talks = refl
sent_by-behind c (shown ∷ outputs) talks = sent_by-behind c outputs (talk_shown shown talks) ∙ sent_by-shown c shown talks

cons_none : {A : Type 0} (x : A) (xs : List A) → x ∷ xs ≡ [] → ⊥
cons_none x xs h = cc

sent_by-written : (c channel : ℕ) (binary : Bool) (bytes : List ℕ) (outcome : Outcome PlainMediaEvent) (talks : List ChannelUse)
    → message_taken outcome (binary, bytes) ≡ [] → sent_by c (uses_written channel binary bytes outcome talks) ≡ sent_by c talks
sent_by-written c channel binary bytes (Wrote true) talks h = absurd (cons_none (binary, bytes) [] h)
sent_by-written c channel binary bytes (Wrote false) talks h = refl
sent_by-written c channel binary bytes outcome talks h = refl

sent_by-acted : (c : ℕ) (step : Step) (outcome : Outcome PlainMediaEvent) (talks : List ChannelUse) → same_side (side_of step) Left ≡ true
    → taken_by step outcome ≡ [] → sent_by c (talks_acted step outcome talks) ≡ sent_by c talks
sent_by-acted c (Write Left channel binary bytes) outcome talks left h = sent_by-written c channel binary bytes outcome talks h
sent_by-acted c (Write Right channel binary bytes) outcome talks left h = absurd (true≢false (sym left))
sent_by-acted c (Negotiate at ops apply) outcome talks left h = sent_by-behind c (outcome_outputs outcome) talks
sent_by-acted c (AcceptOffer at offer) outcome talks left h = sent_by-behind c (outcome_outputs outcome) talks
sent_by-acted c (AcceptAnswer at token answer) outcome talks left h = sent_by-behind c (outcome_outputs outcome) talks
sent_by-acted c (Time at now) outcome talks left h = sent_by-behind c (outcome_outputs outcome) talks
sent_by-acted c (Datagram at packet now) outcome talks left h = sent_by-behind c (outcome_outputs outcome) talks
sent_by-acted c (Poll at) outcome talks left h = sent_by-behind c (outcome_outputs outcome) talks
sent_by-acted c (Drain at) outcome talks left h = sent_by-behind c (outcome_outputs outcome) talks
sent_by-acted c (CloseChannel at channel) outcome talks left h = sent_by-behind c (outcome_outputs outcome) talks
sent_by-acted c (Close at) outcome talks left h = sent_by-behind c (outcome_outputs outcome) talks
sent_by-acted c (Rollback at token) outcome talks left h = sent_by-behind c (outcome_outputs outcome) talks
sent_by-acted c (ForeignOffer at text) outcome talks left h = sent_by-behind c (outcome_outputs outcome) talks
sent_by-acted c (ForeignAnswer at token text) outcome talks left h = sent_by-behind c (outcome_outputs outcome) talks
sent_by-acted c (Raw at bytes now) outcome talks left h = sent_by-behind c (outcome_outputs outcome) talks

sent_by-untaken : (c : ℕ) (entry : Entry PlainMediaEvent) (talks : List ChannelUse) → taken_by entry.step entry.outcome ≡ []
    → sent_by c (talks_entered entry talks) ≡ sent_by c talks
sent_by-untaken c entry talks h = by (same_side (side_of entry.step) Left) refl
  where
    by : (b : Bool) → same_side (side_of entry.step) Left ≡ b
        → sent_by c (if b then talks_acted entry.step entry.outcome talks else talks) ≡ sent_by c talks
    by true e = sent_by-acted c entry.step entry.outcome talks e h
    by false e = refl

-- what an entry that wrote to the line does
pub wrote_taken : (c : ℕ) (entry : Entry PlainMediaEvent) (past : List (Entry PlainMediaEvent)) (h : WroteTo c entry past)
    → taken_by entry.step entry.outcome ≡ written_message h.item ∷ []
wrote_taken c entry past h = ap (λ (step : Step). taken_by step entry.outcome) h.step_is ∙ ap (taken_by (write_of c h.item)) h.taken

pub wrote_talks : (c : ℕ) (entry : Entry PlainMediaEvent) (past : List (Entry PlainMediaEvent)) (h : WroteTo c entry past) (talks : List ChannelUse)
    → talks_entered entry talks ≡ with_sent_message c (written_message h.item) talks
wrote_talks c entry past h talks =
    ap (λ (step : Step). if same_side (side_of step) Left then talks_acted step entry.outcome talks else talks) h.step_is
    ∙ ap (λ (outcome : Outcome PlainMediaEvent). talks_acted (write_of c h.item) outcome talks) h.taken

pub written_sent : (c : ℕ) (past : List (Entry PlainMediaEvent)) → WriteTo c past → sent_by c (talks_on past []) ≡ taken_messages past
written_sent c [] h = refl
written_sent c (entry ∷ past) h = by h.0 (written_sent c past h.1)
  where
    by : (taken_by entry.step entry.outcome ≡ []) ⊎ WroteTo c entry past → sent_by c (talks_on past []) ≡ taken_messages past
        → sent_by c (talks_entered entry (talks_on past [])) ≡ taken_messages past ++ taken_by entry.step entry.outcome
    by (inl none) earlier =
        sent_by-untaken c entry (talks_on past []) none
        ∙ earlier
        ∙ sym (append-nil (taken_messages past))
        ∙ ap (λ (l : List LineMessage). taken_messages past ++ l) (sym none)
    by (inr wrote) earlier =
        ap (sent_by c) (wrote_talks c entry past wrote (talks_on past []))
        ∙ sent_by-sent c (written_message wrote.item) (talks_on past []) wrote.first wrote.is_first
        ∙ ap (λ (l : List LineMessage). l ++ written_message wrote.item ∷ []) earlier
        ∙ ap (λ (l : List LineMessage). taken_messages past ++ l) (sym (wrote_taken c entry past wrote))
