-- What the hub wrote to a member's line and heard on it: all was written to the line, and the first channel of its number got what was heard
-- at its end.
use Rattle.std.proofs.Common.{◌≡◌, ◌∙◌, inl, inr, ◌++◌, ◌==◌, if◌then◌else◌, ℕ, Bool, true, false, List, [], ◌∷◌, map, Option, Some, None, refl, sym, ap, subst, arith, append-nil, append_assoc}
use Rattle.std.proofs.lemmas.Bool.{eqb-true}
use Rattle.std.proofs.lemmas.List.{map-append}
use Rattle.rtc_plain_media.specs.declared.plain_media_event.PlainMediaEvent.{PlainMediaEvent}
use Rattle.rtc_peer_transport.specs.declared.channel_data.ChannelData.{ChannelData as ChannelMessage}
use Rattle.rtc_peer_transport.specs.declared.event.Event.{Event}
use Rattle.rtc_peer_transport.specs.declared.event.Event.TheVariants as events
use Rattle.rtc_run_history.specs.Past.{Entry}
use Rattle.rtc_run_history.specs.declared.outcome.Outcome.TheVariants.{Wrote}
use Rattle.rtc_run_history.specs.declared.shown.Shown.{Shown}
use Rattle.rtc_run_history.specs.declared.shown.Shown.TheVariants as shows
use Rattle.rtc_run_laws.specs.ChannelUses.{ChannelUse, with_got_message, with_sent_message}
use Rattle.rtc_run_laws.specs.PlainPairs.{PlainPolled}
use Rattle.rtc_room_laws.specs.Forwarding.{write_of}
use Rattle.rtc_room_laws.specs.Hearing.{can_be_line, event_heard, heard_in, heard_shown, line_behind, line_by, line_opened, line_shown, message_heard}
use Rattle.rtc_room_laws.specs.declared.item.Item.{Item}
use Rattle.rtc_room_laws.specs.RoomHandsOn.{first_use}
use Rattle.rtc_room_laws.specs.ItemMessages.{LineMessage}
use Rattle.rtc_room_laws.proofs.ItemTexts.{item_message, written_message}
use Rattle.rtc_room_laws.proofs.TakenMessages.{taken_by}
use Rattle.rtc_room_laws.proofs.Talks.{blank_new, talk_event, talk_shown, talks_behind, talks_on}
use Rattle.rtc_room_laws.proofs.WrittenLines.{TakeNone, WriteTo, WroteTo, none_to, wrote_talks}

-- the first of a number has got what was heard at its end, and all was written to it
pub record HasFirst (c : ℕ) (past : List (Entry PlainMediaEvent)) (heard : List LineMessage) (talks : List ChannelUse) : Type 0 where
  pub writes : WriteTo c past
  pub first : ChannelUse
  pub is_first : first_use c talks ≡ Some first
  pub before : List LineMessage
  pub got_is : first.got ≡ before ++ heard

-- before a line is there nothing was written, and nothing heard
abbrev pub LineStands : Option ℕ → List (Entry PlainMediaEvent) → (heard : List LineMessage) → List ChannelUse → Type 0
LineStands None past heard talks = TakeNone past × (heard ≡ [])
LineStands (Some c) past heard talks = HasFirst c past heard talks

-- ---- the first of a number

none_some : (x : ChannelUse) → None ≡ Some x → ⊥
none_some x h = cc

use_is : (x y : ChannelUse) → Some x ≡ Some y → x ≡ y
use_is x y h = cc

same_number : (n : ℕ) → (n == n) ≡ true
same_number n = grind arith

-- it has the number
pub first_number : (c : ℕ) (talks : List ChannelUse) (x : ChannelUse) → first_use c talks ≡ Some x → x.channel ≡ c
first_number c [] x h = absurd (none_some x h)
first_number c (y ∷ talks) x h = by (y.channel == c) refl h (λ k. first_number c talks x k)
  where
    by : (b : Bool) → (y.channel == c) ≡ b → (if b then Some y else first_use c talks) ≡ Some x → (first_use c talks ≡ Some x → x.channel ≡ c) → x.channel ≡ c
    by true e k rest = ap (λ (z : ChannelUse). z.channel) (sym (use_is y x k)) ∙ eqb-true y.channel c e
    by false e k rest = rest k

pub first_more : (c : ℕ) (talks : List ChannelUse) (z x : ChannelUse) → first_use c talks ≡ Some x → first_use c (talks ++ z ∷ []) ≡ Some x
first_more c [] z x h = absurd (none_some x h)
first_more c (y ∷ talks) z x h = by (y.channel == c) h (λ k. first_more c talks z x k)
  where
    by : (b : Bool) → (if b then Some y else first_use c talks) ≡ Some x → (first_use c talks ≡ Some x → first_use c (talks ++ z ∷ []) ≡ Some x)
        → (if b then Some y else first_use c (talks ++ z ∷ [])) ≡ Some x
    by true k rest = k
    by false k rest = rest k

-- one message more is sent, or got

sending_number : (b : Bool) (message : LineMessage) (x : ChannelUse) → (if b then record x { sent = x.sent ++ message ∷ [] } else x).channel ≡ x.channel
sending_number true message x = refl
sending_number false message x = refl

getting_number : (b : Bool) (message : LineMessage) (x : ChannelUse) → (if b then record x { got = x.got ++ message ∷ [] } else x).channel ≡ x.channel
getting_number true message x = refl
getting_number false message x = refl

first_sent : (c d : ℕ) (message : LineMessage) (talks : List ChannelUse) (x : ChannelUse) → first_use c talks ≡ Some x
    → first_use c (with_sent_message d message talks) ≡ Some (if x.channel == d then record x { sent = x.sent ++ message ∷ [] } else x)
first_sent c d message [] x h = absurd (none_some x h)
first_sent c d message (y ∷ talks) x h =
    ap (λ (n : ℕ). if n == c then Some y' else first_use c (with_sent_message d message talks)) (sending_number (y.channel == d) message y)
    ∙ by (y.channel == c) h (λ k. first_sent c d message talks x k)
  where
    y' : ChannelUse
    y' = if y.channel == d then record y { sent = y.sent ++ message ∷ [] } else y

    by : (b : Bool) → (if b then Some y else first_use c talks) ≡ Some x
        → (first_use c talks ≡ Some x → first_use c (with_sent_message d message talks) ≡ Some (if x.channel == d then record x { sent = x.sent ++ message ∷ [] } else x))
        → (if b then Some y' else first_use c (with_sent_message d message talks)) ≡ Some (if x.channel == d then record x { sent = x.sent ++ message ∷ [] } else x)
    by true k rest = ap (λ (z : ChannelUse). Some (if z.channel == d then record z { sent = z.sent ++ message ∷ [] } else z)) (use_is y x k)
    by false k rest = rest k

first_got : (c d : ℕ) (message : LineMessage) (talks : List ChannelUse) (x : ChannelUse) → first_use c talks ≡ Some x
    → first_use c (with_got_message d message talks) ≡ Some (if x.channel == d then record x { got = x.got ++ message ∷ [] } else x)
first_got c d message [] x h = absurd (none_some x h)
first_got c d message (y ∷ talks) x h =
    ap (λ (n : ℕ). if n == c then Some y' else first_use c (with_got_message d message talks)) (getting_number (y.channel == d) message y)
    ∙ by (y.channel == c) h (λ k. first_got c d message talks x k)
  where
    y' : ChannelUse
    y' = if y.channel == d then record y { got = y.got ++ message ∷ [] } else y

    by : (b : Bool) → (if b then Some y else first_use c talks) ≡ Some x
        → (first_use c talks ≡ Some x → first_use c (with_got_message d message talks) ≡ Some (if x.channel == d then record x { got = x.got ++ message ∷ [] } else x))
        → (if b then Some y' else first_use c (with_got_message d message talks)) ≡ Some (if x.channel == d then record x { got = x.got ++ message ∷ [] } else x)
    by true k rest = ap (λ (z : ChannelUse). Some (if z.channel == d then record z { got = z.got ++ message ∷ [] } else z)) (use_is y x k)
    by false k rest = rest k

-- ---- entries

-- an entry by which nothing is taken
pub stands_untaken : (line : Option ℕ) (entry : Entry PlainMediaEvent) (past : List (Entry PlainMediaEvent)) (heard : List LineMessage) (talks : List ChannelUse)
    → taken_by entry.step entry.outcome ≡ [] → LineStands line past heard talks → LineStands line (entry ∷ past) heard talks
stands_untaken None entry past heard talks none h = ((none, h.0), h.1)
stands_untaken (Some c) entry past heard talks none h = record {
  writes = (inl none, h.writes);
  first = h.first;
  is_first = h.is_first;
  before = h.before;
  got_is = h.got_is;
}

-- a message is written to the line, and taken
pub stands_taken : (c : ℕ) (item : Item) (entry : Entry PlainMediaEvent) (past : List (Entry PlainMediaEvent)) (heard : List LineMessage)
    → entry.step ≡ write_of c item → entry.outcome ≡ Wrote true → HasFirst c past heard (talks_on past []) → HasFirst c (entry ∷ past) heard (talks_on (entry ∷ past) [])
stands_taken c item entry past heard step_is taken h =
    let wrote : WroteTo c entry past = record { item = item; step_is = step_is; taken = taken; first = h.first; is_first = h.is_first } in
    record {
      writes = (inr wrote, h.writes);
      first = record h.first { sent = h.first.sent ++ written_message item ∷ [] };
      is_first =
          ap (first_use c) (wrote_talks c entry past wrote (talks_on past []))
          ∙ first_sent c c (written_message item) (talks_on past []) h.first h.is_first
          ∙ ap (λ (b : Bool). Some (if b then record h.first { sent = h.first.sent ++ written_message item ∷ [] } else h.first))
          (ap (λ (n : ℕ). n == c) (first_number c (talks_on past []) h.first h.is_first) ∙ same_number c);
      before = h.before;
      got_is = h.got_is;
    }

-- ---- events

first_has : (c : ℕ) (past : List (Entry PlainMediaEvent)) (heard : List LineMessage) (talks : List ChannelUse) (z : ChannelUse) → HasFirst c past heard talks → HasFirst c past heard (talks ++ z ∷ [])
first_has c past heard talks z h = record {
  writes = h.writes;
  first = h.first;
  is_first = first_more c talks z h.first h.is_first;
  before = h.before;
  got_is = h.got_is;
}

-- the first of the number that is announced: one that was announced before, or this one
first_opened : (id : ℕ) (past : List (Entry PlainMediaEvent)) (talks : List ChannelUse) → WriteTo id past → HasFirst id past [] (talks ++ blank_new id ∷ [])
first_opened id past [] w = record {
  writes = w;
  first = blank_new id;
  is_first = ap (λ (b : Bool). if b then Some (blank_new id) else None) (same_number id);
  before = [];
  got_is = refl;
}
first_opened id past (x ∷ talks) w = by (x.channel == id) refl (first_opened id past talks w)
  where
    by : (b : Bool) → (x.channel == id) ≡ b → HasFirst id past [] (talks ++ blank_new id ∷ []) → HasFirst id past [] (x ∷ (talks ++ blank_new id ∷ []))
    by true e rest = record {
      writes = w;
      first = x;
      is_first = ap (λ (b : Bool). if b then Some x else first_use id (talks ++ blank_new id ∷ [])) e;
      before = x.got;
      got_is = sym (append-nil x.got);
    }
    by false e rest = record {
      writes = w;
      first = rest.first;
      is_first = ap (λ (b : Bool). if b then Some x else first_use id (talks ++ blank_new id ∷ [])) e ∙ rest.is_first;
      before = rest.before;
      got_is = rest.got_is;
    }

opened_stands : (id : ℕ) (fits : Bool) (line : Option ℕ) (past : List (Entry PlainMediaEvent)) (heard : List LineMessage) (talks : List ChannelUse)
    → LineStands line past heard talks → LineStands (line_opened fits id line) past heard (talks ++ blank_new id ∷ [])
opened_stands id fits (Some c) past heard talks h = first_has c past heard talks (blank_new id) h
opened_stands id false None past heard talks h = h
opened_stands id true None past heard talks h =
    subst (λ (l : List LineMessage). HasFirst id past l (talks ++ blank_new id ∷ [])) (sym h.1) (first_opened id past talks (none_to id past h.0))

-- a message that is handed out
data_stands : (sender : ℕ) (message : ChannelMessage) (line : Option ℕ) (past : List (Entry PlainMediaEvent)) (heard : List LineMessage) (talks : List ChannelUse) → LineStands line past heard talks
    → LineStands line past (heard ++ map item_message (message_heard message sender line))
    (with_got_message message.id (message.binary, message.bytes) talks)
data_stands sender message None past heard talks h = (h.0, append-nil heard ∙ h.1)
data_stands sender message (Some c) past heard talks h = by (c == message.id) own
  where
    x' : Bool → ChannelUse
    x' b = if b then record h.first { got = h.first.got ++ (message.binary, message.bytes) ∷ [] } else h.first

    own : first_use c (with_got_message message.id (message.binary, message.bytes) talks) ≡ Some (x' (c == message.id))
    own =
        first_got c message.id (message.binary, message.bytes) talks h.first h.is_first
        ∙ ap (λ (n : ℕ). Some (x' (n == message.id))) (first_number c talks h.first h.is_first)

    by : (b : Bool) → first_use c (with_got_message message.id (message.binary, message.bytes) talks) ≡ Some (x' b)
        → HasFirst c past
        (heard ++ map item_message (if b then record { sender = sender; binary = message.binary; bytes = message.bytes } ∷ [] else []))
        (with_got_message message.id (message.binary, message.bytes) talks)
    by true e = record {
      writes = h.writes;
      first = x' true;
      is_first = e;
      before = h.before;
      got_is =
          ap (λ (l : List LineMessage). l ++ (message.binary, message.bytes) ∷ []) h.got_is
          ∙ append_assoc h.before heard ((message.binary, message.bytes) ∷ []);
    }
    by false e = record {
      writes = h.writes;
      first = x' false;
      is_first = e;
      before = h.before;
      got_is = h.got_is ∙ ap (λ (l : List LineMessage). h.before ++ l) (sym (append-nil heard));
    }

-- what hands out nothing
nothing_stands : (line : Option ℕ) (past : List (Entry PlainMediaEvent)) (heard : List LineMessage) (talks : List ChannelUse) → LineStands line past heard talks → LineStands line past (heard ++ []) talks
nothing_stands line past heard talks h = subst (λ (l : List LineMessage). LineStands line past l talks) (sym (append-nil heard)) h

event_stands : (sender : ℕ) (p : PlainPolled ℕ) (event : Event PlainMediaEvent) (line : Option ℕ) (past : List (Entry PlainMediaEvent)) (heard : List LineMessage) (talks : List ChannelUse)
    → LineStands line past heard talks
    → LineStands (line_by event p line) past (heard ++ map item_message (event_heard event sender line)) (talk_event event talks)
event_stands sender p (events.ChannelOpen id label) line past heard talks h =
    nothing_stands (line_opened (can_be_line p id) id line) past heard (talks ++ blank_new id ∷ []) (opened_stands id (can_be_line p id) line past heard talks h)
event_stands sender p (events.ChannelData message) line past heard talks h = data_stands sender message line past heard talks h
event_stands sender p events.Connected line past heard talks h = nothing_stands line past heard talks h
event_stands sender p (events.IceConnectionStateChange state) line past heard talks h = nothing_stands line past heard talks h
event_stands sender p (events.ChannelClose id) line past heard talks h = nothing_stands line past heard talks h
event_stands sender p (events.ChannelBufferedAmountLow id) line past heard talks h = nothing_stands line past heard talks h
event_stands sender p (events.PeerStats stats) line past heard talks h = nothing_stands line past heard talks h
event_stands sender p (events.MediaIngressStats stats) line past heard talks h = nothing_stands line past heard talks h
event_stands sender p (events.MediaEgressStats stats) line past heard talks h = nothing_stands line past heard talks h
event_stands sender p (events.Media event) line past heard talks h = nothing_stands line past heard talks h
event_stands sender p events.Closed line past heard talks h = nothing_stands line past heard talks h

shown_stands : (sender : ℕ) (p : PlainPolled ℕ) (shown : Shown PlainMediaEvent) (line : Option ℕ) (past : List (Entry PlainMediaEvent)) (heard : List LineMessage) (talks : List ChannelUse)
    → LineStands line past heard talks
    → LineStands (line_shown shown p line) past (heard ++ map item_message (heard_shown shown sender line)) (talk_shown shown talks)
shown_stands sender p (shows.Event event) line past heard talks h = event_stands sender p event line past heard talks h
shown_stands sender p (shows.Timeout moment reason) line past heard talks h = nothing_stands line past heard talks h
shown_stands sender p (shows.Packet number len) line past heard talks h = nothing_stands line past heard talks h

-- the outputs of a step
pub outputs_stand : (sender : ℕ) (p : PlainPolled ℕ) (outputs : List (Shown PlainMediaEvent)) (line : Option ℕ) (past : List (Entry PlainMediaEvent)) (heard : List LineMessage) (talks : List ChannelUse)
    → LineStands line past heard talks
    → LineStands (line_behind p line outputs) past (heard ++ map item_message (heard_in sender p line outputs)) (talks_behind outputs talks)
outputs_stand sender p [] line past heard talks h = nothing_stands line past heard talks h
outputs_stand sender p (shown ∷ outputs) line past heard talks h =
    subst (λ (l : List LineMessage). LineStands (line_behind p (line_shown shown p line) outputs) past l (talks_behind outputs (talk_shown shown talks)))
    (append_assoc heard (map item_message (heard_shown shown sender line)) (map item_message (heard_in sender p (line_shown shown p line) outputs))
    ∙ ap (λ (l : List LineMessage). heard ++ l)
    (sym (map-append item_message (heard_shown shown sender line) (heard_in sender p (line_shown shown p line) outputs))))
    (outputs_stand sender p outputs (line_shown shown p line) past (heard ++ map item_message (heard_shown shown sender line)) (talk_shown shown talks)
    (shown_stands sender p shown line past heard talks h))
