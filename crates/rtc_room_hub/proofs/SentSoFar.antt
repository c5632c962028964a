-- Items are written to a line one after the other.
use Rattle.std.proofs.Common.{◌≡◌, ◌∙◌, ◌+◌, ◌≤◌, ◌<◌, ◌++◌, ℕ, zero, suc, Bool, true, false, true≢false, List, [], ◌∷◌, length, take, drop, get_or, Option, Some, None, refl, sym, ap, subst, arith}
use Rattle.std.proofs.lemmas.List.{take_more}
use Rattle.rtc_plain_ice.specs.Messages.{is_ice_message}
use Rattle.rtc_plain_media.specs.declared.plain_media_event.PlainMediaEvent.{PlainMediaEvent}
use Rattle.rtc_peer_transport.specs.ChannelCalls.{open_stream_under}
use Rattle.rtc_run_history.specs.CallReplies.{StepWrites}
use Rattle.rtc_run_history.specs.declared.outcome.Outcome.{Outcome}
use Rattle.rtc_run_history.specs.declared.outcome.Outcome.TheVariants.{Negotiated, Answered, Finished, Done, Wrote, Polled, Refused, NoSuch, Alloc}
use Rattle.rtc_run_history.specs.declared.table.Table.{Table}
use Rattle.rtc_run_history.specs.Memory.{outcome_lacks}
use Rattle.rtc_run_history.specs.Past.{Entry}
use Rattle.rtc_run_history.specs.Runs.{Reached}
use Rattle.rtc_run.specs.ExtendsRun.{entry_between}
use Rattle.rtc_run_laws.specs.PlainPairs.{PlainPolled}
use Rattle.rtc_run.specs.ProgramPair.{PlainPairState, plain_parts}
use Rattle.rtc_room_laws.specs.Forwarding.{AreTaken, AreWritten, WriteEnd, NotTaken, NotOpen, WriteRefused, end_outcome, is_write_refused, write_of}
use Rattle.rtc_room_laws.specs.Members.{item_bytes}
use Rattle.rtc_room_hub.specs.SentItems.{SendsItem, SentUpTo, sent_in_outcome}
use Rattle.rtc_room_laws.specs.declared.item.Item.{Item}
use Rattle.rtc_room_hub.specs.declared.sent.Sent.{Sent}
use Rattle.rtc_room_hub.specs.declared.sent.Sent.TheVariants.{Taken, Waits, Refused as WasRefused}
use Rattle.rtc_room_hub.proofs.SentRuns.{taken_size}

-- ---- outcomes of writes

-- the outcomes that a write has which does not run out of memory
abbrev IsWritten : Outcome PlainMediaEvent → Type 0
IsWritten (Negotiated answers made) = ⊥
IsWritten (Answered text) = ⊥
IsWritten Finished = ⊥
IsWritten Done = ⊥
IsWritten (Wrote taken) = Unit {0}
IsWritten (Polled outputs end) = ⊥
IsWritten (Refused error) = Unit {0}
IsWritten NoSuch = Unit {0}
IsWritten Alloc = ⊥

written_is : (stream : Option ℕ) (binary : Bool) (bytes : List ℕ) (old new : PlainPolled ℕ) (outcome : Outcome PlainMediaEvent) (table : Option Table)
    → StepWrites plain_parts stream binary bytes old outcome table new → outcome_lacks outcome ≡ false → IsWritten outcome
written_is None binary bytes old new Alloc None h lasts = absurd (true≢false lasts)
written_is None binary bytes old new NoSuch (Some table) h lasts = tt
written_is None binary bytes old new outcome table h lasts = absurd h
written_is (Some stream) binary bytes old new Alloc None h lasts = absurd (true≢false lasts)
written_is (Some stream) binary bytes old new (Wrote taken) (Some table) h lasts = tt
written_is (Some stream) binary bytes old new (Refused error) (Some table) h lasts = tt
written_is (Some stream) binary bytes old new outcome table h lasts = absurd h

taken_is : (outcome : Outcome PlainMediaEvent) → IsWritten outcome → sent_in_outcome outcome ≡ Taken → outcome ≡ Wrote true
taken_is (Wrote true) written is = refl
taken_is (Wrote false) written is = absurd (cc)
taken_is (Refused error) written is = absurd (cc)
taken_is NoSuch written is = absurd (cc)
taken_is outcome written is = absurd written

-- why a write was not taken, if it was not refused
pub record Ends (outcome : Outcome PlainMediaEvent) (refused : Bool) : Type 0 where
  pub end : WriteEnd
  pub outcome_is : outcome ≡ end_outcome end
  pub refusal : is_write_refused (Some end) ≡ refused

waits_is : (outcome : Outcome PlainMediaEvent) → IsWritten outcome → sent_in_outcome outcome ≡ Waits → Ends outcome false
waits_is (Wrote true) written is = absurd (cc)
waits_is (Wrote false) written is = record { end = NotTaken; outcome_is = refl; refusal = refl }
waits_is (Refused error) written is = absurd (cc)
waits_is NoSuch written is = record { end = NotOpen; outcome_is = refl; refusal = refl }
waits_is outcome written is = absurd written

refused_is : (outcome : Outcome PlainMediaEvent) → IsWritten outcome → sent_in_outcome outcome ≡ WasRefused → Ends outcome true
refused_is (Wrote true) written is = absurd (cc)
refused_is (Wrote false) written is = absurd (cc)
refused_is (Refused error) written is = record { end = WriteRefused error; outcome_is = refl; refusal = refl }
refused_is NoSuch written is = absurd (cc)
refused_is outcome written is = absurd written

sends_written : (line : ℕ) (item : Item) (old new : PlainPairState) (sent : Sent) (h : SendsItem line item old sent new) → IsWritten h.outcome
sends_written line item old new sent h =
    written_is (open_stream_under line old.left) true (item_bytes item) old.left new.left h.outcome h.table h.performs.acts.0 h.lasts

-- ---- one after the other

-- so many items were written, and taken
pub record SentSoFar (line : ℕ) (items : List Item) (taken : ℕ) (start now : PlainPairState) : Type 0 where
  pub performed : List (Entry PlainMediaEvent)
  pub went : Reached plain_parts is_ice_message start performed now
  pub are_taken : AreTaken line (take taken items) performed
  pub count : length performed ≡ taken

pub sent_none : (line : ℕ) (items : List Item) (start : PlainPairState) → SentSoFar line items 0 start start
sent_none line items start = record { performed = []; went = refl; are_taken = refl; count = refl }

-- the sizes of what was performed
pub sent_size : (line : ℕ) (items : List Item) (taken : ℕ) (start now : PlainPairState) → SentSoFar line items taken start now → now.size ≡ start.size + taken
sent_size line items taken start now h =
    let size : now.size ≡ start.size + length h.performed = taken_size line (take taken items) h.performed start now h.are_taken h.went in
    omega (arith, size, h.count)

abbrev last_entry : (line : ℕ) (item : Item) (old new : PlainPairState) (sent : Sent) → SendsItem line item old sent new → Entry PlainMediaEvent
last_entry line item old new sent h = entry_between old (write_of line item) h.outcome h.table new

pub sent_more : (line : ℕ) (items : List Item) (taken : ℕ) (start old new : PlainPairState) (item : Item) (sent : Sent) → taken < length items
    → item ≡ get_or items taken item → SentSoFar line items taken start old → SendsItem line item old sent new → sent ≡ Taken
    → SentSoFar line items (taken + 1) start new
sent_more line items taken start old new item sent inside is so_far h was =
    let outcome_is : h.outcome ≡ Wrote true = taken_is h.outcome (sends_written line item old new sent h) (sym h.sent_is ∙ was) in
    let front : take (taken + 1) items ≡ take taken items ++ item ∷ [] = take_more items taken item inside ∙ ap (λ (x : Item). take taken items ++ x ∷ []) (sym is) in
    record {
      performed = last_entry line item old new sent h ∷ so_far.performed;
      went = (old, so_far.went, record { performs = h.performs; made = refl });
      are_taken = (take taken items, item, front, refl, outcome_is, so_far.are_taken);
      count = omega (arith, so_far.count);
    }

drop_at : {A : Type 0} (xs : List A) (i : ℕ) (x : A) → i < length xs → x ≡ get_or xs i x → drop i xs ≡ x ∷ drop (suc i) xs
drop_at [] i x inside is = absurd (omega (arith, inside))
drop_at (y ∷ xs) zero x inside is = ap (λ z. z ∷ xs) (sym is)
drop_at (y ∷ xs) (suc i) x inside is = drop_at xs i x (omega (arith, inside)) is

sent_up_to : (line : ℕ) (items : List Item) (taken : ℕ) (refused : Bool) (start old new : PlainPairState) (item : Item) (sent : Sent) → taken < length items
    → item ≡ get_or items taken item → SentSoFar line items taken start old → (h : SendsItem line item old sent new) → Ends h.outcome refused
    → SentUpTo line items taken refused start new
sent_up_to line items taken refused start old new item sent inside is so_far h ends = record {
  end = Some ends.end;
  performed = last_entry line item old new sent h ∷ so_far.performed;
  refusal = ends.refusal;
  sends = record {
    counted = omega (arith, inside);
    went = (old, so_far.went, record { performs = h.performs; made = refl });
    written = subst (λ (left : List Item). AreWritten line (take taken items) (Some ends.end) left (last_entry line item old new sent h ∷ so_far.performed))
        (sym (drop_at items taken item inside is)) (so_far.are_taken, refl, ends.outcome_is, h.lasts);
    few = omega (arith, so_far.count, inside);
  };
}

pub sent_waits : (line : ℕ) (items : List Item) (taken : ℕ) (start old new : PlainPairState) (item : Item) (sent : Sent) → taken < length items
    → item ≡ get_or items taken item → SentSoFar line items taken start old → SendsItem line item old sent new → sent ≡ Waits
    → SentUpTo line items taken false start new
sent_waits line items taken start old new item sent inside is so_far h was =
    sent_up_to line items taken false start old new item sent inside is so_far h (waits_is h.outcome (sends_written line item old new sent h) (sym h.sent_is ∙ was))

pub sent_refused : (line : ℕ) (items : List Item) (taken : ℕ) (start old new : PlainPairState) (item : Item) (sent : Sent) → taken < length items
    → item ≡ get_or items taken item → SentSoFar line items taken start old → SendsItem line item old sent new → sent ≡ WasRefused
    → SentUpTo line items taken true start new
sent_refused line items taken start old new item sent inside is so_far h was =
    sent_up_to line items taken true start old new item sent inside is so_far h (refused_is h.outcome (sends_written line item old new sent h) (sym h.sent_is ∙ was))

drop_past : {A : Type 0} (xs : List A) (i : ℕ) → length xs ≤ i → drop i xs ≡ []
drop_past [] zero h = refl
drop_past [] (suc i) h = refl
drop_past (x ∷ xs) zero h = absurd (omega (arith, h))
drop_past (x ∷ xs) (suc i) h = drop_past xs i (omega (arith, h))

-- all were taken
pub sent_all : (line : ℕ) (items : List Item) (taken : ℕ) (start now : PlainPairState) → taken ≤ length items → length items ≤ taken
    → SentSoFar line items taken start now → SentUpTo line items taken false start now
sent_all line items taken start now few past so_far = record {
  end = None;
  performed = so_far.performed;
  refusal = refl;
  sends = record {
    counted = few;
    went = so_far.went;
    written = (so_far.are_taken, drop_past items taken past);
    few = omega (arith, so_far.count, few);
  };
}
