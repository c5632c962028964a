-- What was sent to a member and what waits for it are what was heard of each other one of its room.
use Rattle.std.proofs.Common.{◌≡◌, ◌∙◌, ◌<◌, ◌+◌, ◌==◌, ◌&&◌, ◌^◌, ◌++◌, if◌then◌else◌, ℕ, zero, suc, Bool, true, false, true≢false, List, [], ◌∷◌, map, length, take, drop, refl, sym, ap, subst, arith, append-nil, append_assoc}
use Rattle.std.specs.Prelude.{nat_lt, not}
use Rattle.std.specs.List.{AllByRecursion}
use Rattle.std.proofs.lemmas.Bool.{eqb-true}
use Rattle.rtc_assoc.specs.Unread.{IsPrefix}
use Rattle.rtc_room_laws.specs.ItemMessages.{LineMessage, messages_from}
use Rattle.rtc_room_laws.specs.Members.{MemberState, gone_member, hearing_member, put_out_member, with_items}
use Rattle.rtc_room_laws.specs.declared.item.Item.{Item}
use Rattle.rtc_room_laws.proofs.ItemTexts.{item_message, messages_by, messages_by-append, messages_from-append, messages_read, written_message}

-- the items are all of one sender
abbrev pub AreOf : (sender : ℕ) → List Item → Type 0
AreOf sender items = AllByRecursion (λ item. item.sender ≡ sender) items

-- the numbers of all senders can be written
abbrev pub AreWritable : List Item → Type 0
AreWritable items = AllByRecursion (λ item. item.sender < 2 ^ 32) items

-- By a speaker, what was sent to a member begins what was heard; unless it left or was put out, what waits for it is the rest.
pub record IsDue (speaker : ℕ) (member : MemberState) (sent heard : List LineMessage) : Type 0 where
  pub prefix : IsPrefix (messages_from speaker sent) heard
  pub whole : member.is_put_out ≡ false → member.has_left ≡ false → heard ≡ messages_from speaker sent ++ messages_by speaker member.queue

-- ---- what a speaker says

by_own : (speaker : ℕ) (items : List Item) → AreOf speaker items → messages_by speaker items ≡ map item_message items
by_own speaker [] are = refl
by_own speaker (item ∷ items) are =
    ap (λ (b : Bool). (if b then item_message item ∷ [] else []) ++ messages_by speaker items) (same_self item.sender speaker are.0)
    ∙ ap (λ (l : List LineMessage). item_message item ∷ l) (by_own speaker items are.1)
  where
    same_self : (n k : ℕ) → n ≡ k → (n == k) ≡ true
    same_self n k is = grind (arith, is)

by_other : (speaker sender : ℕ) (items : List Item) → (sender == speaker) ≡ false → AreOf sender items → messages_by speaker items ≡ []
by_other speaker sender [] other are = refl
by_other speaker sender (item ∷ items) other are =
    ap (λ (n : ℕ). (if n == speaker then item_message item ∷ [] else []) ++ messages_by speaker items) are.0
    ∙ ap (λ (b : Bool). (if b then item_message item ∷ [] else []) ++ messages_by speaker items) other
    ∙ by_other speaker sender items other are.1

-- what was said in a step, if it is told to the speaker's listener
abbrev pub said_by : (speaker sender : ℕ) → List Item → List LineMessage
said_by speaker sender items = if sender == speaker then map item_message items else []

by_said : (speaker sender : ℕ) (items : List Item) → AreOf sender items → messages_by speaker items ≡ said_by speaker sender items
by_said speaker sender items are = by (sender == speaker) refl
  where
    by : (b : Bool) → (sender == speaker) ≡ b → messages_by speaker items ≡ (if b then map item_message items else [])
    by true e = by_own speaker items (subst (λ (n : ℕ). AreOf n items) (eqb-true sender speaker e) are)
    by false e = by_other speaker sender items e are

-- ---- prefixes

prefix_more : {A : Type 0} (xs ys more : List A) → IsPrefix xs ys → IsPrefix xs (ys ++ more)
prefix_more xs ys more h = record { rest = h.rest ++ more; is = sym (append_assoc xs h.rest more) ∙ ap (λ l. l ++ more) h.is }

prefix_of : {A : Type 0} (xs rest ys : List A) → ys ≡ xs ++ rest → IsPrefix xs ys
prefix_of xs rest ys is = record { rest = rest; is = sym is }

-- ---- a member hears

pub hears_nothing : (speaker : ℕ) (member : MemberState) (sent heard : List LineMessage) → IsDue speaker member sent heard → IsDue speaker member sent (heard ++ [])
hears_nothing speaker member sent heard due = subst (λ (l : List LineMessage). IsDue speaker member sent l) (sym (append-nil heard)) due

due_put_out : (speaker : ℕ) (member : MemberState) (sent heard more : List LineMessage) → IsDue speaker member sent heard
    → IsDue speaker (put_out_member member) sent (heard ++ more)
due_put_out speaker member sent heard more due = record {
  prefix = prefix_more (messages_from speaker sent) heard more due.prefix;
  whole = λ out here. absurd (true≢false out);
}

due_items : (speaker sender : ℕ) (items : List Item) (member : MemberState) (sent heard : List LineMessage) → AreOf sender items
    → IsDue speaker member sent heard → IsDue speaker (with_items items member) sent (heard ++ said_by speaker sender items)
due_items speaker sender items member sent heard are due = by (nat_lt 1024 (length member.queue + length items))
  where
    by : (b : Bool) → IsDue speaker (if b then put_out_member member else record member { queue = member.queue ++ items }) sent (heard ++ said_by speaker sender items)
    by true = due_put_out speaker member sent heard (said_by speaker sender items) due
    by false = record {
      prefix = prefix_more (messages_from speaker sent) heard (said_by speaker sender items) due.prefix;
      whole = λ out here.
          ap (λ (l : List LineMessage). l ++ said_by speaker sender items) (due.whole out here)
          ∙ append_assoc (messages_from speaker sent) (messages_by speaker member.queue) (said_by speaker sender items)
          ∙ ap (λ (l : List LineMessage). messages_from speaker sent ++ l)
          (ap (λ (l : List LineMessage). messages_by speaker member.queue ++ l) (sym (by_said speaker sender items are))
          ∙ sym (messages_by-append speaker member.queue items));
    }

-- what is told of a step to a member of the room that has not left; one that was put out is told too
abbrev pub told_to : (speaker sender room : ℕ) → List Item → MemberState → List LineMessage
told_to speaker sender room items member =
    if not (member.number == sender) && ((member.room == room) && not member.has_left) then said_by speaker sender items else []

pub due_hears : (speaker sender room : ℕ) (items : List Item) (member : MemberState) (sent heard : List LineMessage) → AreOf sender items
    → IsDue speaker member sent heard
    → IsDue speaker (hearing_member sender room items member) sent (heard ++ told_to speaker sender room items member)
due_hears speaker sender room items member sent heard are due =
    by (not (member.number == sender)) (member.room == room) member.has_left member.is_put_out refl refl
  where
    by : (other same left out : Bool) → member.has_left ≡ left → member.is_put_out ≡ out
        → IsDue speaker (if other && (same && (not left && not out)) then with_items items member else member) sent
        (heard ++ (if other && (same && not left) then said_by speaker sender items else []))
    by false same left out is_left is_out = hears_nothing speaker member sent heard due
    by true false left out is_left is_out = hears_nothing speaker member sent heard due
    by true true true out is_left is_out = hears_nothing speaker member sent heard due
    by true true false true is_left is_out = record {
      prefix = prefix_more (messages_from speaker sent) heard (said_by speaker sender items) due.prefix;
      whole = λ out here. absurd (true≢false (sym is_out ∙ out));
    }
    by true true false false is_left is_out = due_items speaker sender items member sent heard are due

-- ---- a member is sent what waits for it, leaves, and is put out

sent_prefix : (speaker taken : ℕ) (member : MemberState) (sent heard : List LineMessage) → AreWritable (take taken member.queue)
    → heard ≡ messages_from speaker sent ++ messages_by speaker member.queue
    → heard ≡ messages_from speaker (sent ++ map written_message (take taken member.queue)) ++ messages_by speaker (drop taken member.queue)
sent_prefix speaker taken member sent heard small is =
    is
    ∙ ap (λ (l : List Item). messages_from speaker sent ++ messages_by speaker l) (sym (take_drop taken member.queue))
    ∙ ap (λ (l : List LineMessage). messages_from speaker sent ++ l) (messages_by-append speaker (take taken member.queue) (drop taken member.queue))
    ∙ sym (append_assoc (messages_from speaker sent) (messages_by speaker (take taken member.queue)) (messages_by speaker (drop taken member.queue)))
    ∙ ap (λ (l : List LineMessage). (messages_from speaker sent ++ l) ++ messages_by speaker (drop taken member.queue)) (sym (messages_read speaker (take taken member.queue) small))
    ∙ ap (λ (l : List LineMessage). l ++ messages_by speaker (drop taken member.queue))
    (sym (messages_from-append speaker sent (map written_message (take taken member.queue))))
  where
    take_drop : {A : Type 0} (n : ℕ) (xs : List A) → take n xs ++ drop n xs ≡ xs
    take_drop zero xs = refl
    take_drop (suc n) [] = refl
    take_drop (suc n) (x ∷ xs) = ap (λ ys. x ∷ ys) (take_drop n xs)

pub due_sent : (speaker taken : ℕ) (member : MemberState) (sent heard : List LineMessage) → AreWritable (take taken member.queue)
    → member.is_put_out ≡ false → member.has_left ≡ false → IsDue speaker member sent heard
    → IsDue speaker (record member { queue = drop taken member.queue }) (sent ++ map written_message (take taken member.queue)) heard
due_sent speaker taken member sent heard small out here due =
    let is : heard ≡ messages_from speaker (sent ++ map written_message (take taken member.queue)) ++ messages_by speaker (drop taken member.queue) =
    sent_prefix speaker taken member sent heard small (due.whole out here) in
    record {
      prefix = prefix_of (messages_from speaker (sent ++ map written_message (take taken member.queue))) (messages_by speaker (drop taken member.queue)) heard is;
      whole = λ still there. is;
    }

pub due_refused : (speaker taken : ℕ) (member : MemberState) (sent heard : List LineMessage) → AreWritable (take taken member.queue)
    → member.is_put_out ≡ false → member.has_left ≡ false → IsDue speaker member sent heard
    → IsDue speaker (put_out_member member) (sent ++ map written_message (take taken member.queue)) heard
due_refused speaker taken member sent heard small out here due = record {
  prefix = (due_sent speaker taken member sent heard small out here due).prefix;
  whole = λ still there. absurd (true≢false still);
}

pub due_gone : (speaker : ℕ) (member : MemberState) (sent heard : List LineMessage) → IsDue speaker member sent heard → IsDue speaker (gone_member member) sent heard
due_gone speaker member sent heard due = record { prefix = due.prefix; whole = λ out here. absurd (true≢false here) }

-- a new member was sent nothing, and nothing was heard for it
pub due_new : (speaker : ℕ) (member : MemberState) → member.queue ≡ [] → IsDue speaker member [] []
due_new speaker member none = record {
  prefix = record { rest = []; is = refl };
  whole = λ out here. sym (ap (λ (l : List Item). messages_by speaker l) none);
}
