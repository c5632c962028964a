-- What waits for a member is written to its line.
use Rattle.std.proofs.Common.{◌≡◌, ◌∙◌, ◌≤◌, ℕ, Bool, true, false, true≢false, List, [], length, drop, Option, Some, None, Result, IfOk, refl, sym, subst, arith}
use Rattle.rtc_plain_ice.specs.Messages.{is_ice_message}
use Rattle.rtc_plain_media.specs.declared.plain_media_event.PlainMediaEvent.{PlainMediaEvent}
use Rattle.rtc_peer_core.specs.declared.rtc_error.RtcError.{RtcError}
use Rattle.rtc_run_history.specs.declared.reply.Reply.{Reply}
use Rattle.rtc_run_history.specs.declared.side.Side.TheVariants.{Left}
use Rattle.rtc_run_history.specs.declared.step.Step.TheVariants.{Write}
use Rattle.rtc_run_history.specs.Memory.{lacks_memory}
use Rattle.rtc_run_history.specs.Past.{Entry}
use Rattle.rtc_run_history.specs.Performs.{Performs}
use Rattle.rtc_run.specs.ProgramPair.{PlainPairState, plain_parts}
use Rattle.rtc_room_laws.specs.Forwarding.{Forwards, SendsItems, WriteEnd, NotTaken, NotOpen, WriteRefused, is_write_refused}
use Rattle.rtc_room_laws.specs.Members.{MemberState, item_bytes, put_out_member}
use Rattle.rtc_room_hub.specs.SentItems.{SendsItem, SentUpTo, sent_in_outcome}
use Rattle.rtc_room_laws.specs.declared.item.Item.{Item}
use Rattle.rtc_room_laws.specs.declared.room_reply.RoomReply.{RoomReply}
use Rattle.rtc_room_laws.specs.declared.room_reply.RoomReply.TheVariants.{Forwarded, PutOut}
use Rattle.rtc_room_hub.specs.declared.sent.Sent.{Sent}

-- one item
pub sends_one : (line : ℕ) (item : Item) (bytes : List ℕ) (before after : PlainPairState) (reply : Reply PlainMediaEvent) (sent : Sent) → bytes ≡ item_bytes item
    → Performs plain_parts is_ice_message before (Write Left line true bytes) reply.outcome reply.table after → lacks_memory reply ≡ false
    → sent ≡ sent_in_outcome reply.outcome → SendsItem line item before sent after
sends_one line item bytes before after reply sent is performs lasts sent_is = record {
  outcome = reply.outcome;
  table = reply.table;
  performs = subst (λ (b : List ℕ). Performs plain_parts is_ice_message before (Write Left line true b) reply.outcome reply.table after) is performs;
  lasts = lasts;
  sent_is = sent_is;
}

-- what a forward does, by some writes
abbrev pub SomeForwards : (out : Bool) → (line : Option ℕ) → MemberState → PlainPairState → RoomReply → MemberState → PlainPairState → Type 0
SomeForwards out line member before reply member' after =
    (performed : List (Entry PlainMediaEvent)) × (length performed ≤ 1024) × Forwards out line member before reply performed member' after

refusal_is : (end : Option WriteEnd) → is_write_refused end ≡ true → (error : RtcError) × (end ≡ Some (WriteRefused error))
refusal_is None h = absurd (true≢false (sym h))
refusal_is (Some NotTaken) h = absurd (true≢false (sym h))
refusal_is (Some NotOpen) h = absurd (true≢false (sym h))
refusal_is (Some (WriteRefused error)) h = (error, refl)

-- the queue is the list of items that were sent
sent_queue : (line : ℕ) (items queue : List Item) (taken : ℕ) (refused : Bool) (before after : PlainPairState) → items ≡ queue
    → SentUpTo line items taken refused before after → SentUpTo line queue taken refused before after
sent_queue line items queue taken refused before after is h = subst (λ (l : List Item). SentUpTo line l taken refused before after) is h

pub forwards_refused : (line : ℕ) (items : List Item) (member member' : MemberState) (taken : ℕ) (refused : Bool) (before after : PlainPairState)
    → items ≡ member.queue → length items ≤ 1024 → SentUpTo line items taken refused before after → refused ≡ true → member' ≡ put_out_member member
    → SomeForwards false (Some line) member before PutOut member' after
forwards_refused line items member member' taken refused before after is few h was gone =
    let sent : SentUpTo line member.queue taken refused before after = sent_queue line items member.queue taken refused before after is h in
    let refusal : is_write_refused sent.end ≡ true = sent.refusal ∙ was in
    let found : (error : RtcError) × (sent.end ≡ Some (WriteRefused error)) = refusal_is sent.end refusal in
    let count : length sent.performed ≤ length member.queue = sent.sends.few in
    let most : length member.queue ≤ 1024 = subst (λ (l : List Item). length l ≤ 1024) is few in (
      sent.performed,
      omega (arith, count, most),
      (taken, found.0, subst (λ (end : Option WriteEnd). SendsItems line member.queue taken end before sent.performed after) found.1 sent.sends, gone),
    )

pub forwards_written : (line : ℕ) (items : List Item) (member member' : MemberState) (taken : ℕ) (refused : Bool) (before after : PlainPairState)
    → items ≡ member.queue → length items ≤ 1024 → SentUpTo line items taken refused before after → refused ≡ false
    → member' ≡ record member { queue = drop taken member.queue } → SomeForwards false (Some line) member before (Forwarded taken) member' after
forwards_written line items member member' taken refused before after is few h was left =
    let sent : SentUpTo line member.queue taken refused before after = sent_queue line items member.queue taken refused before after is h in
    let count : length sent.performed ≤ length member.queue = sent.sends.few in
    let most : length member.queue ≤ 1024 = subst (λ (l : List Item). length l ≤ 1024) is few in
    (sent.performed, omega (arith, count, most), (sent.end, sent.refusal ∙ was, sent.sends, left))

-- one who was put out before
pub forwards_out : (out : Bool) (line : Option ℕ) (member : MemberState) (before : PlainPairState) → out ≡ true
    → SomeForwards out line member before PutOut member before
forwards_out out line member before is =
    subst (λ (b : Bool). SomeForwards b line member before PutOut member before) (sym is) ([], omega arith, (refl, refl, refl))

-- one without a line
pub forwards_nothing : (out : Bool) (line : Option ℕ) (member : MemberState) (before : PlainPairState) → out ≡ false → line ≡ None
    → SomeForwards out line member before (Forwarded 0) member before
forwards_nothing out line member before is none =
    subst (λ (b : Bool). SomeForwards b line member before (Forwarded 0) member before) (sym is)
    (subst (λ (l : Option ℕ). SomeForwards false l member before (Forwarded 0) member before) (sym none) ([], omega arith, (refl, refl, refl, refl)))

-- one with a line
pub forwards_to : {E : Type 0} (out : Bool) (line : Option ℕ) (at : ℕ) (member member' : MemberState) (before after : PlainPairState) (result : Result RoomReply E)
    → out ≡ false → line ≡ Some at → IfOk result (λ reply. SomeForwards false (Some at) member before reply member' after)
    → IfOk result (λ reply. SomeForwards out line member before reply member' after)
forwards_to out line at member member' before after result is there h =
    subst (λ (b : Bool). IfOk result (λ reply. SomeForwards b line member before reply member' after)) (sym is)
    (subst (λ (l : Option ℕ). IfOk result (λ reply. SomeForwards false l member before reply member' after)) (sym there) h)
