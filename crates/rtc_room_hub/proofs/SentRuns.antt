-- What a forward performs on the pair of a member: as many writes as entries, and no outputs.
use Rattle.std.proofs.Common.{◌≡◌, ◌∙◌, ◌+◌, ℕ, Bool, true, false, List, [], ◌∷◌, length, take, drop, Option, Some, None, refl, sym, ap, subst, arith}
use Rattle.rtc_plain_ice.specs.Messages.{is_ice_message}
use Rattle.rtc_plain_media.specs.declared.plain_media_event.PlainMediaEvent.{PlainMediaEvent}
use Rattle.rtc_run_history.specs.declared.step.Step.{Step}
use Rattle.rtc_run_history.specs.Past.{Entry}
use Rattle.rtc_run_history.specs.Runs.{Reached}
use Rattle.rtc_run_history.specs.Sizes.{step_size}
use Rattle.rtc_run.specs.ProgramPair.{PlainPairState, plain_parts}
use Rattle.rtc_room_laws.specs.Forwarding.{AreTaken, AreWritten, Forwards, NotOpen, NotTaken, SendsItems, WriteEnd, WriteRefused, end_outcome, write_of}
use Rattle.rtc_room_laws.specs.Hearing.{outcome_outputs}
use Rattle.rtc_room_laws.specs.Members.{MemberState}
use Rattle.rtc_room_laws.specs.declared.item.Item.{Item}
use Rattle.rtc_room_laws.specs.declared.room_reply.RoomReply.{RoomReply}
use Rattle.rtc_room_laws.specs.declared.room_reply.RoomReply.TheVariants as replied
use Rattle.rtc_room_hub.proofs.LinedRuns.{entered_untold, line_on}

write_size : (line : ℕ) (item : Item) (step : Step) → step ≡ write_of line item → step_size step ≡ 1
write_size line item step is = ap step_size is

pub taken_size : (line : ℕ) (items : List Item) (performed : List (Entry PlainMediaEvent)) (before after : PlainPairState) → AreTaken line items performed
    → Reached plain_parts is_ice_message before performed after → after.size ≡ before.size + length performed
taken_size line items [] before after taken ran = omega (arith, ap (λ (p : PlainPairState). p.size) ran)
taken_size line items (entry ∷ performed) before after taken ran =
    let one : step_size entry.step ≡ 1 = write_size line taken.1 entry.step taken.3 in
    let grows : after.size ≡ ran.0.size + step_size entry.step = ran.2.performs.size in
    let rest : ran.0.size ≡ before.size + length performed = taken_size line taken.0 performed before ran.0 taken.5 ran.1 in
    omega (arith, one, grows, rest)

written_size : (line : ℕ) (items : List Item) (end : Option WriteEnd) (left : List Item) (performed : List (Entry PlainMediaEvent)) (before after : PlainPairState)
    → AreWritten line items end left performed → Reached plain_parts is_ice_message before performed after → after.size ≡ before.size + length performed
written_size line items None left performed before after h ran = taken_size line items performed before after h.0 ran
written_size line items (Some end) [] performed before after h ran = absurd h
written_size line items (Some end) (next ∷ left) [] before after h ran = absurd h
written_size line items (Some end) (next ∷ left) (entry ∷ performed) before after h ran =
    let one : step_size entry.step ≡ 1 = write_size line next entry.step h.1 in
    let grows : after.size ≡ ran.0.size + step_size entry.step = ran.2.performs.size in
    let rest : ran.0.size ≡ before.size + length performed = taken_size line items performed before ran.0 h.0 ran.1 in
    omega (arith, one, grows, rest)

-- a forward reaches a pair, by as many writes as entries, and outputs nothing
pub record Sends (before : PlainPairState) (performed : List (Entry PlainMediaEvent)) (after : PlainPairState) : Type 0 where
  pub went : Reached plain_parts is_ice_message before performed after
  pub grows : after.size ≡ before.size + length performed
  pub quiet : (line : Option ℕ) → line_on performed before after went line ≡ line

taken_quiet : (c : ℕ) (items : List Item) (performed : List (Entry PlainMediaEvent)) (before after : PlainPairState)
    (ran : Reached plain_parts is_ice_message before performed after) (line : Option ℕ) → AreTaken c items performed
    → line_on performed before after ran line ≡ line
taken_quiet c items [] before after ran line taken = refl
taken_quiet c items (entry ∷ performed) before after ran line taken =
    entered_untold entry after (line_on performed before ran.0 ran.1 line) (ap outcome_outputs taken.4)
    ∙ taken_quiet c taken.0 performed before ran.0 ran.1 line taken.5

end_untold : (end : WriteEnd) → outcome_outputs (end_outcome end) ≡ []
end_untold NotTaken = refl
end_untold NotOpen = refl
end_untold (WriteRefused error) = refl

written_quiet : (c : ℕ) (items : List Item) (end : Option WriteEnd) (left : List Item) (performed : List (Entry PlainMediaEvent))
    (before after : PlainPairState) (ran : Reached plain_parts is_ice_message before performed after) (line : Option ℕ)
    → AreWritten c items end left performed → line_on performed before after ran line ≡ line
written_quiet c items None left performed before after ran line h = taken_quiet c items performed before after ran line h.0
written_quiet c items (Some end) [] performed before after ran line h = absurd h
written_quiet c items (Some end) (next ∷ left) [] before after ran line h = absurd h
written_quiet c items (Some end) (next ∷ left) (entry ∷ performed) before after ran line h =
    entered_untold entry after (line_on performed before ran.0 ran.1 line) (ap outcome_outputs h.2 ∙ end_untold end)
    ∙ taken_quiet c items performed before ran.0 ran.1 line h.0

sends_none : (before after : PlainPairState) (performed : List (Entry PlainMediaEvent)) → performed ≡ [] → after ≡ before → Sends before performed after
sends_none before after performed none same =
    subst (λ (l : List (Entry PlainMediaEvent)). Sends before l after) (sym none)
    (record {
      went = same;
      grows = let size : after.size ≡ before.size = ap (λ (p : PlainPairState). p.size) same in omega (arith, size);
      quiet = λ line. refl;
    })

sends_items : (line : ℕ) (queue : List Item) (taken : ℕ) (end : Option WriteEnd) (before after : PlainPairState) (performed : List (Entry PlainMediaEvent))
    → SendsItems line queue taken end before performed after → Sends before performed after
sends_items line queue taken end before after performed h = record {
  went = h.went;
  grows = written_size line (take taken queue) end (drop taken queue) performed before after h.written h.went;
  quiet = λ own. written_quiet line (take taken queue) end (drop taken queue) performed before after h.went own h.written;
}

pub forwards_sends : (out : Bool) (line : Option ℕ) (member : MemberState) (before : PlainPairState) (reply : RoomReply) (performed : List (Entry PlainMediaEvent))
    (member' : MemberState) (after : PlainPairState) → Forwards out line member before reply performed member' after → Sends before performed after
forwards_sends true line member before replied.PutOut performed member' after h = sends_none before after performed h.0 h.2
forwards_sends false None member before (replied.Forwarded taken) performed member' after h = sends_none before after performed h.0 h.2
forwards_sends false (Some line) member before (replied.Forwarded taken) performed member' after h =
    sends_items line member.queue taken h.0 before after performed h.2
forwards_sends false (Some line) member before replied.PutOut performed member' after h =
    sends_items line member.queue h.0 (Some (WriteRefused h.1)) before after performed h.2
forwards_sends out line member before reply performed member' after h = absurd h

-- the line of a member stays by a forward
pub forwards_line : (out : Bool) (line : Option ℕ) (member : MemberState) (before : PlainPairState) (reply : RoomReply) (performed : List (Entry PlainMediaEvent))
    (member' : MemberState) (after : PlainPairState) → Forwards out line member before reply performed member' after → member'.line ≡ member.line
forwards_line true line member before replied.PutOut performed member' after h = ap (λ (x : MemberState). x.line) h.1
forwards_line false None member before (replied.Forwarded taken) performed member' after h = ap (λ (x : MemberState). x.line) h.1
forwards_line false (Some line) member before (replied.Forwarded taken) performed member' after h = ap (λ (x : MemberState). x.line) h.3
forwards_line false (Some line) member before replied.PutOut performed member' after h = ap (λ (x : MemberState). x.line) h.3
forwards_line out line member before reply performed member' after h = absurd h
