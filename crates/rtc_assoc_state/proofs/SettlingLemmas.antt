-- What is settled, step by step.
use Rattle.std.proofs.Common.{ℕ, zero, suc, ◌≡◌, ◌+◌, ◌-◌, ◌<◌, Bool, true, false, cond, List, [], ◌∷◌, ◌++◌, refl, sym, ap, subst, ◌∙◌, arith}
use Rattle.rtc_parts.specs.declared.assoc_event.AssocEvent.{AssocEvent}
use Rattle.rtc_parts.specs.declared.assoc_event.AssocEvent.TheVariants.{BufferedAmountLow}
use Rattle.rtc_assoc_state.specs.declared.item.Item.{Item}
use Rattle.rtc_assoc_state.specs.declared.item_part.ItemPart.TheVariants.{More, Last, Close}
use Rattle.rtc_assoc_state.specs.declared.stream_row.StreamRow.{StreamRow}
use Rattle.std.specs.BTreeMap.{BTreeMap}
use Rattle.rtc_assoc_state.specs.Amounts.{amount_of, Agree}
use Rattle.rtc_assoc_state.specs.Streams.{stream_of}
use Rattle.rtc_assoc_state.specs.Outbox.{bytes_for, buffered}
use Rattle.rtc_assoc_state.specs.Settling.{Told, told_of, reaches, settled, item_settled, close_settled, piece_settled}

-- one more item is settled
pub settled-step : (count : ℕ) (items behind : List Item) (item : Item) (t : Told) → 0 < count → items ≡ item ∷ behind → settled count items t ≡ settled (count - 1) behind (item_settled item behind t)
settled-step zero items behind item t h e = absurd (omega arith)
settled-step (suc count) items behind item t h e = ap (λ l. settled (suc count) l t) e ∙ ap (λ n. settled n behind (item_settled item behind t)) (omega arith)

pub settled-none : (items : List Item) (t : Told) → settled 0 items t ≡ t
settled-none items t = refl

-- by the part of an item
pub item_settled-Close : (item : Item) (behind : List Item) (t : Told) → item.part ≡ Close → item_settled item behind t ≡ close_settled (stream_of item.stream t.streams).close (stream_of item.stream t.streams) t
unfolding item_settled
item_settled-Close item behind t e = rw e refl

pub item_settled-More : (item : Item) (behind : List Item) (t : Told) → item.part ≡ More → item_settled item behind t ≡ piece_settled item (stream_of item.stream t.streams) behind t
unfolding item_settled
item_settled-More item behind t e = rw e refl

pub item_settled-Last : (item : Item) (behind : List Item) (t : Told) → item.part ≡ Last → item_settled item behind t ≡ piece_settled item (stream_of item.stream t.streams) behind t
unfolding item_settled
item_settled-Last item behind t e = rw e refl

-- a piece, by the amounts before and after
pub piece_settled-by : (item : Item) (behind : List Item) (streams : List StreamRow) (events told : List AssocEvent) (before after : ℕ) → before ≡ bytes_for item.stream item + buffered item.stream behind → after ≡ buffered item.stream behind
    → told ≡ cond (reaches (stream_of item.stream streams).threshold before after) (events ++ BufferedAmountLow item.stream ∷ []) events
    → told_of streams told ≡ piece_settled item (stream_of item.stream streams) behind (told_of streams events)
piece_settled-by item behind streams events told before after b a e =
    let row = stream_of item.stream streams in
    let test = reaches row.threshold (bytes_for item.stream item + buffered item.stream behind) (buffered item.stream behind) in
    let told_is : told ≡ cond test (events ++ BufferedAmountLow item.stream ∷ []) events =
    e ∙ ap (λ n. cond (reaches row.threshold n after) (events ++ BufferedAmountLow item.stream ∷ []) events) b
    ∙ ap (λ n. cond (reaches row.threshold (bytes_for item.stream item + buffered item.stream behind) n) (events ++ BufferedAmountLow item.stream ∷ []) events) a in
    ap (told_of streams) told_is ∙ by_test test
  where
    by_test : (b : Bool) → told_of streams (cond b (events ++ BufferedAmountLow item.stream ∷ []) events) ≡ cond b (record (told_of streams events) { events = events ++ BufferedAmountLow item.stream ∷ [] }) (told_of streams events)
    by_test true = refl
    by_test false = refl

-- a piece that is settled, by the amounts that are kept
pub settled-piece : (lent item : Item) (behind : List Item) (old new : BTreeMap ℕ ℕ) (streams : List StreamRow) (events told : List AssocEvent) (before after : ℕ) → lent ≡ item → Agree old (item ∷ behind) → Agree new behind
    → before ≡ amount_of lent.stream old → after ≡ amount_of lent.stream new
    → told ≡ cond (reaches (stream_of lent.stream streams).threshold before after) (events ++ BufferedAmountLow lent.stream ∷ []) events
    → told_of streams told ≡ piece_settled item (stream_of item.stream streams) behind (told_of streams events)
settled-piece lent item behind old new streams events told before after l a b p q e =
    let s_is : lent.stream ≡ item.stream = ap (λ i. i.stream) l in
    let told_is = subst (λ (s : ℕ). told ≡ cond (reaches (stream_of s streams).threshold before after) (events ++ BufferedAmountLow s ∷ []) events) s_is e in
    piece_settled-by item behind streams events told before after
    (p ∙ ap (λ s. amount_of s old) s_is ∙ a.each item.stream) (q ∙ ap (λ s. amount_of s new) s_is ∙ b.each item.stream) told_is

pub settled-close : (lent item : Item) (behind : List Item) (streams now : List StreamRow) (events told : List AssocEvent) → lent ≡ item → item.part ≡ Close
    → told_of now told ≡ close_settled (stream_of lent.stream streams).close (stream_of lent.stream streams) (told_of streams events)
    → told_of now told ≡ item_settled item behind (told_of streams events)
settled-close lent item behind streams now events told l p e =
    subst (λ (i : Item). told_of now told ≡ close_settled (stream_of i.stream streams).close (stream_of i.stream streams) (told_of streams events)) l e
    ∙ sym (item_settled-Close item behind (told_of streams events) p)
