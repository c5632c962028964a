-- In joined ends each item is of the generation that its stream has.
use Rattle.std.proofs.Common.{◌≡◌, ◌∙◌, ◌⊎◌, inl, inr, ◌+◌, ◌<◌, ◌≤◌, nat_le, nat_lt, ℕ, not, true, false, true≢false, List, [], ◌∷◌, ◌++◌, drop, take, length, Option, Some, None, refl, sym, ap, subst, arith}
use Rattle.std.proofs.Math.Seq.{drop-drop, take-append_seam}
use Rattle.std.proofs.lemmas.Bool.Decides.{leb_tells}
use Rattle.rtc_parts.specs.Among.{Among, Member}
use Rattle.rtc_parts.specs.AssociationActs.{AssociationAct, Given}
use Rattle.rtc_parts.specs.AssociationWords.{given, taken}
use Rattle.rtc_assoc_state.specs.Packets.{frame_in}
use Rattle.rtc_assoc_state.specs.declared.item.Item.{Item}
use Rattle.rtc_assoc_state.specs.declared.frame.Frame.{Frame}
use Rattle.rtc_assoc_state.specs.declared.frame.Frame.TheVariants.{Acknowledgement, Data, Hello, Shutdown, Welcome}
use Rattle.rtc_assoc_state.specs.declared.close_state.CloseState.{CloseState}
use Rattle.rtc_assoc_state.specs.declared.close_state.CloseState.TheVariants.{Unclosed, Queued, Acknowledged}
use Rattle.rtc_assoc_state.specs.declared.stream_row.StreamRow.{StreamRow}
use Rattle.rtc_assoc_state.specs.Contents.{Contents}
use Rattle.rtc_assoc_state.specs.Calls.{acknowledged, greeted}
use Rattle.rtc_assoc_state.specs.Outbox.{settled_count}
use Rattle.rtc_assoc_state.specs.Says.{Numbered}
use Rattle.rtc_assoc_state.specs.Settling.{can_reset, told_of}
use Rattle.rtc_assoc_state.specs.Streams.{LAST_GENERATION, is_unclosed, stream_of}
use Rattle.rtc_assoc.proofs.MessageLemmas.{HasClose}
use Rattle.rtc_assoc.proofs.OrderLemmas.{Honest, Modest}
use Rattle.rtc_run_laws.proofs.ClosingLevels.{Level, Timely}
use Rattle.rtc_run_laws.proofs.ClosingEnds.{InTime, act_frame}
use Rattle.rtc_run_laws.proofs.ClosingRows.{Keeps, RowKeeps}
use Rattle.rtc_run_laws.proofs.ClosingSettled.{settled_keeps}
use Rattle.rtc_run_laws.proofs.SentOrder.{IsAfter, OrderedFrom, Within, close_take_up, once_split, ordered_at, within_at}

lt_true : (a b : ℕ) → a < b → nat_lt a b ≡ true
lt_true a b less = grind (arith, less)

-- An item that is next is of the generation that its stream has, once the acknowledgement that its packet brings is taken.
pub level_timely : (a b : Contents) (v u : List AssociationAct) (packet : List ℕ) (n number : ℕ) (item : Item) → Level a b v u → Member packet (taken u) → frame_in packet ≡ Some (Data n number item) → number ≡ a.inbox.received + 1
    → item.generation ≡ (stream_of item.stream (acknowledged n (greeted a)).streams).generation
unfolding acknowledged greeted
level_timely a b v u packet n number item h m is next = by (leb_tells item.generation row.generation) (leb_tells row.generation item.generation)
  where
    count : ℕ
    count = settled_count n a.outbox

    row : StreamRow
    row = stream_of item.stream (acknowledged n (greeted a)).streams

    came_first : List Item
    came_first = take a.inbox.received h.back

    keeps : Keeps (acknowledged n (greeted a)).streams (drop count a.outbox.items) h.there came_first
    keeps = settled_keeps count a.outbox.items (told_of a.streams (greeted a).events) h.there came_first h.left

    at : Numbered 0 h.back number item
    at = subst (λ (f : Option Frame). Honest h.back f) is (h.back_is.sent packet (inr m))

    front_is : came_first ≡ at.before
    front_is =
        let number_is = at.number_is in
        let r : a.inbox.received ≡ length at.before = omega (arith, number_is, next) in
        ap (λ (l : List Item). take a.inbox.received l) at.is ∙ ap (λ (k : ℕ). take k (at.before ++ item ∷ at.after)) r ∙ take-append_seam at.before (item ∷ at.after)

    low : item.generation ≤ (stream_of item.stream b.streams).generation
    low =
        within_at item.stream (stream_of item.stream b.streams).generation at.before item at.after
        (subst (λ (l : List Item). Within item.stream (stream_of item.stream b.streams).generation l) at.is (RowKeeps.within (h.right item.stream))) refl

    acks : n ≤ b.inbox.received
    acks = subst (λ (f : Option Frame). Modest b.inbox.received f) is (h.forth_is.acks packet (inr m))

    enough : n ≤ a.outbox.acked + count
    enough =
        let within = h.forth_is.receiver.within in
        let total = h.forth_is.sender.count in
        let behind = h.forth_is.sender.behind in
        omega (arith, acks, within, total, behind)

    before_it : IsAfter at.before item
    before_it = ordered_at [] at.before item at.after (subst (λ (l : List Item). OrderedFrom [] l) at.is h.back_order)

    never : row.generation < item.generation → ⊥
    never less = by_known (own.known row.generation closed_there)
      where
        own : RowKeeps item.stream row (drop count a.outbox.items) h.there came_first
        own = keeps item.stream

        closed_there : HasClose item.stream row.generation came_first
        closed_there = subst (λ (l : List Item). HasClose item.stream row.generation l) (sym front_is) (before_it.0 row.generation less)

        heard : HasClose item.stream row.generation (take (a.outbox.acked + count) h.there)
        heard =
            close_take_up item.stream row.generation n (a.outbox.acked + count) h.there enough
            (subst (λ (f : Option Frame). Timely h.there f) is (h.back_timely packet (inr m)) row.generation less)

        rest_is : drop count a.outbox.items ≡ drop (a.outbox.acked + count) h.there
        rest_is = ap (λ (l : List Item). drop count l) h.forth_is.sender.rest ∙ drop-drop count a.outbox.acked h.there

        bound : (stream_of item.stream b.streams).generation ≤ LAST_GENERATION
        bound = RowKeeps.bounded (h.right item.stream)

        resets : can_reset row ≡ true
        resets = lt_true row.generation LAST_GENERATION (omega (arith, less, low, bound))

        by_close : (c : CloseState) → row.close ≡ c → row.finished ≡ true → ⊥
        by_close Unclosed e f = true≢false (sym (own.follows f) ∙ ap (λ (c : CloseState). not (is_unclosed c)) e)
        by_close Queued e f =
            once_split item.stream row.generation (a.outbox.acked + count) h.there h.there_order heard
            (subst (λ (l : List Item). HasClose item.stream row.generation l) rest_is (own.queued e))
        by_close Acknowledged e f = true≢false (sym resets ∙ own.rests e f)

        by_known : (row.generation < row.generation) ⊎ ((row.generation ≡ row.generation) × (row.finished ≡ true)) → ⊥
        by_known (inl l) = absurd (omega (arith, l))
        by_known (inr k) = by_close row.close refl k.1

    -- of each generation before its own one a close came, and no item is behind the close of its generation
    not_behind : item.generation < row.generation → ⊥
    not_behind less =
        before_it.1
        (subst (λ (l : List Item). HasClose item.stream item.generation l) front_is (RowKeeps.heard (keeps item.stream) item.generation less))

    by : ((nat_le item.generation row.generation ≡ true) × (item.generation ≤ row.generation))
        ⊎ ((nat_le item.generation row.generation ≡ false) × (row.generation < item.generation))
        → ((nat_le row.generation item.generation ≡ true) × (row.generation ≤ item.generation))
        ⊎ ((nat_le row.generation item.generation ≡ false) × (item.generation < row.generation)) → item.generation ≡ row.generation
    by (inr less) k = absurd (never less.1)
    by (inl le) (inr less) = absurd (not_behind less.1)
    by (inl le) (inl ge) = let low = le.1 in let high = ge.1 in omega (arith, low, high)

packet_in_time : (a b : Contents) (v u : List AssociationAct) (packet : List ℕ) (f : Option Frame) → frame_in packet ≡ f → Level a b v u → Member packet (taken u) → InTime a f
packet_in_time a b v u packet None is h m = tt
packet_in_time a b v u packet (Some Hello) is h m = tt
packet_in_time a b v u packet (Some Welcome) is h m = tt
packet_in_time a b v u packet (Some (Data n number item)) is h m = λ next. level_timely a b v u packet n number item h m is next
packet_in_time a b v u packet (Some (Acknowledgement n)) is h m = tt
packet_in_time a b v u packet (Some Shutdown) is h m = tt

-- what is given of what the other end transmitted comes in time
pub level_in_time : (a b : Contents) (v u : List AssociationAct) (act : AssociationAct) → Level a b v u → Among (given (act ∷ [])) (taken u) → InTime a (act_frame act)
level_in_time a b v u (Given packet) h m = packet_in_time a b v u packet (frame_in packet) refl h (m.each packet (inl refl))
level_in_time a b v u act h m = tt
