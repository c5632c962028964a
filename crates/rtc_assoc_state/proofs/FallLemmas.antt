-- No act but a write raises what is not acknowledged of a stream.
use Rattle.std.proofs.Common.{ℕ, zero, suc, ◌≡◌, ◌+◌, ◌==◌, ◌&&◌, ◌≤◌, not, Bool, true, false, cond, List, [], ◌∷◌, drop, Option, Some, None, length, refl, sym, ap, subst, arith}
use Rattle.rtc_parts.specs.Ppi.{ppi_number}
use Rattle.rtc_parts.specs.Why.{Timed, Shut, Other}
use Rattle.rtc_parts.specs.AssociationActs.{AssociationAct, Started, Opened, Wrote, Ended, Given, Taken, Read, Told, Stirred, Starts, ByConnect, ByAccept, BySnap, Stirs, LimitsSet, ConnectRefused, AcceptRefused, SnapRefused, OpenRefused, WriteRefused, ReadRefused, EndRefused, ThresholdSet, ReliabilitySet, Acted, writes_to}
use Rattle.rtc_assoc_state.specs.declared.item.Item.{Item}
use Rattle.rtc_assoc_state.specs.declared.item_part.ItemPart.{ItemPart}
use Rattle.rtc_assoc_state.specs.declared.item_part.ItemPart.TheVariants.{More, Last, Close}
use Rattle.rtc_assoc_state.specs.declared.frame.Frame.{Frame}
use Rattle.rtc_assoc_state.specs.declared.frame.Frame.TheVariants.{Hello, Welcome, Data, Acknowledgement, Shutdown}
use Rattle.rtc_assoc_state.specs.Packets.{frame_in}
use Rattle.rtc_assoc_state.specs.Pieces.{close_of}
use Rattle.rtc_assoc_state.specs.declared.close_state.CloseState.{CloseState}
use Rattle.rtc_assoc_state.specs.declared.close_state.CloseState.TheVariants.{Unclosed, Queued, Acknowledged}
use Rattle.rtc_assoc_state.specs.declared.stream_row.StreamRow.{StreamRow}
use Rattle.rtc_assoc_state.specs.Streams.{stream_of, reset_row, takes_messages}
use Rattle.rtc_assoc_state.specs.Outbox.{buffered, settled_count}
use Rattle.rtc_assoc_state.specs.Settling.{can_reset}
use Rattle.rtc_assoc_state.specs.Contents.{Contents, is_ending, is_server}
use Rattle.rtc_assoc_state.specs.Calls.{limited, connected, accepted, snapped, started_as, said_hello, opened, sent, message_written, next_message, taken_out, stream_ended, thresholded, shut_down, greeted, welcomed, acknowledged, item_counted, more_kept, last_kept, piece_kept, finished, reset_told, close_came_at, part_came, item_put, item_taken, is_stray, with_stray, item_came, answered, lost, framed, half_taken, at_moment, input_taken, timed}
use Rattle.rtc_assoc_state.specs.PlainMeaning.{plain_meaning, Leaves, Sends, Reads, ending_cause, open_cause, write_cause, end_cause, stream_cause}
use Rattle.rtc_assoc_state.proofs.BufferedLemmas.{buffered-append}
use Rattle.rtc_assoc_state.proofs.DoesLemmas.{refused_changes_nothing, does_leaves, gives, times, polls_some, transmits_some, reads_some}

-- of no stream more is unacknowledged
abbrev pub Falls : Contents → Contents → Type 0
Falls p q = (id : ℕ) → buffered id q.outbox.items ≤ buffered id p.outbox.items

falls_none : (p : Contents) → Falls p p
falls_none p = λ id. omega arith

falls_by : (p q : Contents) → q.outbox.items ≡ p.outbox.items → Falls p q
falls_by p q e = λ id. omega (arith, ap (λ (l : List Item). buffered id l) e)

falls_join : (p q r : Contents) → Falls p q → Falls q r → Falls p r
falls_join p q r h k = λ id. omega (arith, h id, k id)

falls_drop : (n id : ℕ) (items : List Item) → buffered id (drop n items) ≤ buffered id items
falls_drop zero id items = omega arith
falls_drop (suc n) id [] = omega arith
falls_drop (suc n) id (item ∷ items) = omega (arith, falls_drop n id items)

-- ---- what each call leaves

falls-connected : (now m : ℕ) (p : Contents) → Falls p (connected now m p)
unfolding started_as said_hello
falls-connected now m p = falls_none p

falls-accepted : (now m : ℕ) (p : Contents) → Falls p (accepted now m p)
unfolding started_as
falls-accepted now m p = falls_none p

falls-snapped : (now m : ℕ) (p : Contents) → Falls p (snapped now m p)
unfolding snapped started_as
falls-snapped now m p = falls_none p

falls-limited : (n m : ℕ) (p : Contents) → Falls p (limited n m p)
unfolding limited
falls-limited n m p = falls_none p

falls-opened : (id : ℕ) (p : Contents) → Falls p (opened id p)
unfolding opened
falls-opened id p = falls_none p

falls-taken_out : (id : ℕ) (p : Contents) → Falls p (taken_out id p)
unfolding taken_out
falls-taken_out id p = falls_none p

falls-thresholded : (id n : ℕ) (p : Contents) → Falls p (thresholded id n p)
unfolding thresholded
falls-thresholded id n p = falls_none p

falls-shut_down : (p : Contents) → Falls p (shut_down p)
unfolding shut_down
falls-shut_down p = falls_none p

-- a close has no bytes
none_of : (b : Bool) (n : ℕ) → n ≡ 0 → cond b n 0 ≡ 0
none_of true n e = e
none_of false n e = refl

falls-close : (now s g : ℕ) (p : Contents) → Falls p (sent now (close_of s g ∷ []) p)
unfolding sent
falls-close now s g p = λ id. omega (arith, buffered-append id p.outbox.items (close_of s g ∷ []), none_of (s == id) 0 refl)

falls-ended : (now id : ℕ) (p : Contents) → Falls p (stream_ended now id p)
unfolding stream_ended sent
falls-ended now id p = λ s.
    let g = (stream_of id p.streams).generation in
    omega (arith, buffered-append s p.outbox.items (close_of id g ∷ []), none_of (id == s) 0 refl)

falls-timed : (now : ℕ) (p : Contents) → Falls p (timed now p)
unfolding timed
falls-timed now p = falls_none p

-- ---- packets

falls-greeted : (p : Contents) → Falls p (greeted p)
unfolding greeted
falls-greeted p = falls_none p

items-welcomed : (p : Contents) → (welcomed p).outbox.items ≡ p.outbox.items
unfolding welcomed
items-welcomed p = by (is_server p.standing.role) refl
  where
    by : (b : Bool) → is_server p.standing.role ≡ b → (welcomed p).outbox.items ≡ p.outbox.items
    by true e = rw e refl
    by false e = rw e refl

falls-acknowledged : (n : ℕ) (p : Contents) → Falls p (acknowledged n p)
unfolding acknowledged
falls-acknowledged n p = λ id. falls_drop (settled_count n p.outbox) id p.outbox.items

falls-lost : (p : Contents) → Falls p (lost p)
unfolding lost
falls-lost p = falls_none p

falls-answered : (p : Contents) → Falls p (answered p)
unfolding answered
falls-answered p = falls_none p

falls-at_moment : (now : ℕ) (p : Contents) → Falls p (at_moment now p)
unfolding at_moment
falls-at_moment now p = falls_none p

falls-counted : (row : StreamRow) (p : Contents) → Falls p (item_counted row p)
unfolding item_counted
falls-counted row p = falls_none p

falls-kept : (part : ItemPart) (item : Item) (p : Contents) → Falls p (piece_kept part item p)
unfolding more_kept last_kept
falls-kept Last item p = falls_none p
falls-kept More item p = falls_none p
falls-kept Close item p = falls_none p

falls-piece : (b : Bool) (item : Item) (row : StreamRow) (p : Contents) → Falls p (cond b (piece_kept item.part item (item_counted row p)) (item_counted row p))
falls-piece true item row p =
    falls_join p (item_counted row p) (piece_kept item.part item (item_counted row p)) (falls-counted row p) (falls-kept item.part item (item_counted row p))
falls-piece false item row p = falls-counted row p

falls-finished : (row : StreamRow) (p : Contents) → Falls p (finished row p)
unfolding finished
falls-finished row p = falls_none p

falls-reset : (row : StreamRow) (p : Contents) → Falls p (reset_told row p)
unfolding reset_told
falls-reset row p = falls_none p

falls-last_close : (b : Bool) (row : StreamRow) (p : Contents) → Falls p (cond b (reset_told row (item_counted (reset_row row) p)) (item_counted (record row { finished = true }) p))
falls-last_close true row p =
    let mid = item_counted (reset_row row) p in falls_join p mid (reset_told row mid) (falls-counted (reset_row row) p) (falls-reset row mid)
falls-last_close false row p = falls-counted (record row { finished = true }) p

falls-close_at : (close : CloseState) (now : ℕ) (row : StreamRow) (p : Contents) → Falls p (close_came_at close now row p)
falls-close_at Unclosed now row p =
    let mid = item_counted (record row { close = Queued; finished = true }) p in
    falls_join p mid (sent now (close_of row.stream row.generation ∷ []) mid) (falls-counted (record row { close = Queued; finished = true }) p)
    (falls-close now row.stream row.generation mid)
falls-close_at Queued now row p = falls-counted (record row { finished = true }) p
falls-close_at Acknowledged now row p = falls-last_close (can_reset row) row p

falls-close_came : (b : Bool) (now : ℕ) (row : StreamRow) (p : Contents) → Falls p (cond b (close_came_at row.close now row (finished row p)) (item_counted row p))
falls-close_came true now row p =
    falls_join p (finished row p) (close_came_at row.close now row (finished row p)) (falls-finished row p) (falls-close_at row.close now row (finished row p))
falls-close_came false now row p = falls-counted row p

falls-part : (part : ItemPart) (now : ℕ) (item : Item) (row : StreamRow) (p : Contents) → Falls p (part_came part now item row p)
falls-part Close now item row p = falls-close_came (item.generation == row.generation) now row p
falls-part More now item row p = falls-piece (takes_messages row item.generation) item row p
falls-part Last now item row p = falls-piece (takes_messages row item.generation) item row p

falls-strayed : (b : Bool) (p : Contents) → Falls p (with_stray b p)
falls-strayed b p = falls_none p

falls-item_if : (b : Bool) (now : ℕ) (item : Item) (p : Contents) → Falls p (cond b (item_taken now item p) p)
falls-item_if true now item p =
    falls_join p (item_put now item p) (item_taken now item p)
    (falls-part item.part now item (record (stream_of item.stream p.streams) { there = true }) p) (falls-strayed (is_stray item p) (item_put now item p))
falls-item_if false now item p = falls_none p

falls-item_came : (now number : ℕ) (item : Item) (p : Contents) → Falls p (item_came now number item p)
unfolding item_came
falls-item_came now number item p = falls-item_if ((number == p.inbox.received + 1) && not (is_ending p)) now item p

falls-data : (n : ℕ) (p : Contents) → Falls p (acknowledged n (greeted p))
falls-data n p = falls_join p (greeted p) (acknowledged n (greeted p)) (falls-greeted p) (falls-acknowledged n (greeted p))

falls-framed : (now : ℕ) (f : Option Frame) (p : Contents) → Falls p (framed now f p)
falls-framed now None p = falls_none p
falls-framed now (Some Hello) p = falls_by p (welcomed p) (items-welcomed p)
falls-framed now (Some Welcome) p = falls-greeted p
falls-framed now (Some (Data n number item)) p =
    let m = acknowledged n (greeted p) in
    let r = item_came now number item m in
    falls_join p m (answered r) (falls-data n p) (falls_join m r (answered r) (falls-item_came now number item m) (falls-answered r))
falls-framed now (Some (Acknowledgement n)) p = falls-acknowledged n p
falls-framed now (Some Shutdown) p = falls-lost p

falls-half : (f : Option Frame) (p : Contents) → Falls p (half_taken f p)
falls-half None p = falls_none p
falls-half (Some Hello) p = falls_none p
falls-half (Some Welcome) p = falls_none p
falls-half (Some (Data n number item)) p = falls-data n p
falls-half (Some (Acknowledgement n)) p = falls_none p
falls-half (Some Shutdown) p = falls_none p

falls-input : (now : ℕ) (bytes : List ℕ) (p : Contents) → Falls p (input_taken now bytes p)
falls-input now bytes p =
    let mid = framed now (frame_in bytes) p in falls_join p mid (at_moment now mid) (falls-framed now (frame_in bytes) p) (falls-at_moment now mid)

-- ---- acts

falls_same : (p q : Contents) → q ≡ p → Falls p q
falls_same p q e = falls_by p q (ap (λ (c : Contents). c.outbox.items) e)

falls-starts : (p q : Contents) → Starts plain_meaning p q → Falls p q
falls-starts p q (ByConnect now m h) = subst (Falls p) (sym h.1) (falls-connected now m p)
falls-starts p q (ByAccept now m h) = subst (Falls p) (sym h.1) (falls-accepted now m p)
falls-starts p q (BySnap now m l o h) = subst (Falls p) (sym h.1) (falls-snapped now m p)

falls-other : (p q : Contents) → Stirs plain_meaning p q → Falls p q
falls-other p q (LimitsSet n m h) = subst (Falls p) (sym h) (falls-limited n m p)
falls-other p q (ConnectRefused now m e s h) = falls_same p q (refused_changes_nothing None p q (Leaves (connected now m p)) e h)
falls-other p q (AcceptRefused now m e s h) = falls_same p q (refused_changes_nothing None p q (Leaves (accepted now m p)) e h)
falls-other p q (SnapRefused now m l o e s h) = falls_same p q (refused_changes_nothing None p q (Leaves (snapped now m p)) e h)
falls-other p q (OpenRefused id e h) = falls_same p q (refused_changes_nothing (open_cause p id) p q (Leaves (opened id p)) e h)
falls-other p q (WriteRefused id i b e h) =
    falls_same p q (refused_changes_nothing (write_cause p id b) p q (λ n o. (n ≡ length b) × Sends p (message_written id (ppi_number i) b p) o) e h)
falls-other p q (ReadRefused id e h) = falls_same p q (refused_changes_nothing (stream_cause p id) p q (λ m o. Reads (next_message id p) id p m o) e h)
falls-other p q (EndRefused id e h) = falls_same p q (refused_changes_nothing {T = Unit {0}} (end_cause p id) p q (λ _ o. Sends p (stream_ended p.clock.now id p) o) e h)
falls-other p q (ThresholdSet id n r h) = does_leaves (Falls p) (stream_cause p id) p (thresholded id n p) q r (falls_none p) (falls-thresholded id n p) h
falls-other p q (ReliabilitySet id u t n r h) = does_leaves (Falls p) (stream_cause p id) p p q r (falls_none p) (falls_none p) h

-- a write raises that of its own stream alone
others_written : (p : Contents) (id i : ℕ) (bytes : List ℕ) (s : ℕ) → (buffered s (message_written id i bytes p).outbox.items ≡ buffered s p.outbox.items + cond (id == s) (length bytes) 0)
    → (id == s) ≡ false → buffered s (message_written id i bytes p).outbox.items ≤ buffered s p.outbox.items
others_written p id i bytes s k e = omega (arith, rw e at k)

pub falls_act : (p q : Contents) (act : AssociationAct) (id : ℕ)
    → ((s i : ℕ) (bytes : List ℕ) → buffered id (message_written s i bytes p).outbox.items ≡ buffered id p.outbox.items + cond (s == id) (length bytes) 0)
    → writes_to id act ≡ false → Acted plain_meaning p act q → buffered id q.outbox.items ≤ buffered id p.outbox.items
falls_act p q Started id k other h = falls-starts p q h.1 id
falls_act p q (Opened s g) id k other h = subst (Falls p) (sym h.0.1) (falls-opened s p) id
falls_act p q (Wrote s g i b) id k other h =
    subst (λ (c : Contents). buffered id c.outbox.items ≤ buffered id p.outbox.items) (sym h.1.1.0.1.1.0) (others_written p s (ppi_number h.0) b id (k s (ppi_number h.0) b) other)
falls_act p q (Ended s g) id k other h = subst (Falls p) (sym h.0.1.0) (falls-ended p.clock.now s p) id
falls_act p q (Given b) id k other h = gives (Falls p) p q h.0 b h.1.0 (falls_none p) (falls-half (frame_in b) p) (falls-input h.0 b p) h.1.1 id
falls_act p q (Taken b) id k other h = let w = transmits_some p.packets p q b h in falls_by p q (ap (λ (c : Contents). c.outbox.items) w.1.1) id
falls_act p q (Read s g i b) id k other h =
    let w = reads_some (next_message s p) s p q (h.0, b) h.1.0.1 in subst (Falls p) (sym w.1.2) (falls-taken_out s p) id
falls_act p q (Told e) id k other h = let w = polls_some p.events p q e h in falls_by p q (ap (λ (c : Contents). c.outbox.items) w.1) id
falls_act p q (Stirred (Timed now)) id k other h = times (Falls p) p q now h.0 (falls_none p) (falls-timed now p) h.1 id
falls_act p q (Stirred Shut) id k other h = does_leaves (Falls p) (ending_cause p) p (shut_down p) q h.0 (falls_none p) (falls-shut_down p) h.1 id
falls_act p q (Stirred Other) id k other h = falls-other p q h id
