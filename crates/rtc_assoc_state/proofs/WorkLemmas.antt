-- How much work each call adds.
use Rattle.std.proofs.Common.{ℕ, zero, suc, ◌≡◌, ◌+◌, ◌-◌, ◌*◌, ◌≤◌, ◌==◌, ◌&&◌, not, inl, inr, Bool, true, false, cond, List, [], ◌∷◌, ◌++◌, length, drop, Option, Some, None, refl, sym, ap, ◌∙◌, arith, length-append}
use Rattle.std.specs.Prelude.{is_some}
use Rattle.std.proofs.lemmas.Bool.Decides.{eqb_tells, leb_tells}
use Rattle.rtc_parts.specs.declared.assoc_event.AssocEvent.{AssocEvent}
use Rattle.rtc_parts.specs.declared.assoc_event.AssocEvent.TheVariants.{Connected, Lost, Readable, Finished, ResetComplete, BufferedAmountLow}
use Rattle.rtc_assoc_state.specs.declared.item.Item.{Item}
use Rattle.rtc_assoc_state.specs.declared.item_part.ItemPart.{ItemPart}
use Rattle.rtc_assoc_state.specs.declared.item_part.ItemPart.TheVariants.{More, Last, Close}
use Rattle.rtc_assoc_state.specs.declared.frame.Frame.{Frame}
use Rattle.rtc_assoc_state.specs.declared.frame.Frame.TheVariants.{Hello, Welcome, Data, Acknowledgement, Shutdown}
use Rattle.rtc_assoc_state.specs.Packets.{frame_in, acknowledgement_bytes}
use Rattle.rtc_assoc_state.specs.Pieces.{close_of, pieces_within, pieces_of, packets_from}
use Rattle.rtc_assoc_state.proofs.PacketLemmas.{nothing_reads_back}
use Rattle.rtc_assoc_state.specs.declared.close_state.CloseState.{CloseState}
use Rattle.rtc_assoc_state.specs.declared.close_state.CloseState.TheVariants.{Unclosed, Queued, Acknowledged}
use Rattle.rtc_assoc_state.specs.declared.stream_row.StreamRow.{StreamRow}
use Rattle.rtc_assoc_state.specs.declared.message.Message.{Message}
use Rattle.rtc_assoc_state.specs.Streams.{stream_of, put, reset_row, takes_messages, any_threshold, finished_count}
use Rattle.rtc_assoc_state.specs.Inbox.{is_message_of, without_messages, message_of, bytes_so_far}
use Rattle.rtc_assoc_state.specs.Outbox.{bytes_for, buffered, last_number, settled_count}
use Rattle.rtc_assoc_state.specs.Settling.{Told, told_of, reaches, can_reset, close_settled, part_settled, item_settled, settled}
use Rattle.rtc_assoc_state.specs.Contents.{Contents, work, is_ending, is_server, waits}
use Rattle.rtc_assoc_state.proofs.ReadableLemmas.{length-with}
use Rattle.rtc_assoc_state.specs.Calls.{opened, thresholded, sent, message_written, first_message_of, messages_behind, next_message, taken_out, stream_ended, shut_down, greeted, welcomed, acknowledged, item_counted, more_kept, last_kept, piece_kept, finished, reset_told, close_came_at, part_came, item_taken, item_came, answered, lost, framed, half_taken, at_moment, input_taken}
use Rattle.rtc_assoc_state.proofs.RaiseLemmas.{raises_item, threshold-stream_of}
use Rattle.rtc_assoc_state.proofs.RaiseLemmas.{stream_of-stream}

abbrev pub one_if : Bool → ℕ
one_if b = cond b 1 0

-- the finished streams once a row is put
pub finished_count-put : (row : StreamRow) (rows : List StreamRow) → finished_count (put row rows) + one_if (stream_of row.stream rows).finished ≡ finished_count rows + one_if row.finished
finished_count-put row [] = omega arith
finished_count-put row (x ∷ rows) =
    elim (eqb_tells x.stream row.stream) [
      | inl h ↦ rw h.0 (omega arith)
      | inr h ↦ rw h.0 (omega (arith, finished_count-put row rows))
    ]

-- what events and streams weigh
abbrev pub weight : List StreamRow → List AssocEvent → ℕ
weight streams events = 8 * length events + 8 * finished_count streams

own_finished : (id : ℕ) (streams : List StreamRow) → one_if (stream_of (stream_of id streams).stream streams).finished ≡ one_if (stream_of id streams).finished
own_finished id s = ap (λ k. one_if (stream_of k s).finished) (stream_of-stream id s)

weight_queued : (done can : Bool) (id : ℕ) (t : Told) → done ≡ (stream_of id t.streams).finished → let row = stream_of id t.streams in let r = cond (done && can) (told_of (put (reset_row row) t.streams) (t.events ++ ResetComplete row.stream ∷ [])) (told_of (put (record row { close = Acknowledged }) t.streams) t.events) in weight r.streams r.events ≡ weight t.streams t.events
weight_queued true true id t e =
    let row = stream_of id t.streams in
    let fin : one_if row.finished ≡ 1 = ap (λ b. one_if b) (sym e) in
    omega (arith, finished_count-put (reset_row row) t.streams, own_finished id t.streams, fin, length-append t.events (ResetComplete row.stream ∷ []))
weight_queued true false id t e = let row = stream_of id t.streams in omega (arith, finished_count-put (record row { close = Acknowledged }) t.streams, own_finished id t.streams)
weight_queued false can id t e = let row = stream_of id t.streams in omega (arith, finished_count-put (record row { close = Acknowledged }) t.streams, own_finished id t.streams)

weight_close : (close : CloseState) (id : ℕ) (t : Told) → let r = close_settled close (stream_of id t.streams) t in weight r.streams r.events ≡ weight t.streams t.events
weight_close Unclosed id t = refl
weight_close Queued id t = weight_queued (stream_of id t.streams).finished (can_reset (stream_of id t.streams)) id t refl
weight_close Acknowledged id t = refl

reaches_none : (threshold : Option ℕ) (before after : ℕ) → is_some threshold ≡ false → reaches threshold before after ≡ false
reaches_none None before after e = refl
reaches_none (Some n) before after e = absurd cc

weight_low : (b : Bool) (s : ℕ) (t : Told) → b ≡ false → let r = cond b (told_of t.streams (t.events ++ BufferedAmountLow s ∷ [])) t in weight r.streams r.events ≡ weight t.streams t.events
weight_low true s t e = absurd cc
weight_low false s t e = refl

weight_piece : (item : Item) (behind : List Item) (t : Told) → any_threshold t.streams ≡ false → let r = part_settled More item (stream_of item.stream t.streams) behind t in weight r.streams r.events ≡ weight t.streams t.events
weight_piece item behind t h =
    let row = stream_of item.stream t.streams in
    weight_low (reaches row.threshold (bytes_for item.stream item + buffered item.stream behind) (buffered item.stream behind)) item.stream t (reaches_none row.threshold _ _ (threshold-stream_of item.stream t.streams h))

weight_part : (part : ItemPart) (item : Item) (behind : List Item) (t : Told) → any_threshold t.streams ≡ false → let r = part_settled part item (stream_of item.stream t.streams) behind t in weight r.streams r.events ≡ weight t.streams t.events
weight_part Close item behind t h = weight_close (stream_of item.stream t.streams).close item.stream t
weight_part More item behind t h = weight_piece item behind t h
weight_part Last item behind t h = weight_piece item behind t h

weight_item : (item : Item) (behind : List Item) (t : Told) → any_threshold t.streams ≡ false → weight (item_settled item behind t).streams (item_settled item behind t).events ≡ weight t.streams t.events
unfolding item_settled
weight_item item behind t h = weight_part item.part item behind t h

weight_settled : (count : ℕ) (items : List Item) (t : Told) → any_threshold t.streams ≡ false → weight (settled count items t).streams (settled count items t).events ≡ weight t.streams t.events
weight_settled zero items t h = refl
weight_settled (suc count) [] t h = refl
weight_settled (suc count) (item ∷ items) t h =
    let mid = item_settled item items t in
    weight_settled count items mid ((raises_item item items t).thresholds h) ∙ weight_item item items t h

pub work-acknowledged : (n : ℕ) (p : Contents) → any_threshold p.streams ≡ false → work (acknowledged n p) ≡ work p
unfolding acknowledged
work-acknowledged n p h = omega (arith, weight_settled (settled_count n p.outbox) p.outbox.items (told_of p.streams p.events) h)

pub work-opened : (id : ℕ) (p : Contents) → work (opened id p) ≡ work p
unfolding opened
work-opened id p = let row = stream_of id p.streams in omega (arith, finished_count-put (record row { there = true }) p.streams, own_finished id p.streams)

pub work-thresholded : (id n : ℕ) (p : Contents) → work (thresholded id n p) ≡ work p
unfolding thresholded
work-thresholded id n p = let row = stream_of id p.streams in omega (arith, finished_count-put (record row { threshold = Some n }) p.streams, own_finished id p.streams)

length-packets : (a n : ℕ) (items : List Item) → length (packets_from a n items) ≡ length items
length-packets a n [] = refl
length-packets a n (item ∷ items) = ap suc (length-packets a (n + 1) items)

length-pieces : (count size s g i : ℕ) (bytes : List ℕ) → length (pieces_within count size s g i bytes) ≤ count + 1
unfolding pieces_within
length-pieces zero size s g i bytes = omega arith
length-pieces (suc count) size s g i bytes =
    elim (leb_tells (length bytes) size) [
      | inl e ↦ rw e.0 (omega arith)
      | inr e ↦ rw e.0 (omega (arith, length-pieces count size s g i (drop size bytes)))
    ]

pub work-sent : (now : ℕ) (items : List Item) (p : Contents) → work (sent now items p) ≡ work p + length items
unfolding sent
work-sent now items p = omega (arith, length-append p.packets (packets_from p.inbox.received (last_number p.outbox + 1) items), length-packets p.inbox.received (last_number p.outbox + 1) items)

pub work-written : (id i : ℕ) (bytes : List ℕ) (p : Contents) → work (message_written id i bytes p) ≤ work p + length bytes + 1
work-written id i bytes p =
    let items = pieces_of (p.limits.max_payload - 28) id (stream_of id p.streams).generation i bytes in
    omega (arith, work-sent p.clock.now items p, length-pieces (length bytes) (p.limits.max_payload - 28) id (stream_of id p.streams).generation i bytes)

length-without : (s g : ℕ) (messages : List Message) → length (without_messages s g messages) ≤ length messages
length-without s g [] = omega arith
length-without s g (m ∷ messages) = by_test (is_message_of s g m) (length-without s g messages)
  where
    by_test : (b : Bool) → length (without_messages s g messages) ≤ length messages → length (cond (not b) (m ∷ without_messages s g messages) (without_messages s g messages)) ≤ length (m ∷ messages)
    by_test true h = omega (arith, h)
    by_test false h = omega (arith, h)

pub work-ended : (now id : ℕ) (p : Contents) → work (stream_ended now id p) ≤ work p + 1
unfolding stream_ended sent
work-ended now id p =
    let row = stream_of id p.streams in
    let items = close_of id row.generation ∷ [] in
    omega (arith, finished_count-put (record row { close = Queued }) p.streams, own_finished id p.streams, length-without id row.generation p.inbox.unread, length-append p.packets (packets_from p.inbox.received (last_number p.outbox + 1) items), length-packets p.inbox.received (last_number p.outbox + 1) items)

pub work-shut_down : (p : Contents) → work (shut_down p) ≡ work p + 1
unfolding shut_down
work-shut_down p = omega (arith, length-append p.packets ((5 ∷ []) ∷ []))

length-behind : (s g : ℕ) (messages : List Message) (m : Message) → first_message_of s g messages ≡ Some m → length (messages_behind s g messages) + 1 ≡ length messages
length-behind s g [] m e = absurd cc
length-behind s g (x ∷ messages) m e = by_test (is_message_of s g x) (λ f. length-behind s g messages m f) e
  where
    by_test : (b : Bool) → (first_message_of s g messages ≡ Some m → length (messages_behind s g messages) + 1 ≡ length messages) → cond b (Some x) (first_message_of s g messages) ≡ Some m → length (cond b messages (x ∷ messages_behind s g messages)) + 1 ≡ length (x ∷ messages)
    by_test true h e = omega arith
    by_test false h e = omega (arith, h e)

pub work-taken_out : (id : ℕ) (p : Contents) (m : Message) → next_message id p ≡ Some m → work (taken_out id p) + 1 ≡ work p
unfolding taken_out
work-taken_out id p m e = omega (arith, length-behind id (stream_of id p.streams).generation p.inbox.unread m e)

few_told : (b : Bool) → length (cond b (Connected ∷ []) []) ≤ 1
few_told true = omega arith
few_told false = omega arith

few_told_unless : (b : Bool) → length (cond b [] (Connected ∷ [])) ≤ 1
few_told_unless true = omega arith
few_told_unless false = omega arith

pub work-greeted : (p : Contents) → work (greeted p) ≤ work p + 8
unfolding greeted
work-greeted p = omega (arith, length-append p.events (cond (waits p.standing) (Connected ∷ []) []), few_told (waits p.standing))

pub work-welcomed : (p : Contents) → work (welcomed p) ≤ work p + 9
unfolding welcomed
work-welcomed p = by_role (is_server p.standing.role)
  where
    by_role : (b : Bool) → work (cond b (record p { standing = record p.standing { connected = true }; events = p.events ++ (cond p.standing.connected [] (Connected ∷ [])); packets = p.packets ++ (2 ∷ []) ∷ [] }) p) ≤ work p + 9
    by_role true = omega (arith, length-append p.events (cond p.standing.connected [] (Connected ∷ [])), few_told_unless p.standing.connected, length-append p.packets ((2 ∷ []) ∷ []))
    by_role false = omega arith

pub work-lost : (p : Contents) → work (lost p) ≡ work p + 8
unfolding lost
work-lost p = omega (arith, length-append p.events (Lost ∷ []))

pub work-answered : (p : Contents) → work (answered p) ≡ work p + 1
unfolding answered
work-answered p = omega (arith, length-append p.packets (acknowledgement_bytes p.inbox.received ∷ []))

work-counted : (row : StreamRow) (p : Contents) → work (item_counted row p) + 8 * one_if (stream_of row.stream p.streams).finished ≡ work p + 8 * one_if row.finished
unfolding item_counted
work-counted row p = omega (arith, finished_count-put row p.streams)

at_most_one : (b : Bool) → one_if b ≤ 1
at_most_one true = omega arith
at_most_one false = omega arith

work-kept : (part : ItemPart) (item : Item) (p : Contents) → work (piece_kept part item p) ≤ work p + 9
unfolding more_kept last_kept
work-kept Last item p = omega (arith, length-append p.events (Readable item.stream ∷ []), length-with (message_of item (bytes_so_far item.stream item.generation p.inbox.parts ++ item.bytes)) p.inbox.unread)
work-kept More item p = omega arith
work-kept Close item p = omega arith

work-finished : (row : StreamRow) (p : Contents) → work (finished row p) ≤ work p + 8
unfolding finished
work-finished row p = omega (arith, length-append p.events (Finished row.stream ∷ []), length-without row.stream row.generation p.inbox.unread)

work-reset_told : (row : StreamRow) (p : Contents) → work (reset_told row p) ≡ work p + 8
unfolding reset_told
work-reset_told row p = omega (arith, length-append p.events (ResetComplete row.stream ∷ []))

work-last_close : (b : Bool) (row : StreamRow) (p : Contents) → work (cond b (reset_told row (item_counted (reset_row row) p)) (item_counted (record row { finished = true }) p)) ≤ work p + 8
work-last_close true row p = omega (arith, work-reset_told row (item_counted (reset_row row) p), work-counted (reset_row row) p)
work-last_close false row p = omega (arith, work-counted (record row { finished = true }) p)

work-close_at : (close : CloseState) (now : ℕ) (row : StreamRow) (p : Contents) → work (close_came_at close now row p) ≤ work p + 9
work-close_at Unclosed now row p =
    let new : StreamRow = record row { close = Queued; finished = true } in
    omega (arith, work-sent now (close_of row.stream row.generation ∷ []) (item_counted new p), work-counted new p)
work-close_at Queued now row p = omega (arith, work-counted (record row { finished = true }) p)
work-close_at Acknowledged now row p = omega (arith, work-last_close (can_reset row) row p)

work-close : (b : Bool) (now : ℕ) (row : StreamRow) (p : Contents) → one_if (stream_of row.stream p.streams).finished ≡ one_if row.finished → work (cond b (close_came_at row.close now row (finished row p)) (item_counted row p)) ≤ work p + 17
work-close true now row p e = omega (arith, work-close_at row.close now row (finished row p), work-finished row p)
work-close false now row p e = omega (arith, work-counted row p, e)

work-piece : (b : Bool) (item : Item) (row : StreamRow) (p : Contents) → one_if (stream_of row.stream p.streams).finished ≡ one_if row.finished → work (cond b (piece_kept item.part item (item_counted row p)) (item_counted row p)) ≤ work p + 17
work-piece true item row p e = omega (arith, work-kept item.part item (item_counted row p), work-counted row p, e)
work-piece false item row p e = omega (arith, work-counted row p, e)

work-part : (part : ItemPart) (now : ℕ) (item : Item) (row : StreamRow) (p : Contents) → one_if (stream_of row.stream p.streams).finished ≡ one_if row.finished → work (part_came part now item row p) ≤ work p + 17
work-part Close now item row p e = work-close (item.generation == row.generation) now row p e
work-part More now item row p e = work-piece (takes_messages row item.generation) item row p e
work-part Last now item row p e = work-piece (takes_messages row item.generation) item row p e

work-item_if : (b : Bool) (now : ℕ) (item : Item) (p : Contents) → work (cond b (item_taken now item p) p) ≤ work p + 17
work-item_if true now item p = work-part item.part now item (record (stream_of item.stream p.streams) { there = true }) p (own_finished item.stream p.streams)
work-item_if false now item p = omega arith

work-item_came : (now number : ℕ) (item : Item) (p : Contents) → work (item_came now number item p) ≤ work p + 17
unfolding item_came
work-item_came now number item p = work-item_if ((number == p.inbox.received + 1) && not (is_ending p)) now item p

same_threshold : (p : Contents) → any_threshold p.streams ≡ false → any_threshold (greeted p).streams ≡ false
unfolding greeted
same_threshold p h = h

pub work-half : (f : Option Frame) (p : Contents) → any_threshold p.streams ≡ false → work (half_taken f p) ≤ work p + 8
work-half None p h = omega arith
work-half (Some Hello) p h = omega arith
work-half (Some Welcome) p h = omega arith
work-half (Some (Data n number item)) p h = omega (arith, work-greeted p, work-acknowledged n (greeted p) (same_threshold p h))
work-half (Some (Acknowledgement n)) p h = omega arith
work-half (Some Shutdown) p h = omega arith

work-framed : (now : ℕ) (f : Frame) (p : Contents) → any_threshold p.streams ≡ false → work (framed now (Some f) p) ≤ work p + 26
work-framed now Hello p h = omega (arith, work-welcomed p)
work-framed now Welcome p h = omega (arith, work-greeted p)
work-framed now (Data n number item) p h =
    let m = acknowledged n (greeted p) in
    omega (arith, work-greeted p, work-acknowledged n (greeted p) (same_threshold p h), work-item_came now number item m, work-answered (item_came now number item m))
work-framed now (Acknowledgement n) p h = omega (arith, work-acknowledged n p h)
work-framed now Shutdown p h = omega (arith, work-lost p)

work-at_moment : (now : ℕ) (p : Contents) → work (at_moment now p) ≡ work p
unfolding at_moment
work-at_moment now p = refl

work-bytes : (now : ℕ) (f : Option Frame) (bytes : List ℕ) (p : Contents) → frame_in bytes ≡ f → any_threshold p.streams ≡ false → work (framed now f p) ≤ work p + 16 * (1 + length bytes)
work-bytes now None bytes p e h = omega arith
work-bytes now (Some f) [] p e h = absurd (let k : None ≡ Some f = sym nothing_reads_back ∙ e in cc)
work-bytes now (Some f) (b ∷ bytes) p e h = omega (arith, work-framed now f p h)

pub work-input : (now : ℕ) (bytes : List ℕ) (p : Contents) → any_threshold p.streams ≡ false → work (input_taken now bytes p) ≤ work p + 16 * (1 + length bytes)
work-input now bytes p h = omega (arith, work-at_moment now (framed now (frame_in bytes) p), work-bytes now (frame_in bytes) bytes p refl h)
