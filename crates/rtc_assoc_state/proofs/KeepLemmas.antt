-- What each call keeps: the start, and the course of generations, completed resets and thresholds.
use Rattle.std.proofs.Common.{ℕ, ◌≡◌, ◌+◌, ◌==◌, ◌&&◌, ◌⊎◌, not, inl, inr, Bool, true, false, cond, List, [], ◌∷◌, ◌++◌, Option, Some, None, refl, sym, ap, subst, ◌∙◌}
use Rattle.rtc_parts.specs.declared.assoc_event.AssocEvent.TheVariants.{Connected, Lost, Readable}
use Rattle.std.specs.Prelude.{is_some}
use Rattle.rtc_parts.specs.Among.{Member}
use Rattle.rtc_parts.proofs.AmongLemmas.{member-left, member-right}
use Rattle.rtc_assoc_state.specs.Inbox.{is_message_of, bytes_so_far, message_of, without_messages}
use Rattle.rtc_assoc_state.specs.Contents.{has_unread}
use Rattle.rtc_assoc_state.specs.Streams.{any_threshold}
use Rattle.rtc_assoc_state.proofs.ReadableLemmas.{any-with, any-filter, any-taken, message_stream}
use Rattle.rtc_assoc_state.proofs.SilentLemmas.{SilentRows, silent_fewer, silent_put, silent_open, silent_forgotten, silent_taken, silent_settled}
use Rattle.rtc_assoc_state.specs.declared.item.Item.{Item}
use Rattle.rtc_assoc_state.specs.declared.item_part.ItemPart.{ItemPart}
use Rattle.rtc_assoc_state.specs.declared.item_part.ItemPart.TheVariants.{More, Last, Close}
use Rattle.rtc_assoc_state.specs.declared.frame.Frame.{Frame}
use Rattle.rtc_assoc_state.specs.declared.frame.Frame.TheVariants.{Hello, Welcome, Data, Acknowledgement, Shutdown}
use Rattle.rtc_assoc_state.specs.Packets.{frame_in}
use Rattle.rtc_assoc_state.specs.Pieces.{close_of}
use Rattle.rtc_assoc_state.specs.declared.close_state.CloseState.{CloseState}
use Rattle.rtc_assoc_state.specs.declared.close_state.CloseState.TheVariants.{Unclosed, Queued, Acknowledged}
use Rattle.rtc_assoc_state.specs.declared.stream_row.StreamRow.{StreamRow}
use Rattle.rtc_assoc_state.specs.Streams.{stream_of, put, reset_row, is_closed_here, is_unclosed, takes_messages}
use Rattle.rtc_assoc_state.specs.Outbox.{settled_count}
use Rattle.rtc_assoc_state.specs.Settling.{told_of, can_reset}
use Rattle.rtc_assoc_state.specs.Contents.{Contents, is_started, is_ending, is_server, waits}
use Rattle.rtc_assoc_state.specs.Calls.{limited, opened, sent, taken_out, stream_ended, shut_down, greeted, welcomed, acknowledged, item_counted, more_kept, last_kept, piece_kept, finished, reset_told, close_came_at, part_came, item_put, item_taken, is_stray, with_stray, item_came, answered, lost, framed, half_taken, at_moment, input_taken, timed}
use Rattle.rtc_assoc_state.proofs.RaiseLemmas.{Raises, raises_none, raises_join, raises_told, raises_put, raises_settled, own_generation, own_close, raises_finished, raises_finished_reset, SaysNothing, threshold-stream_of}
use Rattle.rtc_assoc_state.proofs.RaiseLemmas.{stream_of-stream, stream_of-put, own_there}

-- no message stands unread of the generation of a stream that this end closed
abbrev pub Silent : Contents → Type 0
Silent p = SilentRows p.streams p.inbox.unread

pub record KeepsContents (p q : Contents) : Type 0 where
  pub started : is_started q ≡ is_started p
  pub max_send : q.limits.max_send ≡ p.limits.max_send
  pub raises : Raises p.streams q.streams p.events q.events
  pub readable : (id g : ℕ) → has_unread q id g ≡ true → (has_unread p id g ≡ true) ⊎ Member (Readable id) raises.more
  pub silent : Silent p → Silent q

pub keeps_none : (p : Contents) → KeepsContents p p
keeps_none p = record { started = refl; max_send = refl; raises = raises_none p.streams p.events; readable = λ id g u. inl u; silent = λ h. h }

pub keeps_join : (p q r : Contents) → KeepsContents p q → KeepsContents q r → KeepsContents p r
unfolding raises_join
keeps_join p q r h k = record {
  started = k.started ∙ h.started;
  max_send = k.max_send ∙ h.max_send;
  raises = raises_join p.streams q.streams r.streams p.events q.events r.events h.raises k.raises;
  readable = λ id g u. elim (k.readable id g u) [
    | inl x ↦ elim (h.readable id g x) [ inl y ↦ inl y | inr y ↦ inr (member-left (Readable id) h.raises.more k.raises.more y) ]
    | inr x ↦ inr (member-right (Readable id) h.raises.more k.raises.more x)
  ];
  silent = λ s. k.silent (h.silent s);
}

pub keeps_limited : (n m : ℕ) (p : Contents) → KeepsContents p (limited n m p)
unfolding limited
keeps_limited n m p = record { started = refl; max_send = refl; raises = raises_none p.streams p.events; readable = λ id g u. inl u; silent = λ h. h }

-- whether the stream of a row is closed
pub own_closed : (id : ℕ) (streams : List StreamRow) → is_closed_here (stream_of id streams) ≡ true → is_closed_here (stream_of (stream_of id streams).stream streams) ≡ true
own_closed id s c = ap (λ k. is_closed_here (stream_of k s)) (stream_of-stream id s) ∙ c

pub keeps_opened : (id : ℕ) (p : Contents) → KeepsContents p (opened id p)
unfolding opened
keeps_opened id p = record {
  started = refl;
  max_send = refl;
  raises = raises_put (record (stream_of id p.streams) { there = true }) p.streams p.events (own_generation id p.streams) (own_close id p.streams) (λ h. threshold-stream_of id p.streams h) (λ t. refl);
  readable = λ s g u. inl u;
  silent = silent_put (record (stream_of id p.streams) { there = true }) p.streams p.inbox.unread (own_generation id p.streams) (λ c. own_closed id p.streams c);
}

pub keeps_sent : (now : ℕ) (items : List Item) (p : Contents) → KeepsContents p (sent now items p)
unfolding sent
keeps_sent now items p = record { started = refl; max_send = refl; raises = raises_none p.streams p.events; readable = λ id g u. inl u; silent = λ h. h }

pub keeps_taken_out : (id : ℕ) (p : Contents) → KeepsContents p (taken_out id p)
unfolding taken_out
keeps_taken_out id p = record {
  started = refl;
  max_send = refl;
  raises = raises_none p.streams p.events;
  readable = λ s g u. inl (any-taken (is_message_of s g) id (stream_of id p.streams).generation p.inbox.unread u);
  silent = silent_fewer p.streams p.inbox.unread (taken_out id p).inbox.unread (λ q. any-taken q id (stream_of id p.streams).generation p.inbox.unread);
}

pub keeps_ended : (now id : ℕ) (p : Contents) → KeepsContents p (stream_ended now id p)
unfolding stream_ended sent
keeps_ended now id p = record {
  started = refl;
  max_send = refl;
  raises = raises_put (record (stream_of id p.streams) { close = Queued }) p.streams p.events (own_generation id p.streams) (own_close id p.streams) (λ h. threshold-stream_of id p.streams h) (λ t. own_there id p.streams t);
  readable = λ s g u. inl (any-filter (is_message_of s g) (λ m. not (is_message_of id (stream_of id p.streams).generation m)) p.inbox.unread u);
  silent = λ h.
      let row : StreamRow = record (stream_of id p.streams) { close = Queued } in
      let P : ℕ → Type 0 = λ n. SilentRows (put row p.streams) (without_messages n row.generation p.inbox.unread) in
      subst P (stream_of-stream id p.streams) (silent_forgotten row p.streams p.inbox.unread h);
}

pub keeps_shut_down : (p : Contents) → KeepsContents p (shut_down p)
unfolding shut_down
keeps_shut_down p = record { started = refl; max_send = refl; raises = raises_none p.streams p.events; readable = λ id g u. inl u; silent = λ h. h }

says_connected : SaysNothing (Connected ∷ [])
says_connected = record { completes = λ id. refl; in_order = λ id b. refl }

says_none : SaysNothing []
says_none = record { completes = λ id. refl; in_order = λ id b. refl }

told_or_not : (b : Bool) → SaysNothing (cond b (Connected ∷ []) [])
told_or_not true = says_connected
told_or_not false = says_none

told_unless : (b : Bool) → SaysNothing (cond b [] (Connected ∷ []))
told_unless true = says_none
told_unless false = says_connected

pub keeps_greeted : (p : Contents) → KeepsContents p (greeted p)
unfolding greeted
keeps_greeted p = record { started = refl; max_send = refl; raises = raises_told p.streams p.events (cond (waits p.standing) (Connected ∷ []) []) (told_or_not (waits p.standing)); readable = λ id g u. inl u; silent = λ h. h }

pub keeps_welcomed : (p : Contents) → KeepsContents p (welcomed p)
unfolding welcomed
keeps_welcomed p = by_role (is_server p.standing.role)
  where
    by_role : (b : Bool) → KeepsContents p (cond b (record p { standing = record p.standing { connected = true }; events = p.events ++ (cond p.standing.connected [] (Connected ∷ [])); packets = p.packets ++ (2 ∷ []) ∷ [] }) p)
    by_role true = record { started = refl; max_send = refl; raises = raises_told p.streams p.events (cond p.standing.connected [] (Connected ∷ [])) (told_unless p.standing.connected); readable = λ id g u. inl u; silent = λ h. h }
    by_role false = keeps_none p

pub keeps_acknowledged : (n : ℕ) (p : Contents) → KeepsContents p (acknowledged n p)
unfolding acknowledged
keeps_acknowledged n p = record { started = refl; max_send = refl; raises = raises_settled (settled_count n p.outbox) p.outbox.items (told_of p.streams p.events); readable = λ id g u. inl u; silent = silent_settled (settled_count n p.outbox) p.outbox.items (told_of p.streams p.events) p.inbox.unread }

pub keeps_lost : (p : Contents) → KeepsContents p (lost p)
unfolding lost
keeps_lost p = record { started = refl; max_send = refl; raises = raises_told p.streams p.events (Lost ∷ []) (record { completes = λ id. refl; in_order = λ id b. refl }); readable = λ id g u. inl u; silent = λ h. h }

pub keeps_answered : (p : Contents) → KeepsContents p (answered p)
unfolding answered
keeps_answered p = record { started = refl; max_send = refl; raises = raises_none p.streams p.events; readable = λ id g u. inl u; silent = λ h. h }

pub keeps_at_moment : (now : ℕ) (p : Contents) → KeepsContents p (at_moment now p)
unfolding at_moment
keeps_at_moment now p = record { started = refl; max_send = refl; raises = raises_none p.streams p.events; readable = λ id g u. inl u; silent = λ h. h }

pub keeps_timed : (now : ℕ) (p : Contents) → KeepsContents p (timed now p)
unfolding timed
keeps_timed now p = record { started = refl; max_send = refl; raises = raises_none p.streams p.events; readable = λ id g u. inl u; silent = λ h. h }

-- a row as the stream's is, but that it is there, and for whether it is finished
pub record Alike (row : StreamRow) (p : Contents) : Type 0 where
  pub generation : row.generation ≡ (stream_of row.stream p.streams).generation
  pub threshold : row.threshold ≡ (stream_of row.stream p.streams).threshold
  pub close : row.close ≡ (stream_of row.stream p.streams).close
  pub there : row.there ≡ true

alike_bound : (row : StreamRow) (p : Contents) → Alike row p → any_threshold p.streams ≡ false → is_some row.threshold ≡ false
alike_bound row p a h = ap (λ t. is_some t) a.threshold ∙ threshold-stream_of row.stream p.streams h

keeps_counted : (row : StreamRow) (p : Contents) → Alike row p → row.finished ≡ (stream_of row.stream p.streams).finished → KeepsContents p (item_counted row p)
unfolding item_counted
keeps_counted row p a f = record {
  started = refl;
  max_send = refl;
  raises = raises_put row p.streams p.events a.generation f (λ h. alike_bound row p a h) (λ t. a.there);
  readable = λ id g u. inl u;
  silent = silent_put row p.streams p.inbox.unread a.generation (λ c. ap (λ x. not (is_unclosed x)) (sym a.close) ∙ c);
}

keeps_kept : (part : ItemPart) (item : Item) (p : Contents) → takes_messages (stream_of item.stream p.streams) item.generation ≡ true → KeepsContents p (piece_kept part item p)
unfolding more_kept last_kept raises_told
keeps_kept Last item p t = record {
  started = refl;
  max_send = refl;
  raises = raises_told p.streams p.events (Readable item.stream ∷ []) (record { completes = λ id. refl; in_order = λ id b. refl });
  readable = λ id g u. elim (any-with (is_message_of id g) p.inbox.unread (message_of item (bytes_so_far item.stream item.generation p.inbox.parts ++ item.bytes)) u) [
    | inl h ↦ inl h
    | inr h ↦ inr (inl (ap Readable (sym (message_stream id g (message_of item (bytes_so_far item.stream item.generation p.inbox.parts ++ item.bytes)) h))))
  ];
  silent = silent_taken p.streams p.inbox.unread (message_of item (bytes_so_far item.stream item.generation p.inbox.parts ++ item.bytes)) t;
}
keeps_kept More item p t = record { started = refl; max_send = refl; raises = raises_none p.streams p.events; readable = λ id g u. inl u; silent = λ h. h }
keeps_kept Close item p t = record { started = refl; max_send = refl; raises = raises_none p.streams p.events; readable = λ id g u. inl u; silent = λ h. h }

-- the row of a stream once it is counted
counted_row : (id : ℕ) (row : StreamRow) (p : Contents) → row.stream ≡ id → stream_of id (item_counted row p).streams ≡ row
unfolding item_counted
counted_row id row p e = ap (λ n. stream_of n (put row p.streams)) (sym e) ∙ stream_of-put row p.streams

keeps_piece : (b : Bool) (item : Item) (row : StreamRow) (p : Contents) → Alike row p → row.finished ≡ (stream_of row.stream p.streams).finished → row.stream ≡ item.stream → takes_messages row item.generation ≡ b → KeepsContents p (cond b (piece_kept item.part item (item_counted row p)) (item_counted row p))
keeps_piece true item row p a f e t =
    keeps_join p (item_counted row p) (piece_kept item.part item (item_counted row p)) (keeps_counted row p a f)
    (keeps_kept item.part item (item_counted row p) (ap (λ r. takes_messages r item.generation) (counted_row item.stream row p e) ∙ t))
keeps_piece false item row p a f e t = keeps_counted row p a f

-- the other end's close, by how far this end's is from now on
keeps_finished : (close : CloseState) (row : StreamRow) (p : Contents) → Alike row p → KeepsContents p (item_counted (record row { close = close; finished = true }) (finished row p))
unfolding item_counted finished
keeps_finished close row p a = record {
  started = refl;
  max_send = refl;
  raises = raises_finished (record row { close = close; finished = true }) p.streams p.events a.generation refl (λ h. alike_bound row p a h) a.there;
  readable = λ id g u. inl (any-filter (is_message_of id g) (λ m. not (is_message_of row.stream row.generation m)) p.inbox.unread u);
  silent = silent_forgotten (record row { close = close; finished = true }) p.streams p.inbox.unread;
}

keeps_reset : (row : StreamRow) (p : Contents) → Alike row p → KeepsContents p (reset_told row (item_counted (reset_row row) (finished row p)))
unfolding reset_told item_counted finished
keeps_reset row p a = record {
  started = refl;
  max_send = refl;
  raises = raises_finished_reset row p.streams p.events a.generation;
  readable = λ id g u. inl (any-filter (is_message_of id g) (λ m. not (is_message_of row.stream row.generation m)) p.inbox.unread u);
  silent = λ h.
      silent_fewer (put (reset_row row) p.streams) p.inbox.unread (without_messages row.stream row.generation p.inbox.unread)
      (λ q. any-filter q (λ m. not (is_message_of row.stream row.generation m)) p.inbox.unread)
      (silent_open (reset_row row) p.streams p.inbox.unread refl h);
}

keeps_last_close : (b : Bool) (row : StreamRow) (p : Contents) → Alike row p → KeepsContents p (cond b (reset_told row (item_counted (reset_row row) (finished row p))) (item_counted (record row { finished = true }) (finished row p)))
keeps_last_close true row p a = keeps_reset row p a
keeps_last_close false row p a = keeps_finished row.close row p a

keeps_close_at : (close : CloseState) (now : ℕ) (row : StreamRow) (p : Contents) → Alike row p → KeepsContents p (close_came_at close now row (finished row p))
keeps_close_at Unclosed now row p a =
    let mid = item_counted (record row { close = Queued; finished = true }) (finished row p) in
    keeps_join p mid (sent now (close_of row.stream row.generation ∷ []) mid) (keeps_finished Queued row p a) (keeps_sent now (close_of row.stream row.generation ∷ []) mid)
keeps_close_at Queued now row p a = keeps_finished row.close row p a
keeps_close_at Acknowledged now row p a = keeps_last_close (can_reset row) row p a

keeps_close : (b : Bool) (now : ℕ) (row : StreamRow) (p : Contents) → Alike row p → row.finished ≡ (stream_of row.stream p.streams).finished → KeepsContents p (cond b (close_came_at row.close now row (finished row p)) (item_counted row p))
keeps_close true now row p a f = keeps_close_at row.close now row p a
keeps_close false now row p a f = keeps_counted row p a f

keeps_part : (part : ItemPart) (now : ℕ) (item : Item) (row : StreamRow) (p : Contents) → Alike row p → row.finished ≡ (stream_of row.stream p.streams).finished → row.stream ≡ item.stream → KeepsContents p (part_came part now item row p)
keeps_part Close now item row p a f e = keeps_close (item.generation == row.generation) now row p a f
keeps_part More now item row p a f e = keeps_piece (takes_messages row item.generation) item row p a f e refl
keeps_part Last now item row p a f e = keeps_piece (takes_messages row item.generation) item row p a f e refl

-- the row that an item finds
pub alike_there : (id : ℕ) (p : Contents) → Alike (record (stream_of id p.streams) { there = true }) p
alike_there id p = record {
  generation = own_generation id p.streams;
  threshold = ap (λ k. (stream_of k p.streams).threshold) (sym (stream_of-stream id p.streams));
  close = ap (λ k. (stream_of k p.streams).close) (sym (stream_of-stream id p.streams));
  there = refl;
}

keeps_marked : (b : Bool) (p : Contents) → KeepsContents p (with_stray b p)
keeps_marked b p = record { started = refl; max_send = refl; raises = raises_none p.streams p.events; readable = λ id g u. inl u; silent = λ h. h }

keeps_item_if : (b : Bool) (now : ℕ) (item : Item) (p : Contents) → KeepsContents p (cond b (item_taken now item p) p)
keeps_item_if true now item p =
    keeps_join p (item_put now item p) (item_taken now item p)
    (keeps_part item.part now item (record (stream_of item.stream p.streams) { there = true }) p (alike_there item.stream p) (own_close item.stream p.streams) (stream_of-stream item.stream p.streams))
    (keeps_marked (is_stray item p) (item_put now item p))
keeps_item_if false now item p = keeps_none p

pub keeps_item_came : (now number : ℕ) (item : Item) (p : Contents) → KeepsContents p (item_came now number item p)
unfolding item_came
keeps_item_came now number item p = keeps_item_if ((number == p.inbox.received + 1) && not (is_ending p)) now item p

keeps_data : (n : ℕ) (p : Contents) → KeepsContents p (acknowledged n (greeted p))
keeps_data n p = keeps_join p (greeted p) (acknowledged n (greeted p)) (keeps_greeted p) (keeps_acknowledged n (greeted p))

keeps_framed : (now : ℕ) (f : Option Frame) (p : Contents) → KeepsContents p (framed now f p)
keeps_framed now None p = keeps_none p
keeps_framed now (Some Hello) p = keeps_welcomed p
keeps_framed now (Some Welcome) p = keeps_greeted p
keeps_framed now (Some (Data n number item)) p =
    let m = acknowledged n (greeted p) in
    let r = item_came now number item m in
    keeps_join p m (answered r) (keeps_data n p) (keeps_join m r (answered r) (keeps_item_came now number item m) (keeps_answered r))
keeps_framed now (Some (Acknowledgement n)) p = keeps_acknowledged n p
keeps_framed now (Some Shutdown) p = keeps_lost p

pub keeps_half : (f : Option Frame) (p : Contents) → KeepsContents p (half_taken f p)
keeps_half None p = keeps_none p
keeps_half (Some Hello) p = keeps_none p
keeps_half (Some Welcome) p = keeps_none p
keeps_half (Some (Data n number item)) p = keeps_data n p
keeps_half (Some (Acknowledgement n)) p = keeps_none p
keeps_half (Some Shutdown) p = keeps_none p

pub keeps_input : (now : ℕ) (bytes : List ℕ) (p : Contents) → KeepsContents p (input_taken now bytes p)
keeps_input now bytes p = keeps_join p (framed now (frame_in bytes) p) (at_moment now (framed now (frame_in bytes) p)) (keeps_framed now (frame_in bytes) p) (keeps_at_moment now (framed now (frame_in bytes) p))
