-- How an end of the plain association goes on by each of its calls.
use Rattle.std.proofs.Common.{◌≡◌, ◌⊎◌, inl, inr, ℕ, ◌<◌, ◌≤◌, ◌==◌, cond, Bool, true, false, List, [], ◌∷◌, ◌++◌, Option, Some, None, Result, refl, sym, ap, subst, ◌∙◌, arith}
use Rattle.std.proofs.Common.{length-append}
use Rattle.std.proofs.lemmas.List.{length-drop}
use Rattle.std.specs.declared.alloc.AllocError.{AllocError}
use Rattle.rtc_parts.specs.declared.assoc_event.AssocEvent.TheVariants.{Connected}
use Rattle.rtc_assoc_state.specs.declared.item.Item.{Item}
use Rattle.rtc_assoc_state.specs.declared.item_part.ItemPart.{ItemPart}
use Rattle.rtc_assoc_state.specs.declared.item_part.ItemPart.TheVariants.{More, Last, Close}
use Rattle.rtc_assoc_state.specs.declared.frame.Frame.{Frame}
use Rattle.rtc_assoc_state.specs.declared.frame.Frame.TheVariants.{Hello, Welcome, Data, Acknowledgement, Shutdown}
use Rattle.rtc_assoc_state.specs.Packets.{frame_in}
use Rattle.rtc_assoc_state.specs.Pieces.{close_of}
use Rattle.rtc_assoc_state.specs.declared.close_state.CloseState.{CloseState}
use Rattle.rtc_assoc_state.specs.declared.close_state.CloseState.TheVariants.{Unclosed, Queued, Acknowledged}
use Rattle.rtc_assoc_state.specs.declared.stream_row.StreamRow.{StreamRow}
use Rattle.rtc_assoc_state.specs.Contents.{Contents, is_server}
use Rattle.rtc_assoc_state.specs.Streams.{stream_of, put, reset_row, takes_messages}
use Rattle.rtc_assoc_state.specs.Outbox.{last_number, settled_count}
use Rattle.rtc_assoc_state.specs.Settling.{told_of, can_reset}
use Rattle.rtc_assoc_state.specs.Calls.{limited, started_as, said_hello, connected, accepted, snapped, opened, sent, taken_out, stream_ended, thresholded, shut_down, greeted, welcomed, acknowledged, item_counted, more_kept, last_kept, piece_kept, finished, reset_told, close_came_at, part_came, item_put, item_taken, is_stray, with_stray, item_came, answered, lost, framed, at_moment, input_taken, half_taken, timed}
use Rattle.rtc_assoc_state.specs.PlainMeaning.{Gives}
use Rattle.rtc_assoc_state.proofs.RaiseLemmas.{stream_of-stream}
use Rattle.rtc_assoc_state.proofs.DoesLemmas.{gives}
use Rattle.rtc_sctp_laws.proofs.RowsGo.{RowStays, RowGoes, row_stays, row_resets, RowsGo, rows_same, rows_join, rows_put_of, rows_settled}

-- how an end goes on
pub record EndGoes (p q : Contents) : Type 0 where
  pub rows : RowsGo p.streams q.streams
  pub numbers : last_number p.outbox ≤ last_number q.outbox
  pub shut : p.standing.shut ≡ true → q.standing.shut ≡ true
  pub lost : p.standing.lost ≡ true → q.standing.lost ≡ true
  pub strayed : p.inbox.strayed ≡ true → q.inbox.strayed ≡ true

pub goes_same : (p q : Contents) → q.streams ≡ p.streams → q.outbox ≡ p.outbox → q.standing.shut ≡ p.standing.shut → q.standing.lost ≡ p.standing.lost → q.inbox.strayed ≡ p.inbox.strayed → EndGoes p q
goes_same p q s o x y a = record {
  rows = rows_same p.streams q.streams s;
  numbers = let same : last_number q.outbox ≡ last_number p.outbox = ap last_number o in omega (arith, same);
  shut = λ h. x ∙ h;
  lost = λ h. y ∙ h;
  strayed = λ h. a ∙ h;
}

pub goes_none : (p : Contents) → EndGoes p p
goes_none p = goes_same p p refl refl refl refl refl

pub goes_join : (p q r : Contents) → EndGoes p q → EndGoes q r → EndGoes p r
goes_join p q r h k = record {
  rows = rows_join p.streams q.streams r.streams h.rows k.rows;
  numbers = omega (arith, h.numbers, k.numbers);
  shut = λ x. k.shut (h.shut x);
  lost = λ x. k.lost (h.lost x);
  strayed = λ x. k.strayed (h.strayed x);
}

pub goes_at : (p q r : Contents) → q ≡ r → EndGoes p r → EndGoes p q
goes_at p q r e h = subst (EndGoes p) (sym e) h

-- a row in place of that of its stream
pub goes_put : (id : ℕ) (row : StreamRow) (p q : Contents) → row.stream ≡ id → RowGoes (stream_of id p.streams) row → q.streams ≡ put row p.streams → last_number p.outbox ≤ last_number q.outbox → q.standing.shut ≡ p.standing.shut → q.standing.lost ≡ p.standing.lost → q.inbox.strayed ≡ p.inbox.strayed → EndGoes p q
goes_put id row p q e h s o x y a = record {
  rows = subst (λ (l : List StreamRow). RowsGo p.streams l) (sym s) (rows_put_of id row p.streams e h);
  numbers = o;
  shut = λ k. x ∙ k;
  lost = λ k. y ∙ k;
  strayed = λ k. a ∙ k;
}

-- the calls
pub goes_connected : (now m : ℕ) (p : Contents) → EndGoes p (connected now m p)
unfolding started_as said_hello
goes_connected now m p = goes_same p (connected now m p) refl refl refl refl refl

pub goes_accepted : (now m : ℕ) (p : Contents) → EndGoes p (accepted now m p)
unfolding started_as
goes_accepted now m p = goes_same p (accepted now m p) refl refl refl refl refl

pub goes_snapped : (now m : ℕ) (p : Contents) → EndGoes p (snapped now m p)
unfolding snapped started_as
goes_snapped now m p = goes_same p (snapped now m p) refl refl refl refl refl

pub goes_limited : (n m : ℕ) (p : Contents) → EndGoes p (limited n m p)
unfolding limited
goes_limited n m p = goes_same p (limited n m p) refl refl refl refl refl

pub goes_opened : (id : ℕ) (p : Contents) → EndGoes p (opened id p)
unfolding opened
goes_opened id p = goes_put id (record (stream_of id p.streams) { there = true }) p (opened id p) (stream_of-stream id p.streams) (row_stays _ _ (record { generation_is = refl; there = λ h. refl; closed = λ h. h })) refl (omega arith) refl refl refl

pub goes_thresholded : (id n : ℕ) (p : Contents) → EndGoes p (thresholded id n p)
unfolding thresholded
goes_thresholded id n p = goes_put id (record (stream_of id p.streams) { threshold = Some n }) p (thresholded id n p) (stream_of-stream id p.streams) (row_stays _ _ (record { generation_is = refl; there = λ h. h; closed = λ h. h })) refl (omega arith) refl refl refl

pub goes_sent : (now : ℕ) (items : List Item) (p : Contents) → EndGoes p (sent now items p)
unfolding sent
goes_sent now items p = record {
  rows = rows_same p.streams p.streams refl;
  numbers = let more = length-append p.outbox.items items in omega (arith, more);
  shut = λ h. h;
  lost = λ h. h;
  strayed = λ h. h;
}

pub goes_ended : (now id : ℕ) (p : Contents) → EndGoes p (stream_ended now id p)
unfolding stream_ended sent
goes_ended now id p =
    goes_put id (record (stream_of id p.streams) { close = Queued }) p (stream_ended now id p) (stream_of-stream id p.streams) (row_stays _ _ (record { generation_is = refl; there = λ h. h; closed = λ h. refl })) refl
    (let more = length-append p.outbox.items (close_of id (stream_of id p.streams).generation ∷ []) in omega (arith, more)) refl refl refl

pub goes_taken_out : (id : ℕ) (p : Contents) → EndGoes p (taken_out id p)
unfolding taken_out
goes_taken_out id p = goes_same p (taken_out id p) refl refl refl refl refl

pub goes_shut_down : (p : Contents) → EndGoes p (shut_down p)
unfolding shut_down
goes_shut_down p = record { rows = rows_same p.streams p.streams refl; numbers = omega arith; shut = λ h. refl; lost = λ h. h; strayed = λ h. h }

pub goes_timed : (now : ℕ) (p : Contents) → EndGoes p (timed now p)
unfolding timed
goes_timed now p = goes_same p (timed now p) refl refl refl refl refl

-- packets
pub goes_welcomed : (p : Contents) → EndGoes p (welcomed p)
unfolding welcomed
goes_welcomed p = by_role (is_server p.standing.role)
  where
    by_role : (b : Bool) → EndGoes p (cond b (record p { standing = record p.standing { connected = true }; events = p.events ++ (cond p.standing.connected [] (Connected ∷ [])); packets = p.packets ++ (2 ∷ []) ∷ [] }) p)
    by_role true = goes_same p _ refl refl refl refl refl
    by_role false = goes_none p

pub goes_greeted : (p : Contents) → EndGoes p (greeted p)
unfolding greeted
goes_greeted p = goes_same p (greeted p) refl refl refl refl refl

pub goes_lost : (p : Contents) → EndGoes p (lost p)
unfolding lost
goes_lost p = record { rows = rows_same p.streams p.streams refl; numbers = omega arith; shut = λ h. h; lost = λ h. refl; strayed = λ h. h }

pub goes_acknowledged : (number : ℕ) (p : Contents) → EndGoes p (acknowledged number p)
unfolding acknowledged
goes_acknowledged number p = record {
  rows = rows_settled (settled_count number p.outbox) p.outbox.items (told_of p.streams p.events);
  numbers = let rest = length-drop (settled_count number p.outbox) p.outbox.items in omega (arith, rest);
  shut = λ h. h;
  lost = λ h. h;
  strayed = λ h. h;
}

pub goes_counted : (id : ℕ) (row : StreamRow) (p : Contents) → row.stream ≡ id → RowGoes (stream_of id p.streams) row → EndGoes p (item_counted row p)
unfolding item_counted
goes_counted id row p e h = goes_put id row p (item_counted row p) e h refl (omega arith) refl refl refl

pub goes_more : (item : Item) (p : Contents) → EndGoes p (more_kept item p)
unfolding more_kept
goes_more item p = goes_same p (more_kept item p) refl refl refl refl refl

pub goes_last : (item : Item) (p : Contents) → EndGoes p (last_kept item p)
unfolding last_kept
goes_last item p = goes_same p (last_kept item p) refl refl refl refl refl

pub goes_kept : (part : ItemPart) (item : Item) (p : Contents) → EndGoes p (piece_kept part item p)
goes_kept Last item p = goes_last item p
goes_kept More item p = goes_more item p
goes_kept Close item p = goes_more item p

pub goes_piece : (b : Bool) (item : Item) (id : ℕ) (row : StreamRow) (p : Contents) → row.stream ≡ id → RowGoes (stream_of id p.streams) row → EndGoes p (cond b (piece_kept item.part item (item_counted row p)) (item_counted row p))
goes_piece true item id row p e h = goes_join p (item_counted row p) (piece_kept item.part item (item_counted row p)) (goes_counted id row p e h) (goes_kept item.part item (item_counted row p))
goes_piece false item id row p e h = goes_counted id row p e h

-- the close of the other end
pub goes_finished : (row : StreamRow) (p : Contents) → EndGoes p (finished row p)
unfolding finished
goes_finished row p = goes_same p (finished row p) refl refl refl refl refl

pub streams_finished : (row : StreamRow) (p : Contents) → (finished row p).streams ≡ p.streams
unfolding finished
streams_finished row p = refl

pub goes_told : (row : StreamRow) (p : Contents) → EndGoes p (reset_told row p)
unfolding reset_told
goes_told row p = goes_same p (reset_told row p) refl refl refl refl refl

-- a row that goes on from that of the stream, once the stream was told to be closed
pub goes_then : (id : ℕ) (row new : StreamRow) (p : Contents) → new.stream ≡ id → RowGoes (stream_of id p.streams) new → EndGoes p (item_counted new (finished row p))
goes_then id row new p e h =
    goes_join p (finished row p) (item_counted new (finished row p)) (goes_finished row p)
    (goes_counted id new (finished row p) e (subst (λ (l : List StreamRow). RowGoes (stream_of id l) new) (sym (streams_finished row p)) h))

pub goes_last_close : (b : Bool) (id : ℕ) (row : StreamRow) (p : Contents) → can_reset row ≡ b → row.stream ≡ id → row.generation ≡ (stream_of id p.streams).generation → RowGoes (stream_of id p.streams) row
    → EndGoes p (cond b (reset_told row (item_counted (reset_row row) (finished row p))) (item_counted (record row { finished = true }) (finished row p)))
goes_last_close true id row p c e g h =
    goes_join p (item_counted (reset_row row) (finished row p)) (reset_told row (item_counted (reset_row row) (finished row p)))
    (goes_then id row (reset_row row) p e (row_by h))
    (goes_told row (item_counted (reset_row row) (finished row p)))
  where
    row_by : RowGoes (stream_of id p.streams) row → RowGoes (stream_of id p.streams) (reset_row row)
    row_by k = record { goes = inr (omega (arith, g)); last = λ l. (row_resets row c).last (k.last l) }
goes_last_close false id row p c e g h = goes_then id row (record row { finished = true }) p e (record { goes = by h.goes; last = h.last })
  where
    by : RowStays (stream_of id p.streams) row ⊎ ((stream_of id p.streams).generation < row.generation) → RowStays (stream_of id p.streams) (record row { finished = true }) ⊎ ((stream_of id p.streams).generation < row.generation)
    by (inl k) = inl (record { generation_is = k.generation_is; there = k.there; closed = k.closed })
    by (inr k) = inr k

pub goes_close_at : (close : CloseState) (now id : ℕ) (row : StreamRow) (p : Contents) → row.close ≡ close → row.stream ≡ id → RowStays (stream_of id p.streams) row → EndGoes p (close_came_at close now row (finished row p))
goes_close_at Unclosed now id row p c e h =
    let new : StreamRow = record row { close = Queued; finished = true } in
    goes_join p (item_counted new (finished row p)) (sent now (close_of row.stream row.generation ∷ []) (item_counted new (finished row p)))
    (goes_then id row new p e (row_stays _ _ (record { generation_is = h.generation_is; there = h.there; closed = λ k. refl })))
    (goes_sent now (close_of row.stream row.generation ∷ []) (item_counted new (finished row p)))
goes_close_at Queued now id row p c e h = goes_then id row (record row { finished = true }) p e (row_stays _ _ (record { generation_is = h.generation_is; there = h.there; closed = h.closed }))
goes_close_at Acknowledged now id row p c e h = goes_last_close (can_reset row) id row p refl e h.generation_is (row_stays _ _ h)

pub goes_close_if : (b : Bool) (now id : ℕ) (row : StreamRow) (p : Contents) → row.stream ≡ id → RowStays (stream_of id p.streams) row → EndGoes p (cond b (close_came_at row.close now row (finished row p)) (item_counted row p))
goes_close_if true now id row p e h = goes_close_at row.close now id row p refl e h
goes_close_if false now id row p e h = goes_counted id row p e (row_stays _ _ h)

pub goes_part : (part : ItemPart) (now : ℕ) (item : Item) (id : ℕ) (row : StreamRow) (p : Contents) → row.stream ≡ id → RowStays (stream_of id p.streams) row → EndGoes p (part_came part now item row p)
goes_part Close now item id row p e h = goes_close_if (item.generation == row.generation) now id row p e h
goes_part More now item id row p e h = goes_piece (takes_messages row item.generation) item id row p e (row_stays _ _ h)
goes_part Last now item id row p e h = goes_piece (takes_messages row item.generation) item id row p e (row_stays _ _ h)

goes_put_item : (now : ℕ) (item : Item) (p : Contents) → EndGoes p (item_put now item p)
goes_put_item now item p =
    goes_part item.part now item item.stream (record (stream_of item.stream p.streams) { there = true }) p (stream_of-stream item.stream p.streams) (record { generation_is = refl; there = λ h. refl; closed = λ h. h })

goes_with_stray : (b : Bool) (p : Contents) → EndGoes p (with_stray b p)
goes_with_stray b p = record {
  rows = rows_same p.streams p.streams refl;
  numbers = omega arith;
  shut = λ h. h;
  lost = λ h. h;
  strayed = λ h. (rw h refl);
}

pub goes_item : (now : ℕ) (item : Item) (p : Contents) → EndGoes p (item_taken now item p)
goes_item now item p =
    goes_join p (item_put now item p) (item_taken now item p)
    (goes_put_item now item p) (goes_with_stray (is_stray item p) (item_put now item p))

pub goes_item_if : (b : Bool) (now : ℕ) (item : Item) (p : Contents) → EndGoes p (cond b (item_taken now item p) p)
goes_item_if true now item p = goes_item now item p
goes_item_if false now item p = goes_none p

pub goes_came : (now number : ℕ) (item : Item) (p : Contents) → EndGoes p (item_came now number item p)
unfolding item_came
goes_came now number item p = goes_item_if _ now item p

pub goes_answered : (p : Contents) → EndGoes p (answered p)
unfolding answered
goes_answered p = goes_same p (answered p) refl refl refl refl refl

pub goes_acknowledged_greeted : (number : ℕ) (p : Contents) → EndGoes p (acknowledged number (greeted p))
goes_acknowledged_greeted number p = goes_join p (greeted p) (acknowledged number (greeted p)) (goes_greeted p) (goes_acknowledged number (greeted p))

pub goes_framed : (now : ℕ) (f : Option Frame) (p : Contents) → EndGoes p (framed now f p)
goes_framed now None p = goes_none p
goes_framed now (Some Hello) p = goes_welcomed p
goes_framed now (Some Welcome) p = goes_greeted p
goes_framed now (Some (Data n number item)) p =
    let m = acknowledged n (greeted p) in
    goes_join p (item_came now number item m) (answered (item_came now number item m))
    (goes_join p m (item_came now number item m) (goes_acknowledged_greeted n p) (goes_came now number item m))
    (goes_answered (item_came now number item m))
goes_framed now (Some (Acknowledgement n)) p = goes_acknowledged n p
goes_framed now (Some Shutdown) p = goes_lost p

pub goes_moment : (now : ℕ) (p : Contents) → EndGoes p (at_moment now p)
unfolding at_moment
goes_moment now p = goes_same p (at_moment now p) refl refl refl refl refl

pub goes_input : (now : ℕ) (bytes : List ℕ) (p : Contents) → EndGoes p (input_taken now bytes p)
goes_input now bytes p = goes_join p (framed now (frame_in bytes) p) (input_taken now bytes p) (goes_framed now (frame_in bytes) p) (goes_moment now (framed now (frame_in bytes) p))

pub goes_half : (f : Option Frame) (p : Contents) → EndGoes p (half_taken f p)
goes_half None p = goes_none p
goes_half (Some Hello) p = goes_none p
goes_half (Some Welcome) p = goes_none p
goes_half (Some (Data n number item)) p = goes_acknowledged_greeted n p
goes_half (Some (Acknowledgement n)) p = goes_none p
goes_half (Some Shutdown) p = goes_none p

pub goes_given : (p q : Contents) (now : ℕ) (bytes : List ℕ) (r : Result (Unit {0}) AllocError) → Gives p now bytes r q → EndGoes p q
goes_given p q now bytes r h = gives (EndGoes p) p q now bytes r (goes_none p) (goes_half (frame_in bytes) p) (goes_input now bytes p) h
