-- An end of the plain association closes each stream whose generation the other end closed: whatever comes, of each such stream this end
-- closed it too.
use Rattle.std.proofs.Common.{◌≡◌, inl, inr, ℕ, zero, suc, ◌+◌, ◌==◌, ◌&&◌, ◌++◌, ◌∷◌, cond, Bool, true, false, true≢false, List, [], Option, Some, None, Result, refl, sym, ap, subst}
use Rattle.std.specs.declared.alloc.AllocError.{AllocError}
use Rattle.std.proofs.lemmas.Bool.Decides.{eqb_tells}
use Rattle.rtc_parts.specs.declared.assoc_event.AssocEvent.TheVariants.{Connected, ResetComplete, BufferedAmountLow}
use Rattle.rtc_assoc_state.specs.declared.item.Item.{Item}
use Rattle.rtc_assoc_state.specs.declared.item_part.ItemPart.{ItemPart}
use Rattle.rtc_assoc_state.specs.declared.item_part.ItemPart.TheVariants.{More, Last, Close}
use Rattle.rtc_assoc_state.specs.declared.frame.Frame.{Frame}
use Rattle.rtc_assoc_state.specs.declared.frame.Frame.TheVariants.{Hello, Welcome, Data, Acknowledgement, Shutdown}
use Rattle.rtc_assoc_state.specs.Packets.{frame_in}
use Rattle.rtc_assoc_state.specs.Pieces.{close_of}
use Rattle.rtc_assoc_state.specs.declared.close_state.CloseState.{CloseState}
use Rattle.rtc_assoc_state.specs.declared.close_state.CloseState.TheVariants.{Unclosed, Queued, Acknowledged}
use Rattle.rtc_assoc_state.specs.declared.stream_row.StreamRow.{StreamRow}
use Rattle.rtc_assoc_state.specs.Contents.{Contents, is_server}
use Rattle.rtc_assoc_state.specs.Streams.{is_closed_here, put, reset_row, stream_of, takes_messages}
use Rattle.rtc_assoc_state.specs.Outbox.{bytes_for, buffered, settled_count}
use Rattle.rtc_assoc_state.specs.Settling.{Told, told_of, can_reset, close_settled, item_settled, part_settled, reaches, settled}
use Rattle.rtc_assoc_state.specs.Calls.{sent, greeted, welcomed, acknowledged, item_counted, more_kept, last_kept, piece_kept, finished, reset_told, close_came_at, part_came, item_taken, item_came, answered, lost, framed, at_moment, input_taken, half_taken}
use Rattle.rtc_assoc_state.specs.PlainMeaning.{Gives}
use Rattle.rtc_assoc_state.proofs.DoesLemmas.{gives}
use Rattle.rtc_assoc_state.proofs.RaiseLemmas.{stream_of-put, stream_of-put_other}

-- of each stream whose generation the other end closed this end closed it too
abbrev pub AreFine : List StreamRow → Type 0
AreFine rows = (s : ℕ) → (stream_of s rows).finished ≡ true → is_closed_here (stream_of s rows) ≡ true

pub put_fine : (row : StreamRow) (rows : List StreamRow) → (row.finished ≡ true → is_closed_here row ≡ true) → AreFine rows → AreFine (put row rows)
put_fine row rows own h s =
    elim (eqb_tells row.stream s) [
      | inl e ↦
          subst (λ (k : ℕ). (stream_of k (put row rows)).finished ≡ true → is_closed_here (stream_of k (put row rows)) ≡ true) e.1
          (subst (λ (r : StreamRow). r.finished ≡ true → is_closed_here r ≡ true) (sym (stream_of-put row rows)) own)
      | inr e ↦
          subst (λ (r : StreamRow). r.finished ≡ true → is_closed_here r ≡ true) (sym (stream_of-put_other s row rows e.0)) (h s)
    ]

not_finished : (row : StreamRow) → false ≡ true → is_closed_here row ≡ true
not_finished row h = absurd (true≢false (sym h))

-- ---- acknowledgements

queued_fine : (b : Bool) (row : StreamRow) (t : Told) → AreFine t.streams
    → AreFine (cond b (told_of (put (reset_row row) t.streams) (t.events ++ ResetComplete row.stream ∷ [])) (told_of (put (record row { close = Acknowledged }) t.streams) t.events)).streams
queued_fine true row t h = put_fine (reset_row row) t.streams (not_finished (reset_row row)) h
queued_fine false row t h = put_fine (record row { close = Acknowledged }) t.streams (λ e. refl) h

close_fine : (close : CloseState) (row : StreamRow) (t : Told) → AreFine t.streams → AreFine (close_settled close row t).streams
close_fine Unclosed row t h = h
close_fine Queued row t h = queued_fine (row.finished && can_reset row) row t h
close_fine Acknowledged row t h = h

low_fine : (b : Bool) (s : ℕ) (t : Told) → AreFine t.streams → AreFine (cond b (told_of t.streams (t.events ++ BufferedAmountLow s ∷ [])) t).streams
low_fine true s t h = h
low_fine false s t h = h

settled_part_fine : (part : ItemPart) (item : Item) (behind : List Item) (t : Told) → AreFine t.streams
    → AreFine (part_settled part item (stream_of item.stream t.streams) behind t).streams
settled_part_fine Close item behind t h = close_fine (stream_of item.stream t.streams).close (stream_of item.stream t.streams) t h
settled_part_fine More item behind t h =
    low_fine (reaches (stream_of item.stream t.streams).threshold (bytes_for item.stream item + buffered item.stream behind) (buffered item.stream behind))
    item.stream t h
settled_part_fine Last item behind t h =
    low_fine (reaches (stream_of item.stream t.streams).threshold (bytes_for item.stream item + buffered item.stream behind) (buffered item.stream behind))
    item.stream t h

item_fine : (item : Item) (behind : List Item) (t : Told) → AreFine t.streams → AreFine (item_settled item behind t).streams
unfolding item_settled
item_fine item behind t h = settled_part_fine item.part item behind t h

settled_fine : (count : ℕ) (items : List Item) (t : Told) → AreFine t.streams → AreFine (settled count items t).streams
settled_fine zero items t h = h
settled_fine (suc count) [] t h = h
settled_fine (suc count) (item ∷ items) t h = settled_fine count items (item_settled item items t) (item_fine item items t h)

acknowledged_fine : (number : ℕ) (p : Contents) → AreFine p.streams → AreFine (acknowledged number p).streams
unfolding acknowledged
acknowledged_fine number p h = settled_fine (settled_count number p.outbox) p.outbox.items (told_of p.streams p.events) h

-- ---- items

counted_fine : (row : StreamRow) (p : Contents) → (row.finished ≡ true → is_closed_here row ≡ true) → AreFine p.streams
    → AreFine (item_counted row p).streams
unfolding item_counted
counted_fine row p own h = put_fine row p.streams own h

kept_fine : (part : ItemPart) (item : Item) (p : Contents) → AreFine p.streams → AreFine (piece_kept part item p).streams
unfolding more_kept last_kept
kept_fine Last item p h = h
kept_fine More item p h = h
kept_fine Close item p h = h

piece_fine : (b : Bool) (item : Item) (row : StreamRow) (p : Contents) → (row.finished ≡ true → is_closed_here row ≡ true) → AreFine p.streams
    → AreFine (cond b (piece_kept item.part item (item_counted row p)) (item_counted row p)).streams
piece_fine true item row p own h = kept_fine item.part item (item_counted row p) (counted_fine row p own h)
piece_fine false item row p own h = counted_fine row p own h

then_fine : (row new : StreamRow) (p : Contents) → (new.finished ≡ true → is_closed_here new ≡ true) → AreFine p.streams
    → AreFine (item_counted new (finished row p)).streams
unfolding item_counted finished
then_fine row new p own h = put_fine new p.streams own h

told_fine : (row : StreamRow) (p : Contents) → AreFine p.streams → AreFine (reset_told row p).streams
unfolding reset_told
told_fine row p h = h

last_fine : (b : Bool) (row : StreamRow) (p : Contents) → is_closed_here row ≡ true → AreFine p.streams
    → AreFine (cond b (reset_told row (item_counted (reset_row row) (finished row p))) (item_counted (record row { finished = true }) (finished row p))).streams
last_fine true row p closed h =
    told_fine row (item_counted (reset_row row) (finished row p)) (then_fine row (reset_row row) p (not_finished (reset_row row)) h)
last_fine false row p closed h = then_fine row (record row { finished = true }) p (λ e. closed) h

sent_fine : (now : ℕ) (items : List Item) (p : Contents) → AreFine p.streams → AreFine (sent now items p).streams
unfolding sent
sent_fine now items p h = h

came_fine : (close : CloseState) (now : ℕ) (row : StreamRow) (p : Contents) → row.close ≡ close → AreFine p.streams
    → AreFine (close_came_at close now row (finished row p)).streams
came_fine Unclosed now row p is h =
    sent_fine now (close_of row.stream row.generation ∷ []) (item_counted (record row { close = Queued; finished = true }) (finished row p))
    (then_fine row (record row { close = Queued; finished = true }) p (λ e. refl) h)
came_fine Queued now row p is h =
    then_fine row (record row { finished = true }) p (λ e. ap (λ (c : CloseState). is_closed_here (record row { close = c })) is) h
came_fine Acknowledged now row p is h =
    last_fine (can_reset row) row p (ap (λ (c : CloseState). is_closed_here (record row { close = c })) is) h

close_if_fine : (b : Bool) (now : ℕ) (row : StreamRow) (p : Contents) → (row.finished ≡ true → is_closed_here row ≡ true) → AreFine p.streams
    → AreFine (cond b (close_came_at row.close now row (finished row p)) (item_counted row p)).streams
close_if_fine true now row p own h = came_fine row.close now row p refl h
close_if_fine false now row p own h = counted_fine row p own h

part_fine : (part : ItemPart) (now : ℕ) (item : Item) (row : StreamRow) (p : Contents) → (row.finished ≡ true → is_closed_here row ≡ true)
    → AreFine p.streams → AreFine (part_came part now item row p).streams
part_fine Close now item row p own h = close_if_fine (item.generation == row.generation) now row p own h
part_fine More now item row p own h = piece_fine (takes_messages row item.generation) item row p own h
part_fine Last now item row p own h = piece_fine (takes_messages row item.generation) item row p own h

taken_fine : (now : ℕ) (item : Item) (p : Contents) → AreFine p.streams → AreFine (item_taken now item p).streams
taken_fine now item p h = part_fine item.part now item (record (stream_of item.stream p.streams) { there = true }) p (h item.stream) h

taken_if_fine : (b : Bool) (now : ℕ) (item : Item) (p : Contents) → AreFine p.streams → AreFine (cond b (item_taken now item p) p).streams
taken_if_fine true now item p h = taken_fine now item p h
taken_if_fine false now item p h = h

item_came_fine : (now number : ℕ) (item : Item) (p : Contents) → AreFine p.streams → AreFine (item_came now number item p).streams
unfolding item_came
item_came_fine now number item p h = taken_if_fine _ now item p h

-- ---- packets

greeted_fine : (p : Contents) → AreFine p.streams → AreFine (greeted p).streams
unfolding greeted
greeted_fine p h = h

welcomed_fine : (p : Contents) → AreFine p.streams → AreFine (welcomed p).streams
unfolding welcomed
welcomed_fine p h = by (is_server p.standing.role)
  where
    by : (b : Bool) → AreFine (cond b (record p { standing = record p.standing { connected = true }; events = p.events ++ (cond p.standing.connected [] (Connected ∷ [])); packets = p.packets ++ (2 ∷ []) ∷ [] }) p).streams
    by true = h
    by false = h

lost_fine : (p : Contents) → AreFine p.streams → AreFine (lost p).streams
unfolding lost
lost_fine p h = h

answered_fine : (p : Contents) → AreFine p.streams → AreFine (answered p).streams
unfolding answered
answered_fine p h = h

framed_fine : (now : ℕ) (f : Option Frame) (p : Contents) → AreFine p.streams → AreFine (framed now f p).streams
framed_fine now None p h = h
framed_fine now (Some Hello) p h = welcomed_fine p h
framed_fine now (Some Welcome) p h = greeted_fine p h
framed_fine now (Some (Data n number item)) p h =
    answered_fine (item_came now number item (acknowledged n (greeted p)))
    (item_came_fine now number item (acknowledged n (greeted p)) (acknowledged_fine n (greeted p) (greeted_fine p h)))
framed_fine now (Some (Acknowledgement n)) p h = acknowledged_fine n p h
framed_fine now (Some Shutdown) p h = lost_fine p h

input_fine : (now : ℕ) (bytes : List ℕ) (p : Contents) → AreFine p.streams → AreFine (input_taken now bytes p).streams
unfolding at_moment
input_fine now bytes p h = framed_fine now (frame_in bytes) p h

half_fine : (f : Option Frame) (p : Contents) → AreFine p.streams → AreFine (half_taken f p).streams
half_fine None p h = h
half_fine (Some Hello) p h = h
half_fine (Some Welcome) p h = h
half_fine (Some (Data n number item)) p h = acknowledged_fine n (greeted p) (greeted_fine p h)
half_fine (Some (Acknowledgement n)) p h = h
half_fine (Some Shutdown) p h = h

pub given_fine : (p q : Contents) (now : ℕ) (bytes : List ℕ) (r : Result (Unit {0}) AllocError) → Gives p now bytes r q → AreFine p.streams
    → AreFine q.streams
given_fine p q now bytes r h k =
    gives (λ (x : Contents). AreFine x.streams) p q now bytes r k (half_fine (frame_in bytes) p k) (input_fine now bytes p k) h
