-- What acts of the plain association leave of the last item with data of a stream that is not acknowledged.
use Rattle.std.proofs.Common.{◌≡◌, ◌+◌, ◌-◌, ◌<◌, ◌++◌, ◌∷◌, ◌==◌, ◌&&◌, not, cond, ℕ, Bool, true, false, List, [], length, Option, Some, None, Result, refl, sym, subst}
use Rattle.std.specs.declared.alloc.AllocError.{AllocError}
use Rattle.rtc_parts.specs.declared.assoc_event.AssocEvent.TheVariants.{Connected}
use Rattle.rtc_parts.specs.Ppi.{ppi_number}
use Rattle.rtc_parts.specs.AssociationActs.{AssociationAct, Started, Opened, Wrote, Ended, Given, Taken, Read, Told as ToldEvent, Stirred, Starts, ByConnect, ByAccept, BySnap, Stirs, LimitsSet, ConnectRefused, AcceptRefused, SnapRefused, OpenRefused, WriteRefused, ReadRefused, EndRefused, ThresholdSet, ReliabilitySet, Acted}
use Rattle.rtc_parts.specs.Why.{Timed, Shut as ShutDown, Other}
use Rattle.rtc_assoc_state.specs.declared.item.Item.{Item}
use Rattle.rtc_assoc_state.specs.declared.item_part.ItemPart.{ItemPart}
use Rattle.rtc_assoc_state.specs.declared.item_part.ItemPart.TheVariants.{More, Last, Close}
use Rattle.rtc_assoc_state.specs.declared.frame.Frame.{Frame}
use Rattle.rtc_assoc_state.specs.declared.frame.Frame.TheVariants.{Hello, Welcome, Data, Acknowledgement, Shutdown}
use Rattle.rtc_assoc_state.specs.Packets.{frame_in}
use Rattle.rtc_assoc_state.specs.Pieces.{close_of, pieces_of}
use Rattle.rtc_assoc_state.specs.declared.close_state.CloseState.{CloseState}
use Rattle.rtc_assoc_state.specs.declared.close_state.CloseState.TheVariants.{Unclosed, Queued, Acknowledged}
use Rattle.rtc_assoc_state.specs.declared.stream_row.StreamRow.{StreamRow}
use Rattle.rtc_assoc_state.specs.Contents.{Contents, is_ending, is_server}
use Rattle.rtc_assoc_state.specs.Outbox.{settled_count}
use Rattle.rtc_assoc_state.specs.Settling.{can_reset}
use Rattle.rtc_assoc_state.specs.Streams.{stream_of, reset_row, takes_messages}
use Rattle.rtc_assoc_state.specs.Calls.{limited, started_as, said_hello, connected, accepted, snapped, opened, sent, message_written, next_message, taken_out, stream_ended, thresholded, shut_down, greeted, welcomed, acknowledged, answered, lost, framed, at_moment, half_taken, timed, event_given, packet_given, item_counted, more_kept, last_kept, piece_kept, finished, reset_told, close_came_at, part_came, item_taken, item_came}
use Rattle.rtc_assoc_state.specs.PlainMeaning.{plain_meaning, Gives, open_cause, write_cause, end_cause, stream_cause, ending_cause, Leaves, Sends, Reads}
use Rattle.rtc_assoc_state.proofs.DoesLemmas.{refused_changes_nothing, does_leaves, gives, times, polls_some, transmits_some, reads_some}
use Rattle.rtc_run_laws.proofs.LastItems.{EndsFull, are_data, close_none, full_dropped, full_last, full_more, pieces_full, pieces_none, pieces_some}

module _ (s g : ℕ) where
  -- the last item with data carries bytes still
  abbrev pub Lasts : Contents → Contents → Type 0
  Lasts p q = EndsFull s g p.outbox.items → EndsFull s g q.outbox.items

  lasts_same : (p q : Contents) → q.outbox.items ≡ p.outbox.items → Lasts p q
  lasts_same p q e h = subst (λ (l : List Item). EndsFull s g l) (sym e) h

  lasts_at : (p q r : Contents) → q ≡ r → Lasts p r → Lasts p q
  lasts_at p q r e h = subst (λ (x : Contents). Lasts p x) (sym e) h

  -- a close is sent
  lasts_closed : (p q : Contents) (t n : ℕ) → q.outbox.items ≡ p.outbox.items ++ close_of t n ∷ [] → Lasts p q
  lasts_closed p q t n items h = subst (λ (l : List Item). EndsFull s g l) (sym items) (full_more s g p.outbox.items (close_of t n ∷ []) (close_none s g t n) h)

  -- ---- packets

  full_acknowledged : (n : ℕ) (p : Contents) → EndsFull s g p.outbox.items → EndsFull s g (acknowledged n p).outbox.items
  unfolding acknowledged
  full_acknowledged n p h = full_dropped s g (settled_count n p.outbox) p.outbox.items h

  full_front : (n : ℕ) (p : Contents) → EndsFull s g p.outbox.items → EndsFull s g (acknowledged n (greeted p)).outbox.items
  unfolding greeted
  full_front n p h = full_acknowledged n (greeted p) h

  module _ (item : Item) (p : Contents) where
    abbrev row : StreamRow
    row = record (stream_of item.stream p.streams) { there = true }

    lasts_counted : (new : StreamRow) → Lasts p (item_counted new p)
    unfolding item_counted
    lasts_counted new = lasts_same p (item_counted new p) refl

    lasts_more : Lasts p (more_kept item (item_counted row p))
    unfolding more_kept item_counted
    lasts_more = lasts_same p (more_kept item (item_counted row p)) refl

    lasts_last : Lasts p (last_kept item (item_counted row p))
    unfolding last_kept item_counted
    lasts_last = lasts_same p (last_kept item (item_counted row p)) refl

    lasts_piece : (b : Bool) (part : ItemPart) → Lasts p (cond b (piece_kept part item (item_counted row p)) (item_counted row p))
    lasts_piece true Last = lasts_last
    lasts_piece true More = lasts_more
    lasts_piece true Close = lasts_more
    lasts_piece false part = lasts_counted row

    lasts_finished : (new : StreamRow) → Lasts p (item_counted new (finished row p))
    unfolding item_counted finished
    lasts_finished new = lasts_same p (item_counted new (finished row p)) refl

    lasts_reset : (b : Bool)
        → Lasts p (cond b (reset_told row (item_counted (reset_row row) (finished row p))) (item_counted (record row { finished = true }) (finished row p)))
    unfolding reset_told item_counted finished
    lasts_reset true = lasts_same p (reset_told row (item_counted (reset_row row) (finished row p))) refl
    lasts_reset false = lasts_same p (item_counted (record row { finished = true }) (finished row p)) refl

    lasts_close : (close : CloseState) (now : ℕ) → Lasts p (close_came_at close now row (finished row p))
    unfolding sent item_counted finished
    lasts_close Unclosed now =
        lasts_closed p (close_came_at Unclosed now row (finished row p)) row.stream row.generation refl
    lasts_close Queued now = lasts_finished (record row { finished = true })
    lasts_close Acknowledged now = lasts_reset (can_reset row)

    lasts_came : (b : Bool) (now : ℕ) → Lasts p (cond b (close_came_at row.close now row (finished row p)) (item_counted row p))
    lasts_came true now = lasts_close row.close now
    lasts_came false now = lasts_counted row

    lasts_part : (part : ItemPart) (now : ℕ) → Lasts p (part_came part now item row p)
    lasts_part Close now = lasts_came (item.generation == row.generation) now
    lasts_part More now = lasts_piece (takes_messages row item.generation) item.part
    lasts_part Last now = lasts_piece (takes_messages row item.generation) item.part

    lasts_if : (b : Bool) (now : ℕ) → Lasts p (cond b (item_taken now item p) p)
    lasts_if true now = λ h. lasts_part item.part now h
    lasts_if false now = lasts_same p p refl

    lasts_item : (now number : ℕ) → Lasts p (item_came now number item p)
    unfolding item_came
    lasts_item now number = lasts_if ((number == p.inbox.received + 1) && not (is_ending p)) now

  lasts_welcomed : (p : Contents) → Lasts p (welcomed p)
  unfolding welcomed
  lasts_welcomed p = by (is_server p.standing.role)
    where
      answer : Contents
      answer = record p { standing = record p.standing { connected = true }; events = p.events ++ (cond p.standing.connected [] (Connected ∷ [])); packets = p.packets ++ (2 ∷ []) ∷ [] }

      by : (b : Bool) → Lasts p (cond b answer p)
      by true = lasts_same p answer refl
      by false = lasts_same p p refl

  lasts_greeted : (p : Contents) → Lasts p (greeted p)
  unfolding greeted
  lasts_greeted p = lasts_same p (greeted p) refl

  lasts_lost : (p : Contents) → Lasts p (lost p)
  unfolding lost
  lasts_lost p = lasts_same p (lost p) refl

  at_time : (now : ℕ) (p q : Contents) → Lasts p q → Lasts p (at_moment now q)
  unfolding at_moment
  at_time now p q h = λ k. h k

  lasts_data : (now n number : ℕ) (item : Item) (p : Contents) → Lasts p (at_moment now (framed now (Some (Data n number item)) p))
  unfolding at_moment answered
  lasts_data now n number item p = λ h. lasts_item item (acknowledged n (greeted p)) now number (full_front n p h)

  lasts_framed : (now : ℕ) (f : Option Frame) (p : Contents) → Lasts p (at_moment now (framed now f p))
  lasts_framed now None p = at_time now p p (lasts_same p p refl)
  lasts_framed now (Some Hello) p = at_time now p (welcomed p) (lasts_welcomed p)
  lasts_framed now (Some Welcome) p = at_time now p (greeted p) (lasts_greeted p)
  lasts_framed now (Some (Data n number item)) p = lasts_data now n number item p
  lasts_framed now (Some (Acknowledgement n)) p = at_time now p (acknowledged n p) (λ h. full_acknowledged n p h)
  lasts_framed now (Some Shutdown) p = at_time now p (lost p) (lasts_lost p)

  lasts_half : (f : Option Frame) (p : Contents) → Lasts p (half_taken f p)
  lasts_half None p = lasts_same p p refl
  lasts_half (Some Hello) p = lasts_same p p refl
  lasts_half (Some Welcome) p = lasts_same p p refl
  lasts_half (Some (Data n number item)) p = λ h. full_front n p h
  lasts_half (Some (Acknowledgement n)) p = lasts_same p p refl
  lasts_half (Some Shutdown) p = lasts_same p p refl

  lasts_given : (p q : Contents) (now : ℕ) (bytes : List ℕ) (r : Result (Unit {0}) AllocError) → Gives p now bytes r q → Lasts p q
  lasts_given p q now bytes r h =
      gives (Lasts p) p q now bytes r (lasts_same p p refl) (lasts_half (frame_in bytes) p) (lasts_framed now (frame_in bytes) p) h

  -- ---- acts

  lasts_opened : (t : ℕ) (p : Contents) → Lasts p (opened t p)
  unfolding opened
  lasts_opened t p = lasts_same p (opened t p) refl

  lasts_thresholded : (t n : ℕ) (p : Contents) → Lasts p (thresholded t n p)
  unfolding thresholded
  lasts_thresholded t n p = lasts_same p (thresholded t n p) refl

  lasts_ended : (now t : ℕ) (p : Contents) → Lasts p (stream_ended now t p)
  unfolding stream_ended sent
  lasts_ended now t p =
      lasts_closed p (stream_ended now t p) t (stream_of t p.streams).generation refl

  lasts_written : (t i : ℕ) (bytes : List ℕ) (p : Contents) → are_data s g t (stream_of t p.streams).generation i ≡ false → Lasts p (message_written t i bytes p)
  unfolding sent
  lasts_written t i bytes p other = λ h.
      full_more s g p.outbox.items (pieces_of (p.limits.max_payload - 28) t (stream_of t p.streams).generation i bytes)
      (pieces_none s g (length bytes) (p.limits.max_payload - 28) t (stream_of t p.streams).generation i bytes other) h

  lasts_connected : (now m : ℕ) (p : Contents) → Lasts p (connected now m p)
  unfolding started_as said_hello
  lasts_connected now m p = lasts_same p (connected now m p) refl

  lasts_accepted : (now m : ℕ) (p : Contents) → Lasts p (accepted now m p)
  unfolding started_as
  lasts_accepted now m p = lasts_same p (accepted now m p) refl

  lasts_snapped : (now m : ℕ) (p : Contents) → Lasts p (snapped now m p)
  unfolding snapped started_as
  lasts_snapped now m p = lasts_same p (snapped now m p) refl

  lasts_limited : (n m : ℕ) (p : Contents) → Lasts p (limited n m p)
  unfolding limited
  lasts_limited n m p = lasts_same p (limited n m p) refl

  lasts_taken_out : (t : ℕ) (p : Contents) → Lasts p (taken_out t p)
  unfolding taken_out
  lasts_taken_out t p = lasts_same p (taken_out t p) refl

  lasts_shut_down : (p : Contents) → Lasts p (shut_down p)
  unfolding shut_down
  lasts_shut_down p = lasts_same p (shut_down p) refl

  lasts_timed : (now : ℕ) (p : Contents) → Lasts p (timed now p)
  unfolding timed
  lasts_timed now p = lasts_same p (timed now p) refl

  lasts_started : (p q : Contents) → Starts plain_meaning p q → Lasts p q
  lasts_started p q (ByConnect now m h) = lasts_at p q (connected now m p) h.1 (lasts_connected now m p)
  lasts_started p q (ByAccept now m h) = lasts_at p q (accepted now m p) h.1 (lasts_accepted now m p)
  lasts_started p q (BySnap now m l o h) = lasts_at p q (snapped now m p) h.1 (lasts_snapped now m p)

  still : (p q : Contents) → q ≡ p → Lasts p q
  still p q e = lasts_at p q p e (lasts_same p p refl)

  lasts_stirred : (p q : Contents) → Stirs plain_meaning p q → Lasts p q
  lasts_stirred p q (LimitsSet n m h) = lasts_at p q (limited n m p) h (lasts_limited n m p)
  lasts_stirred p q (ConnectRefused now m e k h) = still p q (refused_changes_nothing None p q (Leaves (connected now m p)) e h)
  lasts_stirred p q (AcceptRefused now m e k h) = still p q (refused_changes_nothing None p q (Leaves (accepted now m p)) e h)
  lasts_stirred p q (SnapRefused now m l o e k h) = still p q (refused_changes_nothing None p q (Leaves (snapped now m p)) e h)
  lasts_stirred p q (OpenRefused id e h) = still p q (refused_changes_nothing (open_cause p id) p q (Leaves (opened id p)) e h)
  lasts_stirred p q (WriteRefused id i b e h) = still p q (refused_changes_nothing (write_cause p id b) p q (λ n o. (n ≡ length b) × Sends p (message_written id (ppi_number i) b p) o) e h)
  lasts_stirred p q (ReadRefused id e h) = still p q (refused_changes_nothing (stream_cause p id) p q (λ m o. Reads (next_message id p) id p m o) e h)
  lasts_stirred p q (EndRefused id e h) = still p q (refused_changes_nothing {T = Unit {0}} (end_cause p id) p q (λ _ o. Sends p (stream_ended p.clock.now id p) o) e h)
  lasts_stirred p q (ThresholdSet id n r h) = does_leaves (Lasts p) (stream_cause p id) p (thresholded id n p) q r (lasts_same p p refl) (lasts_thresholded id n p) h
  lasts_stirred p q (ReliabilitySet id u t n r h) = does_leaves (Lasts p) (stream_cause p id) p p q r (lasts_same p p refl) (lasts_same p p refl) h

  -- whether an act writes data to the generation of the stream
  abbrev pub writes_data : AssociationAct → Bool
  writes_data (Wrote t n i bytes) = are_data s g t n i
  writes_data act = false

  own_generation : (t n i j : ℕ) (p : Contents) → i ≡ j → n ≡ (stream_of t p.streams).generation → are_data s g t n i ≡ false
      → are_data s g t (stream_of t p.streams).generation j ≡ false
  own_generation t n i j p same own none = subst (λ (k : ℕ). are_data s g t k j ≡ false) own (subst (λ (k : ℕ). are_data s g t n k ≡ false) same none)

  -- an act that writes none
  pub act_lasts : (p q : Contents) (act : AssociationAct) → Acted plain_meaning p act q → writes_data act ≡ false → Lasts p q
  act_lasts p q Started h none = lasts_started p q h.1
  act_lasts p q (Opened t n) h none = lasts_at p q (opened t p) h.0.1 (lasts_opened t p)
  act_lasts p q (Wrote t n i b) h none =
      lasts_at p q (message_written t (ppi_number h.0) b p) h.1.1.0.1.1.0
      (lasts_written t (ppi_number h.0) b p (own_generation t n i (ppi_number h.0) p h.1.1.1 h.1.1.2 none))
  act_lasts p q (Ended t n) h none = lasts_at p q (stream_ended p.clock.now t p) h.0.1.0 (lasts_ended p.clock.now t p)
  act_lasts p q (Given b) h none = lasts_given p q h.0 b h.1.0 h.1.1
  act_lasts p q (Taken b) h none = let w = transmits_some p.packets p q b h in lasts_at p q (packet_given w.0.rest p) w.1.1 (lasts_same p (packet_given w.0.rest p) refl)
  act_lasts p q (Read t n i b) h none = let w = reads_some (next_message t p) t p q (h.0, b) h.1.0.1 in lasts_at p q (taken_out t p) w.1.2 (lasts_taken_out t p)
  act_lasts p q (ToldEvent e) h none = let w = polls_some p.events p q e h in lasts_at p q (event_given w.0.rest p) w.1 (lasts_same p (event_given w.0.rest p) refl)
  act_lasts p q (Stirred (Timed now)) h none = times (Lasts p) p q now h.0 (lasts_same p p refl) (lasts_timed now p) h.1
  act_lasts p q (Stirred ShutDown) h none = does_leaves (Lasts p) (ending_cause p) p (shut_down p) q h.0 (lasts_same p p refl) (lasts_shut_down p) h.1
  act_lasts p q (Stirred Other) h none = lasts_stirred p q h

  -- a message with data that is not empty
  full_written : (t i : ℕ) (bytes : List ℕ) (p : Contents) → are_data s g t (stream_of t p.streams).generation i ≡ true → 0 < length bytes
      → EndsFull s g (message_written t i bytes p).outbox.items
  unfolding sent
  full_written t i bytes p own more =
      full_last s g p.outbox.items (pieces_of (p.limits.max_payload - 28) t (stream_of t p.streams).generation i bytes)
      (pieces_some s g (length bytes) (p.limits.max_payload - 28) t (stream_of t p.streams).generation i bytes own)
      (pieces_full s g (length bytes) (p.limits.max_payload - 28) t (stream_of t p.streams).generation i bytes own more)

  pub act_full : (p q : Contents) (t n i : ℕ) (bytes : List ℕ) → Acted plain_meaning p (Wrote t n i bytes) q → are_data s g t n i ≡ true → 0 < length bytes
      → EndsFull s g q.outbox.items
  act_full p q t n i bytes h own more =
      let here : are_data s g t (stream_of t p.streams).generation (ppi_number h.0) ≡ true =
      subst (λ (k : ℕ). are_data s g t k (ppi_number h.0) ≡ true) h.1.1.2 (subst (λ (k : ℕ). are_data s g t n k ≡ true) h.1.1.1 own) in
      subst (λ (x : Contents). EndsFull s g x.outbox.items) (sym h.1.1.0.1.1.0) (full_written t (ppi_number h.0) bytes p here more)
