-- What each call of an end does to the closes that it sent and took.
use Rattle.std.proofs.Common.{◌≡◌, ◌∙◌, ◌⊎◌, inl, inr, ◌<◌, ◌≤◌, ◌-◌, ℕ, true, false, true≢false, List, [], ◌∷◌, ◌++◌, length, append-nil, Option, Some, refl, sym, subst, arith}
use Rattle.rtc_assoc_state.specs.declared.item.Item.{Item}
use Rattle.rtc_assoc_state.specs.declared.frame.Frame.{Frame}
use Rattle.rtc_assoc_state.specs.Pieces.{close_of, pieces_of}
use Rattle.rtc_assoc_state.specs.declared.close_state.CloseState.TheVariants.{Queued}
use Rattle.rtc_assoc_state.specs.declared.stream_row.StreamRow.{StreamRow}
use Rattle.rtc_assoc_state.specs.Contents.{Contents}
use Rattle.rtc_assoc_state.specs.Streams.{is_closed_here, stream_of}
use Rattle.rtc_assoc_state.specs.Calls.{limited, started_as, said_hello, connected, accepted, snapped, opened, sent, message_written, taken_out, stream_ended, thresholded, shut_down, timed}
use Rattle.rtc_assoc_state.proofs.RaiseLemmas.{stream_of-stream}
use Rattle.rtc_assoc.proofs.MessageLemmas.{HasClose, close-left, close-pieces}
use Rattle.rtc_run_laws.proofs.SentOrder.{AllPieces, pieces_are, pieces_fit, pieces_low}
use Rattle.rtc_run_laws.proofs.ClosingRows.{RowKeeps, RowSame, row_more, row_queued}
use Rattle.rtc_run_laws.proofs.ClosingSteps.{EndGo, go_of, go_same, take_put}

-- ---- the calls

same_row : (id : ℕ) (row : StreamRow) (p : Contents) → RowSame (stream_of id p.streams) row → (w r : List Item)
    → RowKeeps id (stream_of id p.streams) p.outbox.items w r → RowKeeps id row (p.outbox.items ++ []) (w ++ []) (r ++ [])
same_row id row p same w r h =
    row_more id (stream_of id p.streams) row p.outbox.items (p.outbox.items ++ []) w [] r [] same (λ g c. close-left id g p.outbox.items [] c)
    (λ g c. absurd c) (λ g c. c) tt h

pub go_opened : (f : Option Frame) (id : ℕ) (p : Contents) → EndGo f p (opened id p)
unfolding opened
go_opened f id p =
    let row : StreamRow = record (stream_of id p.streams) { there = true } in
    go_of f p (opened id p)
    (take_put id row [] [] f p (opened id p)
    (record {
      stream_is = stream_of-stream id p.streams;
      streams = refl;
      acked = refl;
      items = sym (append-nil p.outbox.items);
      received = omega arith;
      strayed = refl;
      brings = tt;
      own = λ s g c. absurd c;
      sent = tt;
      fits = λ w r h. tt;
      keeps = same_row id row p (record { generation_is = refl; close_is = refl; finished_is = refl });
    }))

pub go_thresholded : (f : Option Frame) (id n : ℕ) (p : Contents) → EndGo f p (thresholded id n p)
unfolding thresholded
go_thresholded f id n p =
    let row : StreamRow = record (stream_of id p.streams) { threshold = Some n } in
    go_of f p (thresholded id n p)
    (take_put id row [] [] f p (thresholded id n p)
    (record {
      stream_is = stream_of-stream id p.streams;
      streams = refl;
      acked = refl;
      items = sym (append-nil p.outbox.items);
      received = omega arith;
      strayed = refl;
      brings = tt;
      own = λ s g c. absurd c;
      sent = tt;
      fits = λ w r h. tt;
      keeps = same_row id row p (record { generation_is = refl; close_is = refl; finished_is = refl });
    }))

-- no close was sent of the generation of a stream that this end did not close
unsent : (id : ℕ) (p : Contents) (w r : List Item) → is_closed_here (stream_of id p.streams) ≡ false
    → RowKeeps id (stream_of id p.streams) p.outbox.items w r → HasClose id (stream_of id p.streams).generation w → ⊥
unsent id p w r unclosed h k = by (h.mine (stream_of id p.streams).generation k)
  where
    by : ((stream_of id p.streams).generation < (stream_of id p.streams).generation)
        ⊎ (((stream_of id p.streams).generation ≡ (stream_of id p.streams).generation) × (is_closed_here (stream_of id p.streams) ≡ true))
        → ⊥
    by (inl less) = absurd (omega (arith, less))
    by (inr c) = true≢false (sym c.1 ∙ unclosed)

pub go_ended : (f : Option Frame) (now id : ℕ) (p : Contents) → is_closed_here (stream_of id p.streams) ≡ false → EndGo f p (stream_ended now id p)
unfolding stream_ended sent
go_ended f now id p unclosed =
    let old : StreamRow = stream_of id p.streams in
    let row : StreamRow = record old { close = Queued } in
    let c : Item = close_of id old.generation in
    go_of f p (stream_ended now id p)
    (take_put id row (c ∷ []) [] f p (stream_ended now id p)
    (record {
      stream_is = stream_of-stream id p.streams;
      streams = refl;
      acked = refl;
      items = refl;
      received = omega arith;
      strayed = refl;
      brings = tt;
      own = λ s g k. absurd k;
      sent = (refl, tt);
      fits = λ w r h. (((λ g less. h.below g less), (λ k. unsent id p w r unclosed h k)), tt);
      keeps = λ w r h. row_queued id old c p.outbox.items w r (record { part_is = refl; stream_is = refl; generation_is = refl }) h;
    }))

pub go_written : (f : Option Frame) (id i : ℕ) (bytes : List ℕ) (p : Contents) → is_closed_here (stream_of id p.streams) ≡ false
    → EndGo f p (message_written id i bytes p)
unfolding sent
go_written f id i bytes p unclosed =
    let more : List Item = pieces_of (p.limits.max_payload - 28) id (stream_of id p.streams).generation i bytes in
    go_of f p (message_written id i bytes p)
    (record {
      more = more;
      got = [];
      acked = refl;
      items = refl;
      received = omega arith;
      strayed = refl;
      brings = tt;
      keeps = λ w r h. λ s.
          row_more s (stream_of s p.streams) (stream_of s p.streams) p.outbox.items (p.outbox.items ++ more) w more r []
          (record { generation_is = refl; close_is = refl; finished_is = refl }) (λ g c. close-left s g p.outbox.items more c) (λ g c. absurd c) (λ g c. close-pieces _ _ id _ i s g bytes c) (pieces_low id (stream_of id p.streams).generation s (stream_of s p.streams).generation more all (λ e. subst (λ (n : ℕ). (stream_of id p.streams).generation ≤ (stream_of n p.streams).generation) e (omega arith))) (h s);
      fits = λ w r k. pieces_fit id (stream_of id p.streams).generation w more all (λ g less. RowKeeps.below (k id) g less) (λ c. unsent id p w r unclosed (k id) c);
    })
  where
    h : ℕ
    h = (stream_of id p.streams).generation

    all : AllPieces id h (pieces_of (p.limits.max_payload - 28) id h i bytes)
    all = pieces_are (length bytes) (p.limits.max_payload - 28) id h i bytes

pub go_connected : (f : Option Frame) (now m : ℕ) (p : Contents) → EndGo f p (connected now m p)
unfolding started_as said_hello
go_connected f now m p = go_same f p (connected now m p) refl refl refl refl

pub go_accepted : (f : Option Frame) (now m : ℕ) (p : Contents) → EndGo f p (accepted now m p)
unfolding started_as
go_accepted f now m p = go_same f p (accepted now m p) refl refl refl refl

pub go_snapped : (f : Option Frame) (now m : ℕ) (p : Contents) → EndGo f p (snapped now m p)
unfolding snapped started_as
go_snapped f now m p = go_same f p (snapped now m p) refl refl refl refl

pub go_limited : (f : Option Frame) (n m : ℕ) (p : Contents) → EndGo f p (limited n m p)
unfolding limited
go_limited f n m p = go_same f p (limited n m p) refl refl refl refl

pub go_taken_out : (f : Option Frame) (id : ℕ) (p : Contents) → EndGo f p (taken_out id p)
unfolding taken_out
go_taken_out f id p = go_same f p (taken_out id p) refl refl refl refl

pub go_shut_down : (f : Option Frame) (p : Contents) → EndGo f p (shut_down p)
unfolding shut_down
go_shut_down f p = go_same f p (shut_down p) refl refl refl refl

pub go_timed : (f : Option Frame) (now : ℕ) (p : Contents) → EndGo f p (timed now p)
unfolding timed
go_timed f now p = go_same f p (timed now p) refl refl refl refl

pub go_none : (f : Option Frame) (p : Contents) → EndGo f p p
go_none f p = go_same f p p refl refl refl refl

-- a stream that may be closed was not
