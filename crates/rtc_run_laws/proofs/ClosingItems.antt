-- What an item that comes to an end of the plain association does to the closes of generations.
use Rattle.std.proofs.Common.{◌≡◌, ◌∙◌, ◌⊎◌, inl, inr, ◌+◌, ◌<◌, ◌==◌, ◌&&◌, ◌||◌, ℕ, not, cond, Bool, true, false, true≢false, List, [], ◌∷◌, ◌++◌, append-nil, Option, Some, refl, sym, ap, subst, arith}
use Rattle.std.proofs.lemmas.Bool.{eqb-false, eqb-true}
use Rattle.rtc_assoc_state.specs.declared.item.Item.{Item}
use Rattle.rtc_assoc_state.specs.declared.item_part.ItemPart.{ItemPart}
use Rattle.rtc_assoc_state.specs.declared.item_part.ItemPart.TheVariants.{More, Last, Close}
use Rattle.rtc_assoc_state.specs.declared.frame.Frame.{Frame}
use Rattle.rtc_assoc_state.specs.declared.frame.Frame.TheVariants.{Data}
use Rattle.rtc_assoc_state.specs.Pieces.{close_of}
use Rattle.rtc_assoc_state.specs.declared.close_state.CloseState.{CloseState}
use Rattle.rtc_assoc_state.specs.declared.close_state.CloseState.TheVariants.{Unclosed, Queued, Acknowledged}
use Rattle.rtc_assoc_state.specs.declared.stream_row.StreamRow.{StreamRow}
use Rattle.rtc_assoc_state.specs.Contents.{Contents, is_ending, generation_of}
use Rattle.rtc_assoc_state.specs.Streams.{is_closed_here, is_unclosed, put, reset_row, stream_of, takes_messages}
use Rattle.rtc_assoc_state.specs.Outbox.{Outbox}
use Rattle.rtc_assoc_state.specs.Settling.{can_reset}
use Rattle.rtc_assoc_state.specs.Calls.{sent, item_counted, more_kept, last_kept, piece_kept, finished, reset_told, close_came_at, part_came, item_put, item_taken, is_stray, with_stray, item_came, answered}
use Rattle.rtc_assoc_state.proofs.RaiseLemmas.{stream_of-stream}
use Rattle.rtc_assoc.proofs.MessageLemmas.{Closes, HasClose, close-left, close-right}
use Rattle.rtc_assoc.proofs.FrameLemmas.{Brings}
use Rattle.rtc_run_laws.proofs.ClosingRows.{RowKeeps, row_answered, row_finished, row_more, row_next}
use Rattle.rtc_run_laws.proofs.ClosingSteps.{TakeGo, take_as, take_put, take_same}

-- an item is taken
no_more : More ≡ Close → ⊥
no_more h = cc

no_last : Last ≡ Close → ⊥
no_last h = cc

-- an item that is not a stray leaves no mark
or_none : (a b : Bool) → b ≡ false → (a || b) ≡ a
or_none true b e = refl
or_none false b e = e

same_test : (m n : ℕ) → m ≡ n → (m == n) ≡ true
same_test m n e = grind (arith, e)

not_stray : (g own : ℕ) → g ≡ own → not (g == own) ≡ false
not_stray g own e = ap not (same_test g own e)

take_with_stray : (f : Option Frame) (p q : Contents) (b : Bool) → b ≡ false → TakeGo f p q → TakeGo f p (with_stray b q)
take_with_stray f p q b none h = take_as f p q (with_stray b q) refl refl refl (or_none q.inbox.strayed b none) h

module _ (n number : ℕ) (item : Item) (p : Contents) (number_is : number ≡ p.inbox.received + 1) where
  abbrev old : StreamRow
  old = stream_of item.stream p.streams

  abbrev row : StreamRow
  row = record (stream_of item.stream p.streams) { there = true }

  row_is : (w r : List Item) → RowKeeps item.stream old p.outbox.items w r → RowKeeps item.stream row p.outbox.items w r
  row_is w r h = record {
    below = h.below;
    own = h.own;
    known = h.known;
    queued = h.queued;
    rests = h.rests;
    follows = h.follows;
    bounded = h.bounded;
    mine = h.mine;
    heard = h.heard;
    ended = h.ended;
    within = h.within;
  }

  own_stream : (s g : ℕ) → HasClose s g (item ∷ []) → s ≡ item.stream
  own_stream s g (inl c) = sym c.stream_is
  own_stream s g (inr c) = absurd c

  brought : Brings p.inbox.received (item ∷ []) (Some (Data n number item))
  brought = (refl, number_is, refl)

  -- no close that tells anything
  counted : (q : Contents) → q.streams ≡ p.streams → q.outbox ≡ p.outbox → q.inbox.received ≡ p.inbox.received → q.inbox.strayed ≡ p.inbox.strayed
      → ((g : ℕ) → Closes item.stream g item → g < row.generation) → TakeGo (Some (Data n number item)) p (item_counted row q)
  unfolding item_counted
  counted q s o i ah news =
      take_put item.stream row [] (item ∷ []) (Some (Data n number item)) p (item_counted row q)
      (record {
        stream_is = stream_of-stream item.stream p.streams;
        streams = ap (λ (l : List StreamRow). put row l) s;
        acked = ap (λ (x : Outbox). x.acked) o;
        items = ap (λ (x : Outbox). x.items) o ∙ sym (append-nil p.outbox.items);
        received = omega (arith, i);
        strayed = ah;
        brings = brought;
        own = own_stream;
        sent = tt;
        fits = λ w r h. tt;
        keeps = λ w r h.
            row_more item.stream old row p.outbox.items (p.outbox.items ++ []) w [] r (item ∷ [])
            (record { generation_is = refl; close_is = refl; finished_is = refl }) (λ g c. close-left item.stream g p.outbox.items [] c)
            (λ g c. inl (only g c)) (λ g c. c) tt h;
      })
    where
      only : (g : ℕ) → HasClose item.stream g (item ∷ []) → g < row.generation
      only g (inl c) = news g c
      only g (inr c) = absurd c

  kept : (part : ItemPart) (q : Contents) → TakeGo (Some (Data n number item)) p q → TakeGo (Some (Data n number item)) p (piece_kept part item q)
  unfolding more_kept last_kept
  kept Last q h = take_as (Some (Data n number item)) p q (last_kept item q) refl refl refl refl h
  kept More q h = take_as (Some (Data n number item)) p q (more_kept item q) refl refl refl refl h
  kept Close q h = take_as (Some (Data n number item)) p q (more_kept item q) refl refl refl refl h

  piece_came : (b : Bool) → TakeGo (Some (Data n number item)) p (item_counted row p)
      → TakeGo (Some (Data n number item)) p (cond b (piece_kept item.part item (item_counted row p)) (item_counted row p))
  piece_came true h = kept item.part (item_counted row p) h
  piece_came false h = h

  -- a close of the generation that the stream has
  module _ (part_is : item.part ≡ Close) (generation_is : item.generation ≡ row.generation) where
    closes_it : Closes item.stream row.generation item
    closes_it = record { part_is = part_is; stream_is = refl; generation_is = generation_is }

    by_generation : (g : ℕ) → HasClose item.stream g (item ∷ []) → g ≡ row.generation
    by_generation g (inl c) = sym c.generation_is ∙ generation_is
    by_generation g (inr c) = absurd c

    done : is_closed_here row ≡ true → (row.close ≡ Acknowledged → can_reset row ≡ false)
        → TakeGo (Some (Data n number item)) p (item_counted (record row { finished = true }) (finished row p))
    unfolding item_counted finished
    done closed last =
        take_put item.stream (record row { finished = true }) [] (item ∷ []) (Some (Data n number item)) p
        (item_counted (record row { finished = true }) (finished row p))
        (record {
          stream_is = stream_of-stream item.stream p.streams;
          streams = refl;
          acked = refl;
          items = sym (append-nil p.outbox.items);
          received = refl;
          strayed = refl;
          brings = brought;
          own = own_stream;
          sent = tt;
          fits = λ w r h. tt;
          keeps = λ w r h.
              row_finished item.stream row item p.outbox.items (p.outbox.items ++ []) w r (λ g c. close-left item.stream g p.outbox.items [] c) closed
              last closes_it (row_is w r h);
        })

    reset : (b : Bool) → can_reset row ≡ b → is_closed_here row ≡ true → TakeGo (Some (Data n number item)) p
        (cond b (reset_told row (item_counted (reset_row row) (finished row p))) (item_counted (record row { finished = true }) (finished row p)))
    unfolding item_counted finished reset_told
    reset true can closed =
        take_put item.stream (reset_row row) [] (item ∷ []) (Some (Data n number item)) p (reset_told row (item_counted (reset_row row) (finished row p)))
        (record {
          stream_is = stream_of-stream item.stream p.streams;
          streams = refl;
          acked = refl;
          items = sym (append-nil p.outbox.items);
          received = refl;
          strayed = refl;
          brings = brought;
          own = own_stream;
          sent = tt;
          fits = λ w r h. tt;
          keeps = λ w r h.
              row_next item.stream row p.outbox.items (p.outbox.items ++ []) w r (item ∷ []) closed can by_generation (close-right item.stream row.generation r (item ∷ []) (inl closes_it)) (row_is w r h);
        })
    reset false can closed = done closed (λ e. can)

    answer : row.close ≡ Unclosed → TakeGo (Some (Data n number item)) p (close_came_at Unclosed 0 row (finished row p))
    unfolding item_counted finished sent
    answer unclosed =
        take_put item.stream (record row { close = Queued; finished = true }) (close_of row.stream row.generation ∷ []) (item ∷ [])
        (Some (Data n number item)) p (close_came_at Unclosed 0 row (finished row p))
        (record {
          stream_is = stream_of-stream item.stream p.streams;
          streams = refl;
          acked = refl;
          items = refl;
          received = refl;
          strayed = refl;
          brings = brought;
          own = own_stream;
          sent = (stream_of-stream item.stream p.streams, tt);
          fits = λ w r h. (((λ g less. subst (λ (n : ℕ). HasClose n g w) (sym (stream_of-stream item.stream p.streams)) (h.below g less)), (λ c. unsent w r h (subst (λ (n : ℕ). HasClose n row.generation w) (stream_of-stream item.stream p.streams) c))), tt);
          keeps = λ w r h.
              row_answered item.stream row (close_of row.stream row.generation) item p.outbox.items w r
              (record { part_is = refl; stream_is = stream_of-stream item.stream p.streams; generation_is = refl }) closes_it (row_is w r h);
        })
      where
        not_closed : is_closed_here row ≡ true → ⊥
        not_closed e = true≢false (sym e ∙ ap (λ (c : CloseState). not (is_unclosed c)) unclosed)

        unsent : (w r : List Item) → RowKeeps item.stream old p.outbox.items w r → HasClose item.stream row.generation w → ⊥
        unsent w r h c = by (h.mine row.generation c)
          where
            by : (row.generation < old.generation) ⊎ ((row.generation ≡ old.generation) × (is_closed_here old ≡ true)) → ⊥
            by (inl less) = absurd (omega (arith, less))
            by (inr k) = not_closed k.1

    answered_at : row.close ≡ Unclosed → (now : ℕ) → TakeGo (Some (Data n number item)) p (close_came_at Unclosed now row (finished row p))
    unfolding sent
    answered_at unclosed now =
        take_as (Some (Data n number item)) p (close_came_at Unclosed 0 row (finished row p)) (close_came_at Unclosed now row (finished row p)) refl refl refl
        refl (answer unclosed)

    no_rest : Queued ≡ Acknowledged → ⊥
    no_rest h = cc

    close_at : (close : CloseState) (now : ℕ) → row.close ≡ close → TakeGo (Some (Data n number item)) p (close_came_at close now row (finished row p))
    close_at Unclosed now is = answered_at is now
    close_at Queued now is = done (ap (λ (c : CloseState). not (is_unclosed c)) is) (λ e. absurd (no_rest (sym is ∙ e)))
    close_at Acknowledged now is = reset (can_reset row) refl (ap (λ (c : CloseState). not (is_unclosed c)) is)

  close_came : (b : Bool) (now : ℕ) → item.part ≡ Close → (item.generation == row.generation) ≡ b → item.generation ≡ row.generation
      → TakeGo (Some (Data n number item)) p (cond b (close_came_at row.close now row (finished row p)) (item_counted row p))
  close_came true now part_is e own = close_at part_is (eqb-true item.generation row.generation e) row.close now refl
  close_came false now part_is e own = absurd (eqb-false item.generation row.generation e own)

  part_came_so : (part : ItemPart) (now : ℕ) → item.part ≡ part → item.generation ≡ row.generation
      → TakeGo (Some (Data n number item)) p (part_came part now item row p)
  part_came_so Close now is own = close_came (item.generation == row.generation) now is refl own
  part_came_so More now is own =
      piece_came (takes_messages row item.generation) (counted p refl refl refl refl (λ g c. absurd (no_more (sym is ∙ c.part_is))))
  part_came_so Last now is own =
      piece_came (takes_messages row item.generation) (counted p refl refl refl refl (λ g c. absurd (no_last (sym is ∙ c.part_is))))

  item_taken_so : (now : ℕ) → item.generation ≡ row.generation → TakeGo (Some (Data n number item)) p (item_taken now item p)
  item_taken_so now own =
      take_with_stray (Some (Data n number item)) p (item_put now item p) (is_stray item p) (not_stray item.generation row.generation own)
      (part_came_so item.part now refl own)

item_if : (next ending : Bool) (n now number : ℕ) (item : Item) (p : Contents) → (number == p.inbox.received + 1) ≡ next
    → (number ≡ p.inbox.received + 1 → item.generation ≡ generation_of p item.stream)
    → TakeGo (Some (Data n number item)) p (cond (next && not ending) (item_taken now item p) p)
item_if true true n now number item p e timely = take_same (Some (Data n number item)) p p refl refl refl refl
item_if true false n now number item p e timely =
    let next = eqb-true number (p.inbox.received + 1) e in item_taken_so n number item p next now (timely next)
item_if false ending n now number item p e timely = take_same (Some (Data n number item)) p p refl refl refl refl

pub item_come : (n now number : ℕ) (item : Item) (p : Contents) → (number ≡ p.inbox.received + 1 → item.generation ≡ generation_of p item.stream)
    → TakeGo (Some (Data n number item)) p (item_came now number item p)
unfolding item_came
item_come n now number item p timely = item_if (number == p.inbox.received + 1) (is_ending p) n now number item p refl timely

pub take_answered : (f : Option Frame) (p q : Contents) → TakeGo f p q → TakeGo f p (answered q)
unfolding answered
take_answered f p q h = take_as f p q (answered q) refl refl refl refl h
