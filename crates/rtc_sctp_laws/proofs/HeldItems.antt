-- What an item that comes leaves of each stream, if it is of the generation that its stream has.
use Rattle.std.proofs.Common.{◌≡◌, ◌∙◌, ◌⊎◌, ◌+◌, ◌++◌, ◌==◌, ◌&&◌, ◌||◌, inl, inr, not, nat_lt, cond, ℕ, Bool, true, false, true≢false, List, refl, sym, ap, subst, arith}
use Rattle.std.proofs.lemmas.Bool.{eqb-true, eqb-false, ne_eqb}
use Rattle.rtc_assoc_state.specs.declared.item.Item.{Item}
use Rattle.rtc_assoc_state.specs.declared.item_part.ItemPart.{ItemPart}
use Rattle.rtc_assoc_state.specs.declared.item_part.ItemPart.TheVariants.{More, Last, Close}
use Rattle.rtc_assoc_state.specs.declared.close_state.CloseState.{CloseState}
use Rattle.rtc_assoc_state.specs.declared.close_state.CloseState.TheVariants.{Unclosed, Queued, Acknowledged}
use Rattle.rtc_assoc_state.specs.declared.stream_row.StreamRow.{StreamRow}
use Rattle.rtc_assoc_state.specs.Contents.{Contents, generation_of, has_stream}
use Rattle.rtc_assoc_state.specs.Streams.{stream_of, put, reset_row, takes_messages, is_closed_here, is_unclosed}
use Rattle.rtc_assoc_state.specs.Inbox.{bytes_so_far, message_of}
use Rattle.rtc_assoc_state.specs.Settling.{can_reset}
use Rattle.rtc_assoc_state.specs.Calls.{sent, item_counted, more_kept, last_kept, piece_kept, finished, reset_told, close_came_at, part_came, item_put, item_taken}
use Rattle.rtc_assoc_state.proofs.RaiseLemmas.{stream_of-put, stream_of-put_other, stream_of-stream}
use Rattle.rtc_sctp_laws.proofs.KeptLists.{HasMessage, HasPart, bytes_keeps, bytes_own, message_beside, message_keeps, message_own, part_beside}
use Rattle.rtc_sctp_laws.proofs.HeldRows.{IsKeptIn, IsKeptOpen, Beside, Comes, comes_beside, comes_held}

-- of its own stream
own_row : (t : ℕ) (row : StreamRow) (rows : List StreamRow) (q : Contents) → q.streams ≡ put row rows → row.stream ≡ t → stream_of t q.streams ≡ row
own_row t row rows q streams same =
    ap (λ (l : List StreamRow). stream_of t l) streams ∙ ap (λ (n : ℕ). stream_of n (put row rows)) (sym same) ∙ stream_of-put row rows

closed_row : (t : ℕ) (row : StreamRow) (q : Contents) → stream_of t q.streams ≡ row → is_closed_here row ≡ true → IsKeptOpen q t
closed_row t row q same closed = inr (ap is_closed_here same ∙ closed)

untaken_closed : (row : StreamRow) (g : ℕ) → takes_messages row g ≡ false → row.generation ≡ g → is_closed_here row ≡ true
untaken_closed row g h same = by (is_closed_here row) refl
  where
    test : (row.generation == g) ≡ true
    test = grind (arith, same)

    no : (a b c : Bool) → b ≡ true → c ≡ false → (a || (b && not c)) ≡ false → ⊥
    no true b c e f k = true≢false k
    no false true false e f k = true≢false k
    no false true true e f k = true≢false f
    no false false c e f k = true≢false (sym e)

    by : (c : Bool) → is_closed_here row ≡ c → is_closed_here row ≡ true
    by true e = e
    by false e = absurd (no (nat_lt row.generation g) (row.generation == g) (is_closed_here row) test e h)

module _ (item : Item) (p : Contents) (own : item.generation ≡ generation_of p item.stream) where
  abbrev row : StreamRow
  row = record (stream_of item.stream p.streams) { there = true }

  of_row : row.stream ≡ item.stream
  of_row = stream_of-stream item.stream p.streams

  -- the generation of the item is that of its stream behind it
  own_item : (q : Contents) → q.streams ≡ put row p.streams → item.generation ≡ generation_of q item.stream
  own_item q streams = own ∙ ap (λ (r : StreamRow). r.generation) (sym (own_row item.stream row p.streams q streams of_row))

  held_last : (q : Contents) → q ≡ last_kept item (item_counted row p) → IsKeptOpen q item.stream
  unfolding last_kept item_counted
  held_last q is =
      inl
      (inl
      (subst (λ (n : ℕ). HasMessage item.stream n q.inbox.unread) (own_item q (ap (λ (x : Contents). x.streams) is))
      (subst (λ (x : Contents). HasMessage item.stream item.generation x.inbox.unread) (sym is)
      (message_own (message_of item (bytes_so_far item.stream item.generation p.inbox.parts ++ item.bytes)) p.inbox.unread))))

  held_more : (q : Contents) → q ≡ more_kept item (item_counted row p) → IsKeptOpen q item.stream
  unfolding more_kept item_counted
  held_more q is =
      inl
      (inr
      (subst (λ (n : ℕ). HasPart item.stream n q.inbox.parts) (own_item q (ap (λ (x : Contents). x.streams) is))
      (subst (λ (x : Contents). HasPart item.stream item.generation x.inbox.parts) (sym is)
      (bytes_own item.stream item.generation item.bytes p.inbox.parts))))

  held_counted : takes_messages row item.generation ≡ false → IsKeptOpen (item_counted row p) item.stream
  unfolding item_counted
  held_counted untaken =
      closed_row item.stream row (item_counted row p) (own_row item.stream row p.streams (item_counted row p) refl of_row)
      (untaken_closed row item.generation untaken (sym own))

  held_piece : (b : Bool) (part : ItemPart) → (part ≡ Close → ⊥) → takes_messages row item.generation ≡ b
      → IsKeptOpen (cond b (piece_kept part item (item_counted row p)) (item_counted row p)) item.stream
  held_piece true Last ne e = held_last (last_kept item (item_counted row p)) refl
  held_piece true More ne e = held_more (more_kept item (item_counted row p)) refl
  held_piece true Close ne e = absurd (ne refl)
  held_piece false part ne e = held_counted e

  -- a close
  closed_then : (new : StreamRow) (q : Contents) → q.streams ≡ put new p.streams → new.stream ≡ item.stream → is_closed_here new ≡ true
      → IsKeptOpen q item.stream
  closed_then new q streams same closed = closed_row item.stream new q (own_row item.stream new p.streams q streams same) closed

  -- the stream is there behind the item, or in the generation that it had
  abbrev Stays : Contents → Type 0
  Stays q = (has_stream q item.stream ≡ true) ⊎ (generation_of q item.stream ≡ generation_of p item.stream)

  no_next : (n : ℕ) → n + 1 ≡ n → ⊥
  no_next n h = omega (arith, h)

  not_reset : (q : Contents) → q.streams ≡ put (reset_row row) p.streams → Stays q → ⊥
  not_reset q streams (inl there) =
      true≢false (sym there ∙ ap (λ (r : StreamRow). r.there) (own_row item.stream (reset_row row) p.streams q streams of_row))
  not_reset q streams (inr same) =
      no_next row.generation (sym (ap (λ (r : StreamRow). r.generation) (own_row item.stream (reset_row row) p.streams q streams of_row)) ∙ same)

  held_reset : (b : Bool) → is_closed_here row ≡ true
      → let q = cond b (reset_told row (item_counted (reset_row row) (finished row p))) (item_counted (record row { finished = true }) (finished row p)) in
      Stays q → IsKeptOpen q item.stream
  unfolding reset_told item_counted finished
  held_reset true closed stays = absurd (not_reset (reset_told row (item_counted (reset_row row) (finished row p))) refl stays)
  held_reset false closed stays =
      closed_then (record row { finished = true }) (item_counted (record row { finished = true }) (finished row p)) refl of_row closed

  held_close : (close : CloseState) (now : ℕ) → row.close ≡ close → Stays (close_came_at close now row (finished row p))
      → IsKeptOpen (close_came_at close now row (finished row p)) item.stream
  unfolding sent item_counted finished
  held_close Unclosed now is stays =
      closed_then (record row { close = Queued; finished = true }) (close_came_at Unclosed now row (finished row p)) refl of_row refl
  held_close Queued now is stays =
      closed_then (record row { finished = true }) (close_came_at Queued now row (finished row p)) refl of_row
      (ap (λ (c : CloseState). not (is_unclosed c)) is)
  held_close Acknowledged now is stays = held_reset (can_reset row) (ap (λ (c : CloseState). not (is_unclosed c)) is) stays

  held_came : (b : Bool) (now : ℕ) → (item.generation == row.generation) ≡ b
      → let q = cond b (close_came_at row.close now row (finished row p)) (item_counted row p) in Stays q → IsKeptOpen q item.stream
  held_came true now e stays = held_close row.close now refl stays
  held_came false now e stays = absurd (eqb-false item.generation row.generation e own)

  no_last : Last ≡ Close → ⊥
  no_last h = cc

  no_more : More ≡ Close → ⊥
  no_more h = cc

  held_part : (part : ItemPart) (now : ℕ) → item.part ≡ part → Stays (part_came part now item row p) → IsKeptOpen (part_came part now item row p) item.stream
  held_part Close now is stays = held_came (item.generation == row.generation) now refl stays
  held_part More now is stays = held_piece (takes_messages row item.generation) item.part (λ e. no_more (sym is ∙ e)) refl
  held_part Last now is stays = held_piece (takes_messages row item.generation) item.part (λ e. no_last (sym is ∙ e)) refl

  held_item : (now : ℕ) → Stays (item_put now item p) → IsKeptOpen (item_put now item p) item.stream
  held_item now stays = held_part item.part now refl stays

  -- of another stream
  module _ (s : ℕ) (ne : item.stream ≡ s → ⊥) where
    beside_row : (new : StreamRow) (q : Contents) → q.streams ≡ put new p.streams → new.stream ≡ item.stream
        → ((g : ℕ) → IsKeptIn p s g → IsKeptIn q s g) → Beside s p q
    beside_row new q streams same keeps = record {
      there = λ t. (ap (λ (r : StreamRow). r.there) (sym as_was) ∙ t, ap (λ (r : StreamRow). r.generation) as_was);
      kept = keeps;
    }
      where
        as_was : stream_of s q.streams ≡ stream_of s p.streams
        as_was =
            ap (λ (l : List StreamRow). stream_of s l) streams ∙ stream_of-put_other s new p.streams (ne_eqb new.stream s (λ e. ne (sym same ∙ e)))

    beside_counted : Beside s p (item_counted row p)
    unfolding item_counted
    beside_counted = beside_row row (item_counted row p) refl of_row (λ g k. k)

    keeps_more : (q : Contents) → q.inbox.unread ≡ p.inbox.unread → q.inbox.parts ≡ p.inbox.parts → (g : ℕ) → IsKeptIn p s g
        → IsKeptIn (more_kept item q) s g
    unfolding more_kept
    keeps_more q a b g (inl k) = inl (subst (λ l. HasMessage s g l) (sym a) k)
    keeps_more q a b g (inr k) =
        inr (bytes_keeps s g item.stream item.generation item.bytes q.inbox.parts (subst (λ l. HasPart s g l) (sym b) k))

    keeps_last : (q : Contents) → q.inbox.unread ≡ p.inbox.unread → q.inbox.parts ≡ p.inbox.parts → (g : ℕ) → IsKeptIn p s g
        → IsKeptIn (last_kept item q) s g
    unfolding last_kept
    keeps_last q a b g (inl k) =
        inl
        (message_keeps s g (message_of item (bytes_so_far item.stream item.generation q.inbox.parts ++ item.bytes)) q.inbox.unread
        (subst (λ l. HasMessage s g l) (sym a) k))
    keeps_last q a b g (inr k) = inr (part_beside s g item.stream item.generation q.inbox.parts ne (subst (λ l. HasPart s g l) (sym b) k))

    beside_more : Beside s p (more_kept item (item_counted row p))
    unfolding more_kept item_counted
    beside_more = beside_row row (more_kept item (item_counted row p)) refl of_row (λ g k. keeps_more (item_counted row p) refl refl g k)

    beside_last : Beside s p (last_kept item (item_counted row p))
    unfolding last_kept item_counted
    beside_last = beside_row row (last_kept item (item_counted row p)) refl of_row (λ g k. keeps_last (item_counted row p) refl refl g k)

    beside_kept : (part : ItemPart) → Beside s p (piece_kept part item (item_counted row p))
    beside_kept Last = beside_last
    beside_kept More = beside_more
    beside_kept Close = beside_more

    beside_piece : (b : Bool) → Beside s p (cond b (piece_kept item.part item (item_counted row p)) (item_counted row p))
    beside_piece true = beside_kept item.part
    beside_piece false = beside_counted

    keeps_finished : (g : ℕ) → IsKeptIn p s g → IsKeptIn (finished row p) s g
    unfolding finished
    keeps_finished g (inl k) = inl (message_beside s g row.stream row.generation p.inbox.unread (λ e. ne (sym of_row ∙ e)) k)
    keeps_finished g (inr k) = inr (part_beside s g row.stream row.generation p.inbox.parts (λ e. ne (sym of_row ∙ e)) k)

    beside_then : (new : StreamRow) → new.stream ≡ item.stream → Beside s p (item_counted new (finished row p))
    unfolding item_counted finished
    beside_then new same = beside_row new (item_counted new (finished row p)) refl same (λ g k. keeps_finished g k)

    beside_reset : (b : Bool)
        → Beside s p (cond b (reset_told row (item_counted (reset_row row) (finished row p))) (item_counted (record row { finished = true }) (finished row p)))
    unfolding reset_told
    beside_reset true =
        let h = beside_then (reset_row row) of_row in
        record { there = λ t. h.there t; kept = λ g k. h.kept g k }
    beside_reset false = beside_then (record row { finished = true }) of_row

    beside_close : (close : CloseState) (now : ℕ) → Beside s p (close_came_at close now row (finished row p))
    unfolding sent
    beside_close Unclosed now =
        let h = beside_then (record row { close = Queued; finished = true }) of_row in
        record { there = λ t. h.there t; kept = λ g k. h.kept g k }
    beside_close Queued now = beside_then (record row { finished = true }) of_row
    beside_close Acknowledged now = beside_reset (can_reset row)

    beside_came : (b : Bool) (now : ℕ) → Beside s p (cond b (close_came_at row.close now row (finished row p)) (item_counted row p))
    beside_came true now = beside_close row.close now
    beside_came false now = beside_counted

    beside_part : (part : ItemPart) (now : ℕ) → Beside s p (part_came part now item row p)
    beside_part Close now = beside_came (item.generation == row.generation) now
    beside_part More now = beside_piece (takes_messages row item.generation)
    beside_part Last now = beside_piece (takes_messages row item.generation)

  comes_put : (s now : ℕ) → Comes s p (item_put now item p)
  comes_put s now = by (item.stream == s) refl
    where
      by : (b : Bool) → (item.stream == s) ≡ b → Comes s p (item_put now item p)
      by true e =
          subst (λ (n : ℕ). Comes n p (item_put now item p)) (eqb-true item.stream s e)
          (comes_held item.stream p (item_put now item p) (λ stays. held_item now stays))
      by false e = comes_beside s p (item_put now item p) (beside_part s (eqb-false item.stream s e) item.part now)

  pub comes_item : (s now : ℕ) → Comes s p (item_taken now item p)
  comes_item s now = let h = comes_put s now in record { there = h.there; kept = h.kept }
