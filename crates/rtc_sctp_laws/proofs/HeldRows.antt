-- The plain association keeps what came of a stream in its generation until it is read, unless this end closed it.
use Rattle.std.proofs.Common.{◌≡◌, ◌∙◌, ◌⊎◌, ◌+◌, ◌≤◌, ◌++◌, ◌∷◌, ◌==◌, ◌&&◌, inl, inr, cond, zero, suc, ℕ, Bool, true, false, true≢false, List, [], refl, sym, ap, subst, arith}
use Rattle.std.proofs.lemmas.Bool.{eqb-true}
use Rattle.rtc_parts.specs.declared.assoc_event.AssocEvent.TheVariants.{ResetComplete, BufferedAmountLow}
use Rattle.rtc_assoc_state.specs.declared.item.Item.{Item}
use Rattle.rtc_assoc_state.specs.declared.item_part.ItemPart.{ItemPart}
use Rattle.rtc_assoc_state.specs.declared.item_part.ItemPart.TheVariants.{More, Last, Close}
use Rattle.rtc_assoc_state.specs.declared.close_state.CloseState.{CloseState}
use Rattle.rtc_assoc_state.specs.declared.close_state.CloseState.TheVariants.{Unclosed, Queued, Acknowledged}
use Rattle.rtc_assoc_state.specs.declared.stream_row.StreamRow.{StreamRow}
use Rattle.rtc_assoc_state.specs.Contents.{Contents, closed_here, generation_of, has_stream}
use Rattle.rtc_assoc_state.specs.Streams.{stream_of, put, reset_row}
use Rattle.rtc_assoc_state.specs.Outbox.{settled_count, buffered, bytes_for}
use Rattle.rtc_assoc_state.specs.Settling.{Told, told_of, can_reset, reaches, close_settled, part_settled, item_settled, settled}
use Rattle.rtc_assoc_state.specs.Calls.{greeted, acknowledged}
use Rattle.rtc_assoc_state.proofs.RaiseLemmas.{stream_of-put, stream_of-put_other, stream_of-stream}
use Rattle.rtc_sctp_laws.proofs.KeptLists.{HasMessage, HasPart}

-- a whole message of a generation of a stream stands unread, or one whose last piece is to come
abbrev pub IsKeptIn : Contents → (s g : ℕ) → Type 0
IsKeptIn p s g = HasMessage s g p.inbox.unread ⊎ HasPart s g p.inbox.parts

-- so it is of the generation that the stream has
abbrev pub IsKept : Contents → ℕ → Type 0
IsKept p s = IsKeptIn p s (generation_of p s)

-- it is kept, or this end closed the stream
abbrev pub IsKeptOpen : Contents → ℕ → Type 0
IsKeptOpen p s = IsKept p s ⊎ (closed_here p s ≡ true)

-- a stream was there, in the generation that it has
abbrev pub StoodThere : ℕ → Contents → Contents → Type 0
StoodThere s p q = (has_stream p s ≡ true) × (generation_of q s ≡ generation_of p s)

-- of a stream to which nothing happens but that it is reset
pub record Beside (s : ℕ) (p q : Contents) : Type 0 where
  pub there : has_stream q s ≡ true → StoodThere s p q
  pub kept : (g : ℕ) → IsKeptIn p s g → IsKeptIn q s g

-- of any stream: it is there only as it was, or something is kept; and what was kept of its generation is still, if it is not closed
pub record Comes (s : ℕ) (p q : Contents) : Type 0 where
  pub there : has_stream q s ≡ true → StoodThere s p q ⊎ IsKeptOpen q s
  pub kept : generation_of q s ≡ generation_of p s → IsKept p s → IsKeptOpen q s

pub kept_as : (s g : ℕ) (q : Contents) → generation_of q s ≡ g → IsKeptIn q s g → IsKept q s
kept_as s g q e k = subst (λ (n : ℕ). IsKeptIn q s n) (sym e) k

pub comes_beside : (s : ℕ) (p q : Contents) → Beside s p q → Comes s p q
comes_beside s p q h = record {
  there = λ t. inl (h.there t);
  kept = λ e k. inl (kept_as s (generation_of p s) q e (h.kept (generation_of p s) k));
}

-- unless it is reset, something of it is kept
pub comes_held : (s : ℕ) (p q : Contents) → ((has_stream q s ≡ true) ⊎ (generation_of q s ≡ generation_of p s) → IsKeptOpen q s) → Comes s p q
comes_held s p q h = record { there = λ t. inr (h (inl t)); kept = λ e k. h (inr e) }

pub comes_none : (s : ℕ) (p : Contents) → Comes s p p
comes_none s p = record { there = λ t. inl (t, refl); kept = λ e k. inl k }

pub comes_then : (s : ℕ) (p m q : Contents) → generation_of p s ≤ generation_of m s → generation_of m s ≤ generation_of q s → Beside s p m → Comes s m q
    → Comes s p q
comes_then s p m q one two h k = record {
  there = λ t. by (k.there t);
  kept = λ e x. k.kept (last e) (kept_as s (generation_of p s) m (first e) (h.kept (generation_of p s) x));
}
  where
    first : generation_of q s ≡ generation_of p s → generation_of m s ≡ generation_of p s
    first e = omega (arith, one, two, e)

    last : generation_of q s ≡ generation_of p s → generation_of q s ≡ generation_of m s
    last e = omega (arith, one, two, e)

    back : generation_of q s ≡ generation_of m s → StoodThere s p m → StoodThere s p q
    back e was = (was.0, e ∙ was.1)

    by : StoodThere s m q ⊎ IsKeptOpen q s → StoodThere s p q ⊎ IsKeptOpen q s
    by (inl was) = inl (back was.1 (h.there was.0))
    by (inr x) = inr x

-- over the same streams and inbox
pub beside_same : (s : ℕ) (p q : Contents) → q.streams ≡ p.streams → q.inbox.unread ≡ p.inbox.unread → q.inbox.parts ≡ p.inbox.parts → Beside s p q
beside_same s p q streams unread parts = record {
  there = λ t.
      (sym (ap (λ (l : List StreamRow). (stream_of s l).there) streams) ∙ t, ap (λ (l : List StreamRow). (stream_of s l).generation) streams);
  kept = λ g k. by g k;
}
  where
    by : (g : ℕ) → IsKeptIn p s g → IsKeptIn q s g
    by g (inl k) = inl (subst (λ l. HasMessage s g l) (sym unread) k)
    by g (inr k) = inr (subst (λ l. HasPart s g l) (sym parts) k)

-- ---- rows

-- a stream is there, in a generation
abbrev pub IsThere : (g s : ℕ) → List StreamRow → Type 0
IsThere g s rows = ((stream_of s rows).there ≡ true) × ((stream_of s rows).generation ≡ g)

pub there_put : (g id : ℕ) (row : StreamRow) (rows : List StreamRow) → row.stream ≡ id → ((row.there ≡ true) × (row.generation ≡ g) → IsThere g id rows)
    → (s : ℕ) → IsThere g s (put row rows) → IsThere g s rows
there_put g id row rows same own s h = by (row.stream == s) refl
  where
    carried : (x y : StreamRow) → x ≡ y → (x.there ≡ true) × (x.generation ≡ g) → (y.there ≡ true) × (y.generation ≡ g)
    carried x y e k = (ap (λ (r : StreamRow). r.there) (sym e) ∙ k.0, ap (λ (r : StreamRow). r.generation) (sym e) ∙ k.1)

    by : (b : Bool) → (row.stream == s) ≡ b → IsThere g s rows
    by true e =
        let at : row.stream ≡ s = eqb-true row.stream s e in
        subst (λ (n : ℕ). IsThere g n rows) (sym same ∙ at)
        (own (carried (stream_of s (put row rows)) row (ap (λ (n : ℕ). stream_of n (put row rows)) (sym at) ∙ stream_of-put row rows) h))
    by false e = carried (stream_of s (put row rows)) (stream_of s rows) (stream_of-put_other s row rows e) h

there_queued : (done can : Bool) (g id : ℕ) (t : Told) (s : ℕ)
    → let row = stream_of id t.streams in
    IsThere g s (cond (done && can) (told_of (put (reset_row row) t.streams) (t.events ++ ResetComplete row.stream ∷ [])) (told_of (put (record row { close = Acknowledged }) t.streams) t.events)).streams
    → IsThere g s t.streams
there_queued true true g id t s h =
    there_put g id (reset_row (stream_of id t.streams)) t.streams (stream_of-stream id t.streams) (λ k. absurd (true≢false (sym k.0))) s h
there_queued true false g id t s h =
    there_put g id (record (stream_of id t.streams) { close = Acknowledged }) t.streams (stream_of-stream id t.streams) (λ k. k) s h
there_queued false can g id t s h =
    there_put g id (record (stream_of id t.streams) { close = Acknowledged }) t.streams (stream_of-stream id t.streams) (λ k. k) s h

there_close : (close : CloseState) (g id : ℕ) (t : Told) (s : ℕ) → IsThere g s (close_settled close (stream_of id t.streams) t).streams
    → IsThere g s t.streams
there_close Unclosed g id t s h = h
there_close Queued g id t s h = there_queued (stream_of id t.streams).finished (can_reset (stream_of id t.streams)) g id t s h
there_close Acknowledged g id t s h = h

there_low : (b : Bool) (g n : ℕ) (t : Told) (s : ℕ) → IsThere g s (cond b (told_of t.streams (t.events ++ BufferedAmountLow n ∷ [])) t).streams
    → IsThere g s t.streams
there_low true g n t s h = h
there_low false g n t s h = h

there_part : (part : ItemPart) (g : ℕ) (item : Item) (behind : List Item) (t : Told) (s : ℕ)
    → IsThere g s (part_settled part item (stream_of item.stream t.streams) behind t).streams → IsThere g s t.streams
there_part Close g item behind t s h = there_close (stream_of item.stream t.streams).close g item.stream t s h
there_part More g item behind t s h =
    there_low (reaches (stream_of item.stream t.streams).threshold (bytes_for item.stream item + buffered item.stream behind) (buffered item.stream behind))
    g item.stream t s h
there_part Last g item behind t s h =
    there_low (reaches (stream_of item.stream t.streams).threshold (bytes_for item.stream item + buffered item.stream behind) (buffered item.stream behind))
    g item.stream t s h

there_item : (g : ℕ) (item : Item) (behind : List Item) (t : Told) (s : ℕ) → IsThere g s (item_settled item behind t).streams → IsThere g s t.streams
unfolding item_settled
there_item g item behind t s h = there_part item.part g item behind t s h

there_settled : (count g : ℕ) (items : List Item) (t : Told) (s : ℕ) → IsThere g s (settled count items t).streams → IsThere g s t.streams
there_settled zero g items t s h = h
there_settled (suc count) g [] t s h = h
there_settled (suc count) g (item ∷ items) t s h = there_item g item items t s (there_settled count g items (item_settled item items t) s h)

pub beside_acknowledged : (s n : ℕ) (p : Contents) → Beside s p (acknowledged n p)
unfolding acknowledged
beside_acknowledged s n p = record {
  there = λ t.
      let was =
      there_settled (settled_count n p.outbox) (generation_of (acknowledged n p) s) p.outbox.items (told_of p.streams p.events) s (t, refl) in
      (was.0, sym was.1);
  kept = λ g k. k;
}

pub beside_front : (s n : ℕ) (p : Contents) → Beside s p (acknowledged n (greeted p))
unfolding greeted
beside_front s n p = let h = beside_acknowledged s n (greeted p) in record { there = λ t. h.there t; kept = λ g k. h.kept g k }
