-- What acknowledgements leave of the closes of generations that an end sent and got.
use Rattle.std.proofs.Common.{◌≡◌, ◌∙◌, inl, inr, ◌+◌, ◌==◌, ◌&&◌, ℕ, zero, suc, not, cond, Bool, true, false, true≢false, List, [], ◌∷◌, ◌++◌, drop, refl, sym, ap}
use Rattle.std.proofs.lemmas.Bool.{eqb-true, eqb-false}
use Rattle.rtc_parts.specs.declared.assoc_event.AssocEvent.TheVariants.{ResetComplete, BufferedAmountLow}
use Rattle.rtc_assoc_state.specs.declared.item.Item.{Item}
use Rattle.rtc_assoc_state.specs.declared.item_part.ItemPart.{ItemPart}
use Rattle.rtc_assoc_state.specs.declared.item_part.ItemPart.TheVariants.{More, Last, Close}
use Rattle.rtc_assoc_state.specs.declared.close_state.CloseState.{CloseState}
use Rattle.rtc_assoc_state.specs.declared.close_state.CloseState.TheVariants.{Unclosed, Queued, Acknowledged}
use Rattle.rtc_assoc_state.specs.declared.stream_row.StreamRow.{StreamRow}
use Rattle.rtc_assoc_state.specs.Streams.{is_closed_here, is_unclosed, put, reset_row, stream_of}
use Rattle.rtc_assoc_state.specs.Outbox.{buffered, bytes_for}
use Rattle.rtc_assoc_state.specs.Settling.{Told, can_reset, close_settled, item_settled, part_settled, reaches, settled, told_of}
use Rattle.rtc_assoc_state.proofs.RaiseLemmas.{stream_of-stream}
use Rattle.rtc_assoc.proofs.MessageLemmas.{Closes, HasClose, close-left}
use Rattle.rtc_run_laws.proofs.ClosingRows.{Keeps, RowKeeps, keeps_nil, keeps_put, no_open, no_queue, row_acknowledged, row_more, row_next}

-- behind an item that is no close of the stream
behind : (item : Item) (items : List Item) (s g : ℕ) → (Closes s g item → ⊥) → HasClose s g (item ∷ items) → HasClose s g items
behind item items s g none (inl k) = absurd (none k)
behind item items s g none (inr k) = k

items_behind : (streams : List StreamRow) (item : Item) (items w r : List Item) → ((s g : ℕ) → Closes s g item → ⊥) → Keeps streams (item ∷ items) w r
    → Keeps streams items w r
items_behind streams item items w r none h =
    keeps_nil streams items w r
    (λ s.
    row_more s (stream_of s streams) (stream_of s streams) (item ∷ items) items w [] r []
    (record { generation_is = refl; close_is = refl; finished_is = refl }) (λ g k. behind item items s g (none s g) k) (λ g k. absurd k) (λ g k. k) tt (h s))

-- where the row is not queued, its close may be dropped
close_behind : (streams : List StreamRow) (item : Item) (items w r : List Item) → ((stream_of item.stream streams).close ≡ Queued → ⊥)
    → Keeps streams (item ∷ items) w r → Keeps streams items w r
close_behind streams item items w r none h = λ s. by s (item.stream == s) refl
  where
    by : (s : ℕ) (b : Bool) → (item.stream == s) ≡ b → RowKeeps s (stream_of s streams) items w r
    by s true e =
        let is = eqb-true item.stream s e in
        let k = h s in
        record {
          below = k.below;
          own = k.own;
          known = k.known;
          queued = λ f. absurd (none (ap (λ (n : ℕ). (stream_of n streams).close) is ∙ f));
          rests = k.rests;
          follows = k.follows;
          bounded = k.bounded;
          mine = k.mine;
          heard = k.heard;
          ended = k.ended;
          within = k.within;
        }
    by s false e =
        let ne = eqb-false item.stream s e in
        let k = h s in
        record {
          below = k.below;
          own = k.own;
          known = k.known;
          queued = λ f. behind item items s (stream_of s streams).generation (λ c. ne c.stream_is) (k.queued f);
          rests = k.rests;
          follows = k.follows;
          bounded = k.bounded;
          mine = k.mine;
          heard = k.heard;
          ended = k.ended;
          within = k.within;
        }

other_behind : (item : Item) (items : List Item) (s g : ℕ) → (s ≡ item.stream → ⊥) → HasClose s g (item ∷ items) → HasClose s g items
other_behind item items s g ne h = behind item items s g (λ c. ne (sym c.stream_is)) h

queued_closed : (row : StreamRow) → row.close ≡ Queued → is_closed_here row ≡ true
queued_closed row e = ap (λ (c : CloseState). not (is_unclosed c)) e

acknowledged_keeps : (item : Item) (items : List Item) (streams : List StreamRow) (w r : List Item) → (stream_of item.stream streams).close ≡ Queued
    → ((stream_of item.stream streams).finished ≡ true → can_reset (stream_of item.stream streams) ≡ false) → Keeps streams (item ∷ items) w r
    → Keeps (put (record (stream_of item.stream streams) { close = Acknowledged }) streams) items w r
acknowledged_keeps item items streams w r was last h =
    keeps_nil (put (record (stream_of item.stream streams) { close = Acknowledged }) streams) items w r
    (keeps_put item.stream (record (stream_of item.stream streams) { close = Acknowledged }) streams (item ∷ items) items w [] r []
    (stream_of-stream item.stream streams)
    (row_acknowledged item.stream (stream_of item.stream streams) (item ∷ items) items w r was last (h item.stream))
    (λ s g ne k. other_behind item items s g ne k) (λ s g k. absurd k) tt h)

queued_keeps : (done can : Bool) (item : Item) (items : List Item) (t : Told) (w r : List Item) → done ≡ (stream_of item.stream t.streams).finished
    → can ≡ can_reset (stream_of item.stream t.streams) → (stream_of item.stream t.streams).close ≡ Queued → Keeps t.streams (item ∷ items) w r
    → let row = stream_of item.stream t.streams in
    Keeps (cond (done && can) (told_of (put (reset_row row) t.streams) (t.events ++ ResetComplete row.stream ∷ []))
    (told_of (put (record row { close = Acknowledged }) t.streams) t.events)).streams items w r
queued_keeps true true item items t w r done can was h =
    keeps_nil (put (reset_row (stream_of item.stream t.streams)) t.streams) items w r
    (keeps_put item.stream (reset_row (stream_of item.stream t.streams)) t.streams (item ∷ items) items w [] r [] (stream_of-stream item.stream t.streams)
    (row_next item.stream (stream_of item.stream t.streams) (item ∷ items) items w r [] (queued_closed (stream_of item.stream t.streams) was) (sym can)
    (λ g k. absurd k) (close-left item.stream (stream_of item.stream t.streams).generation r [] (RowKeeps.ended (h item.stream) (sym done))) (h item.stream))
    (λ s g ne k. other_behind item items s g ne k) (λ s g k. absurd k) tt h)
queued_keeps true false item items t w r done can was h = acknowledged_keeps item items t.streams w r was (λ f. sym can) h
queued_keeps false can_be item items t w r done can was h =
    acknowledged_keeps item items t.streams w r was (λ f. absurd (true≢false (sym f ∙ sym done))) h

close_keeps : (close : CloseState) (item : Item) (items : List Item) (t : Told) (w r : List Item) → (stream_of item.stream t.streams).close ≡ close
    → Keeps t.streams (item ∷ items) w r → Keeps (close_settled close (stream_of item.stream t.streams) t).streams items w r
close_keeps Unclosed item items t w r is h = close_behind t.streams item items w r (λ e. no_open (sym is ∙ e)) h
close_keeps Acknowledged item items t w r is h = close_behind t.streams item items w r (λ e. no_queue (sym is ∙ e)) h
close_keeps Queued item items t w r is h = queued_keeps (stream_of item.stream t.streams).finished (can_reset (stream_of item.stream t.streams)) item items t w r refl refl is h

low_keeps : (b : Bool) (s : ℕ) (t : Told) (items w r : List Item) → Keeps t.streams items w r
    → Keeps (cond b (told_of t.streams (t.events ++ BufferedAmountLow s ∷ [])) t).streams items w r
low_keeps true s t items w r h = h
low_keeps false s t items w r h = h

no_more : More ≡ Close → ⊥
no_more h = cc

no_last : Last ≡ Close → ⊥
no_last h = cc

part_keeps : (part : ItemPart) (item : Item) (items : List Item) (t : Told) (w r : List Item) → item.part ≡ part → Keeps t.streams (item ∷ items) w r
    → Keeps (part_settled part item (stream_of item.stream t.streams) items t).streams items w r
part_keeps Close item items t w r is h = close_keeps (stream_of item.stream t.streams).close item items t w r refl h
part_keeps More item items t w r is h =
    low_keeps (reaches (stream_of item.stream t.streams).threshold (bytes_for item.stream item + buffered item.stream items) (buffered item.stream items))
    item.stream t items w r (items_behind t.streams item items w r (λ s g c. no_more (sym is ∙ c.part_is)) h)
part_keeps Last item items t w r is h =
    low_keeps (reaches (stream_of item.stream t.streams).threshold (bytes_for item.stream item + buffered item.stream items) (buffered item.stream items))
    item.stream t items w r (items_behind t.streams item items w r (λ s g c. no_last (sym is ∙ c.part_is)) h)

item_keeps : (item : Item) (items : List Item) (t : Told) (w r : List Item) → Keeps t.streams (item ∷ items) w r
    → Keeps (item_settled item items t).streams items w r
unfolding item_settled
item_keeps item items t w r h = part_keeps item.part item items t w r refl h

pub settled_keeps : (count : ℕ) (items : List Item) (t : Told) (w r : List Item) → Keeps t.streams items w r
    → Keeps (settled count items t).streams (drop count items) w r
settled_keeps zero items t w r h = h
settled_keeps (suc count) [] t w r h = h
settled_keeps (suc count) (item ∷ items) t w r h = settled_keeps count items (item_settled item items t) w r (item_keeps item items t w r h)
