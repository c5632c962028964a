-- How the rows of streams go on: in their generation a stream that is there stays there and one that is closed here stays closed, or
-- they come to a later one.
use Rattle.std.proofs.Common.{◌≡◌, ◌⊎◌, inl, inr, ℕ, zero, suc, ◌+◌, ◌<◌, ◌==◌, ◌&&◌, ◌||◌, cond, Bool, true, false, true≢false, List, [], ◌∷◌, ◌++◌, refl, sym, ap, subst, ◌∙◌, arith}
use Rattle.std.proofs.lemmas.Bool.{ne_eqb}
use Rattle.std.proofs.lemmas.Bool.Decides.{eqb_tells}
use Rattle.rtc_parts.specs.declared.assoc_event.AssocEvent.TheVariants.{ResetComplete, BufferedAmountLow}
use Rattle.rtc_assoc_state.specs.declared.item.Item.{Item}
use Rattle.rtc_assoc_state.specs.declared.item_part.ItemPart.{ItemPart}
use Rattle.rtc_assoc_state.specs.declared.item_part.ItemPart.TheVariants.{More, Last, Close}
use Rattle.rtc_assoc_state.specs.declared.close_state.CloseState.{CloseState}
use Rattle.rtc_assoc_state.specs.declared.close_state.CloseState.TheVariants.{Unclosed, Queued, Acknowledged}
use Rattle.rtc_assoc_state.specs.declared.stream_row.StreamRow.{StreamRow}
use Rattle.rtc_assoc_state.specs.Streams.{stream_of, put, reset_row, is_closed_here, is_at_last_generation, any_at_last_generation, LAST_GENERATION}
use Rattle.rtc_assoc_state.specs.Outbox.{bytes_for, buffered}
use Rattle.rtc_assoc_state.specs.Settling.{Told, told_of, reaches, can_reset, close_settled, part_settled, item_settled, settled}
use Rattle.rtc_assoc_state.proofs.RaiseLemmas.{stream_of-stream, stream_of-put, stream_of-put_other}
use Rattle.rtc_assoc_state.proofs.TableLemmas.{any_last-put}

-- within its generation
pub record RowStays (old new : StreamRow) : Type 0 where
  pub generation_is : new.generation ≡ old.generation
  pub there : old.there ≡ true → new.there ≡ true
  pub closed : is_closed_here old ≡ true → is_closed_here new ≡ true

pub record RowGoes (old new : StreamRow) : Type 0 where
  pub goes : RowStays old new ⊎ (old.generation < new.generation)
  pub last : is_at_last_generation old ≡ true → is_at_last_generation new ≡ true

pub row_stays : (old new : StreamRow) → RowStays old new → RowGoes old new
row_stays old new h = record { goes = inl h; last = λ k. ap (λ g. g == LAST_GENERATION) h.generation_is ∙ k }

pub row_resets : (old : StreamRow) → can_reset old ≡ true → RowGoes old (reset_row old)
row_resets old h = record {
  goes = inr (omega arith);
  last = λ k.
      let lt : old.generation < 4294967295 = grind (arith, h) in
      let other : (old.generation == 4294967295) ≡ false = ne_eqb old.generation 4294967295 (λ e. omega (arith, lt, e)) in
      absurd (true≢false (sym k ∙ other));
}

pub row_same : (old : StreamRow) → RowGoes old old
row_same old = row_stays old old (record { generation_is = refl; there = λ h. h; closed = λ h. h })

pub row_join : (a b c : StreamRow) → RowGoes a b → RowGoes b c → RowGoes a c
row_join a b c h k = record { goes = by h.goes k.goes; last = λ l. k.last (h.last l) }
  where
    by : RowStays a b ⊎ (a.generation < b.generation) → RowStays b c ⊎ (b.generation < c.generation) → RowStays a c ⊎ (a.generation < c.generation)
    by (inl x) (inl y) = inl (record { generation_is = y.generation_is ∙ x.generation_is; there = λ l. y.there (x.there l); closed = λ l. y.closed (x.closed l) })
    by (inl x) (inr y) = inr (let same : b.generation ≡ a.generation = x.generation_is in omega (arith, same, y))
    by (inr x) (inl y) = inr (let same : c.generation ≡ b.generation = y.generation_is in omega (arith, x, same))
    by (inr x) (inr y) = inr (omega (arith, x, y))

-- all rows
pub record RowsGo (xs ys : List StreamRow) : Type 0 where
  pub each : (s : ℕ) → RowGoes (stream_of s xs) (stream_of s ys)
  pub any : any_at_last_generation xs ≡ true → any_at_last_generation ys ≡ true

pub rows_same : (xs ys : List StreamRow) → ys ≡ xs → RowsGo xs ys
rows_same xs ys e = subst (λ (l : List StreamRow). RowsGo xs l) (sym e) (record { each = λ s. row_same (stream_of s xs); any = λ h. h })

pub rows_join : (xs ys zs : List StreamRow) → RowsGo xs ys → RowsGo ys zs → RowsGo xs zs
rows_join xs ys zs h k = record { each = λ s. row_join (stream_of s xs) (stream_of s ys) (stream_of s zs) (h.each s) (k.each s); any = λ l. k.any (h.any l) }

or_left : (a b : Bool) → a ≡ true → (a || b) ≡ true
or_left a b e = rw e refl

pub rows_put : (row : StreamRow) (xs : List StreamRow) → RowGoes (stream_of row.stream xs) row → RowsGo xs (put row xs)
rows_put row xs h = record { each = each; any = λ l. by (is_at_last_generation (stream_of row.stream xs)) refl l }
  where
    each : (s : ℕ) → RowGoes (stream_of s xs) (stream_of s (put row xs))
    each s =
        elim (eqb_tells row.stream s) [
          | inl e ↦ subst (λ (k : ℕ). RowGoes (stream_of k xs) (stream_of k (put row xs))) e.1 (subst (λ (r : StreamRow). RowGoes (stream_of row.stream xs) r) (sym (stream_of-put row xs)) h)
          | inr e ↦ subst (λ (r : StreamRow). RowGoes (stream_of s xs) r) (sym (stream_of-put_other s row xs e.0)) (row_same (stream_of s xs))
        ]

    by : (b : Bool) → is_at_last_generation (stream_of row.stream xs) ≡ b → any_at_last_generation xs ≡ true → any_at_last_generation (put row xs) ≡ true
    by true e l = any_last-put row xs (inl (h.last e)) ∙ or_left (any_at_last_generation xs) (is_at_last_generation row) l
    by false e l = any_last-put row xs (inr e) ∙ or_left (any_at_last_generation xs) (is_at_last_generation row) l

-- a row that is made of that of its stream
pub rows_put_of : (id : ℕ) (row : StreamRow) (xs : List StreamRow) → row.stream ≡ id → RowGoes (stream_of id xs) row → RowsGo xs (put row xs)
rows_put_of id row xs e h = rows_put row xs (subst (λ (k : ℕ). RowGoes (stream_of k xs) row) (sym e) h)

-- settling
rows_queued : (done can : Bool) (id : ℕ) (t : Told) → can ≡ can_reset (stream_of id t.streams) → (stream_of id t.streams).close ≡ Queued
    → let row = stream_of id t.streams in RowsGo t.streams (cond (done && can) (told_of (put (reset_row row) t.streams) (t.events ++ ResetComplete row.stream ∷ [])) (told_of (put (record row { close = Acknowledged }) t.streams) t.events)).streams
rows_queued true true id t e c = rows_put_of id (reset_row (stream_of id t.streams)) t.streams (stream_of-stream id t.streams) (row_resets (stream_of id t.streams) (sym e))
rows_queued true false id t e c = rows_put_of id (record (stream_of id t.streams) { close = Acknowledged }) t.streams (stream_of-stream id t.streams) (row_stays _ _ (record { generation_is = refl; there = λ h. h; closed = λ h. refl }))
rows_queued false can id t e c = rows_put_of id (record (stream_of id t.streams) { close = Acknowledged }) t.streams (stream_of-stream id t.streams) (row_stays _ _ (record { generation_is = refl; there = λ h. h; closed = λ h. refl }))

rows_close : (close : CloseState) (id : ℕ) (t : Told) → (stream_of id t.streams).close ≡ close → RowsGo t.streams (close_settled close (stream_of id t.streams) t).streams
rows_close Unclosed id t e = rows_same t.streams t.streams refl
rows_close Queued id t e = rows_queued (stream_of id t.streams).finished (can_reset (stream_of id t.streams)) id t refl e
rows_close Acknowledged id t e = rows_same t.streams t.streams refl

rows_low : (b : Bool) (s : ℕ) (t : Told) → RowsGo t.streams (cond b (told_of t.streams (t.events ++ BufferedAmountLow s ∷ [])) t).streams
rows_low true s t = rows_same t.streams t.streams refl
rows_low false s t = rows_same t.streams t.streams refl

rows_part : (part : ItemPart) (item : Item) (behind : List Item) (t : Told) → RowsGo t.streams (part_settled part item (stream_of item.stream t.streams) behind t).streams
rows_part Close item behind t = rows_close (stream_of item.stream t.streams).close item.stream t refl
rows_part More item behind t = rows_low (reaches (stream_of item.stream t.streams).threshold (bytes_for item.stream item + buffered item.stream behind) (buffered item.stream behind)) item.stream t
rows_part Last item behind t = rows_low (reaches (stream_of item.stream t.streams).threshold (bytes_for item.stream item + buffered item.stream behind) (buffered item.stream behind)) item.stream t

rows_item : (item : Item) (behind : List Item) (t : Told) → RowsGo t.streams (item_settled item behind t).streams
unfolding item_settled
rows_item item behind t = rows_part item.part item behind t

pub rows_settled : (count : ℕ) (items : List Item) (t : Told) → RowsGo t.streams (settled count items t).streams
rows_settled zero items t = rows_same t.streams t.streams refl
rows_settled (suc count) [] t = rows_same t.streams t.streams refl
rows_settled (suc count) (item ∷ items) t =
    let mid = item_settled item items t in
    rows_join t.streams mid.streams (settled count items mid).streams (rows_item item items t) (rows_settled count items mid)
