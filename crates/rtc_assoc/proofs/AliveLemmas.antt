-- The generations of streams whose messages an end still takes.
use Rattle.std.proofs.Common.{ℕ, zero, suc, ◌≡◌, ◌+◌, ◌==◌, ◌&&◌, ◌||◌, ◌⊎◌, not, nat_lt, inl, inr, Bool, true, false, cond, List, [], ◌∷◌, ◌++◌, refl, sym, ap, ◌∙◌, arith}
use Rattle.std.proofs.lemmas.Bool.Decides.{eqb_tells, nat_tests}
use Rattle.rtc_parts.specs.declared.assoc_event.AssocEvent.TheVariants.{ResetComplete, BufferedAmountLow}
use Rattle.rtc_assoc_state.specs.declared.item.Item.{Item}
use Rattle.rtc_assoc_state.specs.declared.item_part.ItemPart.{ItemPart}
use Rattle.rtc_assoc_state.specs.declared.item_part.ItemPart.TheVariants.{More, Last, Close}
use Rattle.rtc_assoc_state.specs.declared.close_state.CloseState.{CloseState}
use Rattle.rtc_assoc_state.specs.declared.close_state.CloseState.TheVariants.{Unclosed, Queued, Acknowledged}
use Rattle.rtc_assoc_state.specs.declared.stream_row.StreamRow.{StreamRow}
use Rattle.rtc_assoc_state.specs.Streams.{stream_of, put, reset_row, is_unclosed, is_closed_here, takes_messages}
use Rattle.rtc_assoc_state.specs.Outbox.{bytes_for, buffered}
use Rattle.rtc_assoc_state.specs.Settling.{Told, told_of, reaches, can_reset, close_settled, part_settled, item_settled, settled}
use Rattle.rtc_assoc_state.proofs.RaiseLemmas.{stream_of-stream, stream_of-put, stream_of-put_other}

-- whether messages of a generation of a stream are taken
abbrev pub alive : List StreamRow → ℕ → ℕ → Bool
alive streams s g = takes_messages (stream_of s streams) g

-- a row has the stream, the generation and the close of that which stands for its stream
pub record RowOf (id : ℕ) (row : StreamRow) (streams : List StreamRow) : Type 0 where
  pub stream_is : row.stream ≡ id
  pub generation_is : row.generation ≡ (stream_of id streams).generation
  pub close_is : row.close ≡ (stream_of id streams).close

pub takes-row : (id : ℕ) (row : StreamRow) (streams : List StreamRow) (g : ℕ) → RowOf id row streams → takes_messages row g ≡ alive streams id g
takes-row id row streams g r =
    ap (λ n. nat_lt n g || ((n == g) && not (is_closed_here row))) r.generation_is
    ∙ ap (λ (c : CloseState). nat_lt (stream_of id streams).generation g || (((stream_of id streams).generation == g) && not (not (is_unclosed c)))) r.close_is

-- a row that takes what that of its stream takes
pub alive-put_as : (id : ℕ) (row : StreamRow) (streams : List StreamRow) → row.stream ≡ id → ((g : ℕ) → takes_messages row g ≡ alive streams id g) → (s g : ℕ) → alive (put row streams) s g ≡ alive streams s g
alive-put_as id row streams e f s g =
    elim (eqb_tells row.stream s) [
      | inl h ↦ ap (λ (r : StreamRow). takes_messages r g) (ap (λ k. stream_of k (put row streams)) (sym h.1) ∙ stream_of-put row streams) ∙ f g ∙ ap (λ k. alive streams k g) (sym e ∙ h.1)
      | inr h ↦ ap (λ (r : StreamRow). takes_messages r g) (stream_of-put_other s row streams h.0)
    ]

pub alive-put_row : (id : ℕ) (row : StreamRow) (streams : List StreamRow) → RowOf id row streams → (s g : ℕ) → alive (put row streams) s g ≡ alive streams s g
alive-put_row id row streams r = alive-put_as id row streams r.stream_is (λ g. takes-row id row streams g r)

-- what a closed row takes, by its generation
takes_later : (n g : ℕ) (o : Bool) → (nat_lt n g || ((n == g) && false)) ≡ true → (nat_lt n g || ((n == g) && o)) ≡ true
takes_later n g true e = grind (arith, nat_tests)
takes_later n g false e = e

takes_not : (n g : ℕ) (o : Bool) → (nat_lt n g || ((n == g) && false)) ≡ false → ((nat_lt n g || ((n == g) && o)) ≡ false) ⊎ (n ≡ g)
takes_not n g false e = inl e
takes_not n g true e = elim (eqb_tells n g) [ inl h ↦ inr h.1 | inr h ↦ inl (rw h.0 (rw h.0 at e)) ]

takes_own : (n : ℕ) → (nat_lt n n || ((n == n) && false)) ≡ false
takes_own n = grind (arith, nat_tests)

takes_reset : (n g : ℕ) → (nat_lt (n + 1) g || ((n + 1 == g) && true)) ≡ (nat_lt n g || ((n == g) && false))
takes_reset n g = grind (arith, nat_tests)

closed_takes : (row : StreamRow) (g : ℕ) → is_closed_here row ≡ true → takes_messages row g ≡ (nat_lt row.generation g || ((row.generation == g) && false))
closed_takes row g e = ap (λ b. nat_lt row.generation g || ((row.generation == g) && not b)) e

pub closed_not_own : (row : StreamRow) → is_closed_here row ≡ true → takes_messages row row.generation ≡ false
closed_not_own row e = closed_takes row row.generation e ∙ takes_own row.generation

pub reset-takes : (row : StreamRow) (g : ℕ) → is_closed_here row ≡ true → takes_messages (reset_row row) g ≡ takes_messages row g
reset-takes row g e = takes_reset row.generation g ∙ sym (closed_takes row g e)

-- a row that is closed now
pub record Shut (id : ℕ) (row : StreamRow) (streams : List StreamRow) : Type 0 where
  pub stream_is : row.stream ≡ id
  pub generation_is : row.generation ≡ (stream_of id streams).generation
  pub closed : is_closed_here row ≡ true

row_then : (id : ℕ) (row : StreamRow) (streams : List StreamRow) (s g : ℕ) → row.stream ≡ s → alive (put row streams) s g ≡ takes_messages row g
row_then id row streams s g e = ap (λ (r : StreamRow). takes_messages r g) (ap (λ k. stream_of k (put row streams)) (sym e) ∙ stream_of-put row streams)

other_then : (row : StreamRow) (streams : List StreamRow) (s g : ℕ) → (row.stream == s) ≡ false → alive (put row streams) s g ≡ alive streams s g
other_then row streams s g e = ap (λ (r : StreamRow). takes_messages r g) (stream_of-put_other s row streams e)

pub shut-fewer : (id : ℕ) (row : StreamRow) (streams : List StreamRow) → Shut id row streams → (s g : ℕ) → alive (put row streams) s g ≡ true → alive streams s g ≡ true
shut-fewer id row streams w s g e =
    elim (eqb_tells row.stream s) [
      | inl h ↦
          let n = (stream_of s streams).generation in
          let same : row.generation ≡ n = w.generation_is ∙ ap (λ k. (stream_of k streams).generation) (sym w.stream_is ∙ h.1) in
          let later : (nat_lt n g || ((n == g) && false)) ≡ true = ap (λ k. nat_lt k g || ((k == g) && false)) (sym same) ∙ sym (closed_takes row g w.closed) ∙ sym (row_then id row streams s g h.1) ∙ e in
          takes_later n g (not (is_closed_here (stream_of s streams))) later
      | inr h ↦ sym (other_then row streams s g h.0) ∙ e
    ]

pub shut-dies : (id : ℕ) (row : StreamRow) (streams : List StreamRow) → Shut id row streams → (s g : ℕ) → alive (put row streams) s g ≡ false → (alive streams s g ≡ false) ⊎ ((s ≡ id) × (g ≡ row.generation))
shut-dies id row streams w s g e =
    elim (eqb_tells row.stream s) [
      | inl h ↦
          let n = (stream_of s streams).generation in
          let same : row.generation ≡ n = w.generation_is ∙ ap (λ k. (stream_of k streams).generation) (sym w.stream_is ∙ h.1) in
          let not_later : (nat_lt n g || ((n == g) && false)) ≡ false = ap (λ k. nat_lt k g || ((k == g) && false)) (sym same) ∙ sym (closed_takes row g w.closed) ∙ sym (row_then id row streams s g h.1) ∙ e in
          elim (takes_not n g (not (is_closed_here (stream_of s streams))) not_later) [
            | inl k ↦ inl k
            | inr k ↦ inr (sym h.1 ∙ w.stream_is, sym k ∙ sym same)
          ]
      | inr h ↦ inl (sym (other_then row streams s g h.0) ∙ e)
    ]

pub shut-own : (id : ℕ) (row : StreamRow) (streams : List StreamRow) → Shut id row streams → alive (put row streams) id row.generation ≡ false
shut-own id row streams w = row_then id row streams id row.generation w.stream_is ∙ closed_not_own row w.closed

-- settling closes nothing and opens nothing
queued_closed : (row : StreamRow) → row.close ≡ Queued → is_closed_here row ≡ true
queued_closed row e = ap (λ (c : CloseState). not (is_unclosed c)) e

acknowledged_takes : (row : StreamRow) (g : ℕ) → row.close ≡ Queued → takes_messages (record row { close = Acknowledged }) g ≡ takes_messages row g
acknowledged_takes row g e = sym (closed_takes row g (queued_closed row e))

alive-queued : (b : Bool) (id : ℕ) (t : Told) → (stream_of id t.streams).close ≡ Queued → (s g : ℕ) → let row = stream_of id t.streams in alive (cond b (told_of (put (reset_row row) t.streams) (t.events ++ ResetComplete row.stream ∷ [])) (told_of (put (record row { close = Acknowledged }) t.streams) t.events)).streams s g ≡ alive t.streams s g
alive-queued true id t e s g = alive-put_as id (reset_row (stream_of id t.streams)) t.streams (stream_of-stream id t.streams) (λ h. reset-takes (stream_of id t.streams) h (queued_closed (stream_of id t.streams) e)) s g
alive-queued false id t e s g = alive-put_as id (record (stream_of id t.streams) { close = Acknowledged }) t.streams (stream_of-stream id t.streams) (λ h. acknowledged_takes (stream_of id t.streams) h e) s g

alive-close : (close : CloseState) (id : ℕ) (t : Told) → (stream_of id t.streams).close ≡ close → (s g : ℕ) → alive (close_settled close (stream_of id t.streams) t).streams s g ≡ alive t.streams s g
alive-close Unclosed id t e s g = refl
alive-close Queued id t e s g = alive-queued ((stream_of id t.streams).finished && can_reset (stream_of id t.streams)) id t e s g
alive-close Acknowledged id t e s g = refl

alive-low : (b : Bool) (id : ℕ) (t : Told) (s g : ℕ) → alive (cond b (told_of t.streams (t.events ++ BufferedAmountLow id ∷ [])) t).streams s g ≡ alive t.streams s g
alive-low true id t s g = refl
alive-low false id t s g = refl

alive-part : (part : ItemPart) (item : Item) (behind : List Item) (t : Told) (s g : ℕ) → alive (part_settled part item (stream_of item.stream t.streams) behind t).streams s g ≡ alive t.streams s g
alive-part Close item behind t s g = alive-close (stream_of item.stream t.streams).close item.stream t refl s g
alive-part More item behind t s g = alive-low (reaches (stream_of item.stream t.streams).threshold (bytes_for item.stream item + buffered item.stream behind) (buffered item.stream behind)) item.stream t s g
alive-part Last item behind t s g = alive-low (reaches (stream_of item.stream t.streams).threshold (bytes_for item.stream item + buffered item.stream behind) (buffered item.stream behind)) item.stream t s g

alive-item : (item : Item) (behind : List Item) (t : Told) (s g : ℕ) → alive (item_settled item behind t).streams s g ≡ alive t.streams s g
unfolding item_settled
alive-item item behind t s g = alive-part item.part item behind t s g

pub alive-settled : (count : ℕ) (items : List Item) (t : Told) (s g : ℕ) → alive (settled count items t).streams s g ≡ alive t.streams s g
alive-settled zero items t s g = refl
alive-settled (suc count) [] t s g = refl
alive-settled (suc count) (item ∷ items) t s g = alive-settled count items (item_settled item items t) s g ∙ alive-item item items t s g
