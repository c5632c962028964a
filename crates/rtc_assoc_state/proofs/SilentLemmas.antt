-- No message stands unread of the generation of a stream that this end closed.
use Rattle.std.proofs.Common.{ℕ, zero, suc, ◌≡◌, ◌==◌, ◌&&◌, inl, inr, not, nat_lt, cond, Bool, true, false, true≢false, List, [], ◌∷◌, ◌++◌, filter, refl, sym, ap, ◌∙◌, ◌+◌, arith}
use Rattle.std.specs.List.{list_any}
use Rattle.std.proofs.lemmas.Bool.{eqb-true}
use Rattle.std.proofs.lemmas.Bool.Decides.{eqb_tells}
use Rattle.rtc_parts.specs.declared.assoc_event.AssocEvent.TheVariants.{ResetComplete, BufferedAmountLow}
use Rattle.rtc_assoc_state.specs.declared.item.Item.{Item}
use Rattle.rtc_assoc_state.specs.declared.item_part.ItemPart.{ItemPart}
use Rattle.rtc_assoc_state.specs.declared.item_part.ItemPart.TheVariants.{More, Last, Close}
use Rattle.rtc_assoc_state.specs.declared.close_state.CloseState.{CloseState}
use Rattle.rtc_assoc_state.specs.declared.close_state.CloseState.TheVariants.{Unclosed, Queued, Acknowledged}
use Rattle.rtc_assoc_state.specs.declared.message.Message.{Message}
use Rattle.rtc_assoc_state.specs.declared.stream_row.StreamRow.{StreamRow}
use Rattle.rtc_assoc_state.specs.Inbox.{is_message_of, without_messages, with_message}
use Rattle.rtc_assoc_state.specs.Outbox.{bytes_for, buffered}
use Rattle.rtc_assoc_state.specs.Settling.{Told, told_of, reaches, can_reset, close_settled, part_settled, item_settled, settled}
use Rattle.rtc_assoc_state.specs.Streams.{stream_of, put, reset_row, is_closed_here, is_unclosed, takes_messages}
use Rattle.rtc_assoc_state.proofs.RaiseLemmas.{stream_of-put_by, stream_of-put_other, stream_of-stream}
use Rattle.rtc_assoc_state.proofs.ReadableLemmas.{any-filter, any-with}

abbrev pub SilentRows : List StreamRow → List Message → Type 0
SilentRows rows messages =
    (id : ℕ) → is_closed_here (stream_of id rows) ≡ true → list_any (is_message_of id (stream_of id rows).generation) messages ≡ false

fewer_fails : (a b : Bool) → (b ≡ true → a ≡ true) → a ≡ false → b ≡ false
fewer_fails a true f e = absurd (true≢false (sym (f refl) ∙ e))
fewer_fails a false f e = refl

-- fewer messages
pub silent_fewer : (rows : List StreamRow) (old new : List Message) → ((p : Message → Bool) → list_any p new ≡ true → list_any p old ≡ true) → SilentRows rows old → SilentRows rows new
silent_fewer rows old new f h = λ id c. fewer_fails (list_any (is_message_of id (stream_of id rows).generation) old) (list_any (is_message_of id (stream_of id rows).generation) new) (f (is_message_of id (stream_of id rows).generation)) (h id c)

same_row : (row : StreamRow) (rows : List StreamRow) (id : ℕ) → (row.stream == id) ≡ true → stream_of id (put row rows) ≡ row
same_row row rows id e = stream_of-put_by id row rows ∙ rw e refl

-- a row of the same generation, which is closed only where it was
pub silent_put : (row : StreamRow) (rows : List StreamRow) (messages : List Message) → row.generation ≡ (stream_of row.stream rows).generation → (is_closed_here row ≡ true → is_closed_here (stream_of row.stream rows) ≡ true) → SilentRows rows messages → SilentRows (put row rows) messages
silent_put row rows messages g k h = λ id c. elim (eqb_tells row.stream id) [
  | inl e ↦
      let same = same_row row rows id e.0 in
      let before : is_closed_here (stream_of id rows) ≡ true = ap (λ n. is_closed_here (stream_of n rows)) (sym e.1) ∙ k (ap is_closed_here (sym same) ∙ c) in
      ap (λ n. list_any (is_message_of id n) messages) (ap (λ (r : StreamRow). r.generation) same ∙ g ∙ ap (λ n. (stream_of n rows).generation) e.1) ∙ h id before
  | inr e ↦
      let same = stream_of-put_other id row rows e.0 in
      ap (λ (r : StreamRow). list_any (is_message_of id r.generation) messages) same ∙ h id (ap is_closed_here (sym same) ∙ c)
]

-- a row that is not closed
pub silent_open : (row : StreamRow) (rows : List StreamRow) (messages : List Message) → is_closed_here row ≡ false → SilentRows rows messages → SilentRows (put row rows) messages
silent_open row rows messages k h = λ id c. elim (eqb_tells row.stream id) [
  | inl e ↦ absurd (true≢false (sym c ∙ ap is_closed_here (same_row row rows id e.0) ∙ k))
  | inr e ↦
      let same = stream_of-put_other id row rows e.0 in
      ap (λ (r : StreamRow). list_any (is_message_of id r.generation) messages) same ∙ h id (ap is_closed_here (sym same) ∙ c)
]

none_left : (p : Message → Bool) (xs : List Message) → list_any p (filter (λ m. not (p m)) xs) ≡ false
none_left p [] = refl
none_left p (x ∷ xs) = by (p x) refl (none_left p xs)
  where
    by : (b : Bool) → p x ≡ b → list_any p (filter (λ m. not (p m)) xs) ≡ false → list_any p (cond (not b) (x ∷ filter (λ m. not (p m)) xs) (filter (λ m. not (p m)) xs)) ≡ false
    by true e h = h
    by false e h = rw e h

-- a row whose generation has nothing unread any more
pub silent_forgotten : (row : StreamRow) (rows : List StreamRow) (messages : List Message) → SilentRows rows messages → SilentRows (put row rows) (without_messages row.stream row.generation messages)
silent_forgotten row rows messages h = λ id c. elim (eqb_tells row.stream id) [
  | inl e ↦
      let left = without_messages row.stream row.generation messages in
      ap (λ (r : StreamRow). list_any (is_message_of id r.generation) left) (same_row row rows id e.0)
      ∙ ap (λ n. list_any (is_message_of n row.generation) left) (sym e.1)
      ∙ none_left (is_message_of row.stream row.generation) messages
  | inr e ↦
      let same = stream_of-put_other id row rows e.0 in
      let kept = silent_fewer rows messages (without_messages row.stream row.generation messages) (λ p. any-filter p (λ m. not (is_message_of row.stream row.generation m)) messages) h in
      ap (λ (r : StreamRow). list_any (is_message_of id r.generation) (without_messages row.stream row.generation messages)) same ∙ kept id (ap is_closed_here (sym same) ∙ c)
]

refused : (row : StreamRow) (g : ℕ) → g ≡ row.generation → is_closed_here row ≡ true → takes_messages row g ≡ true → ⊥
refused row g e k takes =
    let below : nat_lt row.generation g ≡ false = grind (arith, e) in
    true≢false (sym takes ∙ rw (below, k) (ends (row.generation == g)))
  where
    ends : (b : Bool) → (b && false) ≡ false
    ends true = refl
    ends false = refl

both_true : (a b : Bool) → (a && b) ≡ true → (a ≡ true) × (b ≡ true)
both_true true true k = (refl, refl)
both_true true false k = absurd (true≢false (sym k))
both_true false b k = absurd (true≢false (sym k))

-- one more message, of a generation that its stream takes
pub silent_taken : (rows : List StreamRow) (messages : List Message) (new : Message) → takes_messages (stream_of new.stream rows) new.generation ≡ true → SilentRows rows messages → SilentRows rows (with_message new messages)
silent_taken rows messages new t h = λ id c. by id c (list_any (is_message_of id (stream_of id rows).generation) (with_message new messages)) refl
  where
    own : (id : ℕ) → is_closed_here (stream_of id rows) ≡ true → is_message_of id (stream_of id rows).generation new ≡ true → ⊥
    own id c e =
        let two = both_true (new.stream == id) (new.generation == (stream_of id rows).generation) e in
        let at : new.stream ≡ id = eqb-true new.stream id two.0 in
        refused (stream_of id rows) new.generation (eqb-true new.generation (stream_of id rows).generation two.1) c (ap (λ n. takes_messages (stream_of n rows) new.generation) (sym at) ∙ t)

    by : (id : ℕ) → is_closed_here (stream_of id rows) ≡ true → (b : Bool) → list_any (is_message_of id (stream_of id rows).generation) (with_message new messages) ≡ b → b ≡ false
    by id c true e = absurd (elim (any-with (is_message_of id (stream_of id rows).generation) messages new e) [
      | inl k ↦ true≢false (sym k ∙ h id c)
      | inr k ↦ own id c k
    ])
    by id c false e = refl

-- the close of this end is acknowledged
silent_acknowledged : (id : ℕ) (rows : List StreamRow) (messages : List Message) → is_closed_here (stream_of id rows) ≡ true → SilentRows rows messages → SilentRows (put (record (stream_of id rows) { close = Acknowledged }) rows) messages
silent_acknowledged id rows messages k h =
    silent_put (record (stream_of id rows) { close = Acknowledged }) rows messages (ap (λ n. (stream_of n rows).generation) (sym (stream_of-stream id rows))) (λ c. ap (λ n. is_closed_here (stream_of n rows)) (stream_of-stream id rows) ∙ k) h

silent_queued : (b : Bool) (id : ℕ) (t : Told) (messages : List Message) → is_closed_here (stream_of id t.streams) ≡ true → SilentRows t.streams messages
    → let row = stream_of id t.streams in SilentRows (cond b (told_of (put (reset_row row) t.streams) (t.events ++ ResetComplete row.stream ∷ [])) (told_of (put (record row { close = Acknowledged }) t.streams) t.events)).streams messages
silent_queued true id t messages k h = silent_open (reset_row (stream_of id t.streams)) t.streams messages refl h
silent_queued false id t messages k h = silent_acknowledged id t.streams messages k h

silent_close : (close : CloseState) (id : ℕ) (t : Told) (messages : List Message) → (stream_of id t.streams).close ≡ close → SilentRows t.streams messages → SilentRows (close_settled close (stream_of id t.streams) t).streams messages
silent_close Unclosed id t messages e h = h
silent_close Queued id t messages e h = silent_queued ((stream_of id t.streams).finished && can_reset (stream_of id t.streams)) id t messages (ap (λ c. not (is_unclosed c)) e) h
silent_close Acknowledged id t messages e h = h

silent_low : (b : Bool) (s : ℕ) (t : Told) (messages : List Message) → SilentRows t.streams messages → SilentRows (cond b (told_of t.streams (t.events ++ BufferedAmountLow s ∷ [])) t).streams messages
silent_low true s t messages h = h
silent_low false s t messages h = h

silent_part : (part : ItemPart) (item : Item) (behind : List Item) (t : Told) (messages : List Message) → SilentRows t.streams messages → SilentRows (part_settled part item (stream_of item.stream t.streams) behind t).streams messages
silent_part Close item behind t messages h = silent_close (stream_of item.stream t.streams).close item.stream t messages refl h
silent_part More item behind t messages h = silent_low (reaches (stream_of item.stream t.streams).threshold (bytes_for item.stream item + buffered item.stream behind) (buffered item.stream behind)) item.stream t messages h
silent_part Last item behind t messages h = silent_low (reaches (stream_of item.stream t.streams).threshold (bytes_for item.stream item + buffered item.stream behind) (buffered item.stream behind)) item.stream t messages h

silent_item : (item : Item) (behind : List Item) (t : Told) (messages : List Message) → SilentRows t.streams messages → SilentRows (item_settled item behind t).streams messages
unfolding item_settled
silent_item item behind t messages h = silent_part item.part item behind t messages h

-- settled items
pub silent_settled : (count : ℕ) (items : List Item) (t : Told) (messages : List Message) → SilentRows t.streams messages → SilentRows (settled count items t).streams messages
silent_settled zero items t messages h = h
silent_settled (suc count) [] t messages h = h
silent_settled (suc count) (item ∷ items) t messages h = silent_settled count items (item_settled item items t) messages (silent_item item items t messages h)
