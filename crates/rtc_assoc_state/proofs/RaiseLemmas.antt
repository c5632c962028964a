-- What every call does to generations, completed resets and thresholds.
use Rattle.std.proofs.Common.{ℕ, zero, suc, ◌≡◌, ◌+◌, ◌==◌, ◌&&◌, ◌||◌, not, inl, inr, Bool, true, false, cond, ◌⊎◌, List, [], ◌∷◌, ◌++◌, refl, sym, ap, ◌∙◌, arith, append-nil, append_assoc}
use Rattle.std.specs.Prelude.{is_some}
use Rattle.std.proofs.lemmas.Bool.Decides.{eqb_tells}
use Rattle.rtc_parts.specs.declared.assoc_event.AssocEvent.{AssocEvent}
use Rattle.rtc_parts.specs.declared.assoc_event.AssocEvent.TheVariants.{Finished, ResetComplete, BufferedAmountLow}
use Rattle.rtc_parts.specs.AssociationWords.{completions}
use Rattle.rtc_parts.specs.Among.{Member}
use Rattle.rtc_parts.specs.AssociationEvents.{InOrder}
use Rattle.rtc_parts.proofs.AmongLemmas.{member-left, member-right}
use Rattle.rtc_parts.proofs.AssociationLemmas.{completions-append, in_order-append}
use Rattle.rtc_assoc_state.specs.declared.item.Item.{Item}
use Rattle.rtc_assoc_state.specs.declared.item_part.ItemPart.{ItemPart}
use Rattle.rtc_assoc_state.specs.declared.item_part.ItemPart.TheVariants.{More, Last, Close}
use Rattle.rtc_assoc_state.specs.declared.close_state.CloseState.{CloseState}
use Rattle.rtc_assoc_state.specs.declared.close_state.CloseState.TheVariants.{Unclosed, Queued, Acknowledged}
use Rattle.rtc_assoc_state.specs.declared.stream_row.StreamRow.{StreamRow}
use Rattle.rtc_assoc_state.specs.Streams.{stream_of, put, reset_row, any_threshold}
use Rattle.rtc_assoc_state.specs.Outbox.{bytes_for, buffered}
use Rattle.rtc_assoc_state.specs.Settling.{Told, told_of, reaches, can_reset, close_settled, part_settled, item_settled, settled}

-- a row is that of its stream
pub stream_of-stream : (id : ℕ) (rows : List StreamRow) → (stream_of id rows).stream ≡ id
stream_of-stream id [] = refl
stream_of-stream id (row ∷ rows) =
    elim (eqb_tells row.stream id) [
      | inl h ↦ rw h.0 h.1
      | inr h ↦ rw h.0 (stream_of-stream id rows)
    ]

pub stream_of-put : (row : StreamRow) (rows : List StreamRow) → stream_of row.stream (put row rows) ≡ row
stream_of-put row [] = elim (eqb_tells row.stream row.stream) [ inl h ↦ rw h.0 refl | inr h ↦ absurd (h.1 refl) ]
stream_of-put row (x ∷ rows) =
    elim (eqb_tells x.stream row.stream) [
      | inl h ↦ elim (eqb_tells row.stream row.stream) [ inl k ↦ rw (h.0, k.0) refl | inr k ↦ absurd (k.1 refl) ]
      | inr h ↦ rw (h.0, h.0) (stream_of-put row rows)
    ]

pub stream_of-put_other : (id : ℕ) (row : StreamRow) (rows : List StreamRow) → (row.stream == id) ≡ false → stream_of id (put row rows) ≡ stream_of id rows
stream_of-put_other id row [] e = rw e refl
stream_of-put_other id row (x ∷ rows) e =
    elim (eqb_tells x.stream row.stream) [
      | inl h ↦ rw (h.0, e, ap (λ s. s == id) h.1, e) refl
      | inr h ↦ rw h.0 (ap (λ r. cond (x.stream == id) x r) (stream_of-put_other id row rows e))
    ]

or_parts : (a b : Bool) → (a || b) ≡ false → (a ≡ false) × (b ≡ false)
or_parts true b e = absurd cc
or_parts false b e = (refl, e)

abbrev has_threshold : StreamRow → Bool
has_threshold row = is_some row.threshold

pub threshold-stream_of : (id : ℕ) (rows : List StreamRow) → any_threshold rows ≡ false → is_some (stream_of id rows).threshold ≡ false
threshold-stream_of id [] e = refl
threshold-stream_of id (row ∷ rows) e =
    let h = or_parts (has_threshold row) (any_threshold rows) e in
    elim (eqb_tells row.stream id) [ inl k ↦ rw k.0 h.0 | inr k ↦ rw k.0 (threshold-stream_of id rows h.1) ]

pub any_threshold-put : (row : StreamRow) (rows : List StreamRow) → any_threshold rows ≡ false → is_some row.threshold ≡ false → any_threshold (put row rows) ≡ false
any_threshold-put row [] e t = rw t refl
any_threshold-put row (x ∷ rows) e t =
    let h = or_parts (has_threshold x) (any_threshold rows) e in
    elim (eqb_tells x.stream row.stream) [ inl k ↦ rw (k.0, t) h.1 | inr k ↦ rw (k.0, h.0) (any_threshold-put row rows h.1 t) ]

-- the row of a stream once a row is put
pub stream_of-put_by : (id : ℕ) (row : StreamRow) (rows : List StreamRow) → stream_of id (put row rows) ≡ cond (row.stream == id) row (stream_of id rows)
stream_of-put_by id row rows =
    elim (eqb_tells row.stream id) [
      | inl h ↦ rw h.0 (ap (λ k. stream_of k (put row rows)) (sym h.1) ∙ stream_of-put row rows)
      | inr h ↦ rw h.0 (stream_of-put_other id row rows h.0)
    ]

-- streams and events before and after: the events that were added, and what they say of the streams
pub record Raises (streams now : List StreamRow) (events told : List AssocEvent) : Type 0 where
  pub more : List AssocEvent
  pub told_is : told ≡ events ++ more
  pub rises : (id : ℕ) → (stream_of id now).generation ≡ (stream_of id streams).generation + completions id more
  pub in_order : (id : ℕ) → InOrder id (stream_of id streams).finished more (stream_of id now).finished
  pub thresholds : any_threshold streams ≡ false → any_threshold now ≡ false
  pub gone : (id : ℕ) → (stream_of id streams).there ≡ true → ((stream_of id now).there ≡ true) ⊎ Member (ResetComplete id) more

pub raises_none : (streams : List StreamRow) (events : List AssocEvent) → Raises streams streams events events
raises_none s e = record { more = []; told_is = sym (append-nil e); rises = λ id. omega arith; in_order = λ id. refl; thresholds = λ h. h; gone = λ id t. inl t }

unfoldable pub raises_join : (a b c : List StreamRow) (x y z : List AssocEvent) → Raises a b x y → Raises b c y z → Raises a c x z
raises_join a b c x y z h k = record {
  more = h.more ++ k.more;
  told_is = k.told_is ∙ ap (λ l. l ++ k.more) h.told_is ∙ append_assoc x h.more k.more;
  rises = λ id. omega (arith, h.rises id, k.rises id, completions-append id h.more k.more);
  in_order = λ id. in_order-append id (stream_of id a).finished (stream_of id b).finished (stream_of id c).finished h.more k.more (h.in_order id) (k.in_order id);
  thresholds = λ t. k.thresholds (h.thresholds t);
  gone = λ id t. elim (h.gone id t) [
    | inl x ↦ elim (k.gone id x) [ inl y ↦ inl y | inr y ↦ inr (member-right (ResetComplete id) h.more k.more y) ]
    | inr x ↦ inr (member-left (ResetComplete id) h.more k.more x)
  ];
}

-- events of no close and no reset
pub record SaysNothing (more : List AssocEvent) : Type 0 where
  pub completes : (id : ℕ) → completions id more ≡ 0
  pub in_order : (id : ℕ) (b : Bool) → InOrder id b more b

unfoldable pub raises_told : (streams : List StreamRow) (events more : List AssocEvent) → SaysNothing more → Raises streams streams events (events ++ more)
raises_told s e more h = record {
  more = more;
  told_is = refl;
  rises = λ id. omega (arith, h.completes id);
  in_order = λ id. h.in_order id (stream_of id s).finished;
  thresholds = λ t. t;
  gone = λ id t. inl t;
}

-- a row that keeps its generation
pub generation-put : (row : StreamRow) (streams : List StreamRow) → row.generation ≡ (stream_of row.stream streams).generation → (id : ℕ) → (stream_of id (put row streams)).generation ≡ (stream_of id streams).generation
generation-put row s g id =
    elim (eqb_tells row.stream id) [
      | inl h ↦ ap (λ (r : StreamRow). r.generation) (stream_of-put_by id row s) ∙ rw h.0 (g ∙ ap (λ k. (stream_of k s).generation) h.1)
      | inr h ↦ ap (λ (r : StreamRow). r.generation) (stream_of-put_other id row s h.0)
    ]

-- a row that is finished or not as it was
pub finished-put : (row : StreamRow) (streams : List StreamRow) → row.finished ≡ (stream_of row.stream streams).finished → (id : ℕ) → (stream_of id (put row streams)).finished ≡ (stream_of id streams).finished
finished-put row s f id =
    elim (eqb_tells row.stream id) [
      | inl h ↦ ap (λ (r : StreamRow). r.finished) (stream_of-put_by id row s) ∙ rw h.0 (f ∙ ap (λ k. (stream_of k s).finished) h.1)
      | inr h ↦ ap (λ (r : StreamRow). r.finished) (stream_of-put_other id row s h.0)
    ]

-- a row of a stream that is there where it was
pub there-put : (row : StreamRow) (streams : List StreamRow) → ((stream_of row.stream streams).there ≡ true → row.there ≡ true) → (id : ℕ) → (stream_of id streams).there ≡ true → (stream_of id (put row streams)).there ≡ true
there-put row s f id t =
    elim (eqb_tells row.stream id) [
      | inl h ↦ ap (λ (r : StreamRow). r.there) (stream_of-put_by id row s) ∙ rw h.0 (f (ap (λ k. (stream_of k s).there) h.1 ∙ t))
      | inr h ↦ ap (λ (r : StreamRow). r.there) (stream_of-put_other id row s h.0) ∙ t
    ]

-- a stream whose reset is complete is gone, and each other one stays
gone-reset : (row : StreamRow) (streams : List StreamRow) (id : ℕ) → (stream_of id streams).there ≡ true → ((stream_of id (put (reset_row row) streams)).there ≡ true) ⊎ (ResetComplete id ≡ ResetComplete row.stream)
gone-reset row s id t =
    elim (eqb_tells row.stream id) [
      | inl h ↦ inr (ap ResetComplete (sym h.1))
      | inr h ↦ inl (ap (λ (r : StreamRow). r.there) (stream_of-put_other id (reset_row row) s h.0) ∙ t)
    ]

pub raises_put : (row : StreamRow) (streams : List StreamRow) (events : List AssocEvent) → row.generation ≡ (stream_of row.stream streams).generation → row.finished ≡ (stream_of row.stream streams).finished → (any_threshold streams ≡ false → is_some row.threshold ≡ false) → ((stream_of row.stream streams).there ≡ true → row.there ≡ true) → Raises streams (put row streams) events events
raises_put row s e g f t there = record {
  more = [];
  told_is = sym (append-nil e);
  rises = λ id. omega (arith, generation-put row s g id);
  in_order = λ id. finished-put row s f id;
  thresholds = λ h. any_threshold-put row s h (t h);
  gone = λ id k. inl (there-put row s there id k);
}

told_once : (s id : ℕ) → completions id (ResetComplete s ∷ []) ≡ cond (s == id) 1 0
told_once s id = elim (eqb_tells s id) [ inl h ↦ rw h.0 refl | inr h ↦ rw h.0 refl ]

-- the generation of each stream once one is reset
generation-reset : (row : StreamRow) (streams : List StreamRow) → row.generation ≡ (stream_of row.stream streams).generation → (id : ℕ) → (stream_of id (put (reset_row row) streams)).generation ≡ (stream_of id streams).generation + completions id (ResetComplete row.stream ∷ [])
generation-reset row s g id =
    let there = ap (λ (r : StreamRow). r.generation) (stream_of-put_by id (reset_row row) s) in
    elim (eqb_tells row.stream id) [
      | inl h ↦ let here : row.generation ≡ (stream_of id s).generation = g ∙ ap (λ k. (stream_of k s).generation) h.1 in rw h.0 (rw h.0 at there ∙ omega (arith, here))
      | inr h ↦ rw h.0 (rw h.0 at there ∙ omega arith)
    ]

-- a completed reset of a stream that the other end closed before
pub raises_reset : (row : StreamRow) (streams : List StreamRow) (events : List AssocEvent) → row.generation ≡ (stream_of row.stream streams).generation → (stream_of row.stream streams).finished ≡ true → Raises streams (put (reset_row row) streams) events (events ++ ResetComplete row.stream ∷ [])
raises_reset row s e g f = record {
  more = ResetComplete row.stream ∷ [];
  told_is = refl;
  rises = generation-reset row s g;
  in_order = λ id. (λ k. ap (λ j. (stream_of j s).finished) (sym k) ∙ f, taken_up id);
  thresholds = λ h. any_threshold-put (reset_row row) s h refl;
  gone = λ id t. elim (gone-reset row s id t) [ inl k ↦ inl k | inr k ↦ inr (inl k) ];
}
  where
    taken_up : (id : ℕ) → (stream_of id (put (reset_row row) s)).finished ≡ (not (row.stream == id) && (stream_of id s).finished)
    taken_up id =
        let there = ap (λ (r : StreamRow). r.finished) (stream_of-put_by id (reset_row row) s) in
        elim (eqb_tells row.stream id) [ inl h ↦ rw h.0 (rw h.0 at there) | inr h ↦ rw h.0 (rw h.0 at there) ]

-- the close of the other end
pub raises_finished : (new : StreamRow) (streams : List StreamRow) (events : List AssocEvent) → new.generation ≡ (stream_of new.stream streams).generation → new.finished ≡ true → (any_threshold streams ≡ false → is_some new.threshold ≡ false) → new.there ≡ true → Raises streams (put new streams) events (events ++ Finished new.stream ∷ [])
raises_finished new s e g f t there = record {
  more = Finished new.stream ∷ [];
  told_is = refl;
  rises = λ id. omega (arith, generation-put new s g id);
  in_order = closes;
  thresholds = λ h. any_threshold-put new s h (t h);
  gone = λ id k. inl (there-put new s (λ o. there) id k);
}
  where
    closes : (id : ℕ) → (stream_of id (put new s)).finished ≡ ((new.stream == id) || (stream_of id s).finished)
    closes id =
        let there = ap (λ (r : StreamRow). r.finished) (stream_of-put_by id new s) in
        elim (eqb_tells new.stream id) [ inl h ↦ rw h.0 (rw h.0 at there ∙ f) | inr h ↦ rw h.0 (rw h.0 at there) ]

-- the close of the other end, which completes the reset
pub raises_finished_reset : (row : StreamRow) (streams : List StreamRow) (events : List AssocEvent) → row.generation ≡ (stream_of row.stream streams).generation → Raises streams (put (reset_row row) streams) events ((events ++ Finished row.stream ∷ []) ++ ResetComplete row.stream ∷ [])
raises_finished_reset row s e g = record {
  more = Finished row.stream ∷ ResetComplete row.stream ∷ [];
  told_is = append_assoc e (Finished row.stream ∷ []) (ResetComplete row.stream ∷ []);
  rises = generation-reset row s g;
  in_order = λ id. (was id, taken_up id);
  thresholds = λ h. any_threshold-put (reset_row row) s h refl;
  gone = λ id t. elim (gone-reset row s id t) [ inl k ↦ inl k | inr k ↦ inr (inr (inl k)) ];
}
  where
    was : (id : ℕ) → row.stream ≡ id → ((row.stream == id) || (stream_of id s).finished) ≡ true
    was id k = elim (eqb_tells row.stream id) [ inl h ↦ rw h.0 refl | inr h ↦ absurd (h.1 k) ]

    taken_up : (id : ℕ) → (stream_of id (put (reset_row row) s)).finished ≡ (not (row.stream == id) && ((row.stream == id) || (stream_of id s).finished))
    taken_up id =
        let there = ap (λ (r : StreamRow). r.finished) (stream_of-put_by id (reset_row row) s) in
        elim (eqb_tells row.stream id) [ inl h ↦ rw h.0 (rw h.0 at there) | inr h ↦ rw h.0 (rw h.0 at there) ]

pub own_generation : (id : ℕ) (streams : List StreamRow) → (stream_of id streams).generation ≡ (stream_of (stream_of id streams).stream streams).generation
own_generation id s = ap (λ k. (stream_of k s).generation) (sym (stream_of-stream id s))

pub own_close : (id : ℕ) (streams : List StreamRow) → (stream_of id streams).finished ≡ (stream_of (stream_of id streams).stream streams).finished
own_close id s = ap (λ k. (stream_of k s).finished) (sym (stream_of-stream id s))

pub own_there : (id : ℕ) (streams : List StreamRow) → (stream_of (stream_of id streams).stream streams).there ≡ true → (stream_of id streams).there ≡ true
own_there id s t = ap (λ k. (stream_of k s).there) (sym (stream_of-stream id s)) ∙ t

queued_settled : (done can : Bool) (id : ℕ) (t : Told) → done ≡ (stream_of id t.streams).finished → let row = stream_of id t.streams in let r = cond (done && can) (told_of (put (reset_row row) t.streams) (t.events ++ ResetComplete row.stream ∷ [])) (told_of (put (record row { close = Acknowledged }) t.streams) t.events) in Raises t.streams r.streams t.events r.events
queued_settled true true id t e = raises_reset (stream_of id t.streams) t.streams t.events (own_generation id t.streams) (sym (own_close id t.streams) ∙ sym e)
queued_settled true false id t e = raises_put (record (stream_of id t.streams) { close = Acknowledged }) t.streams t.events (own_generation id t.streams) (own_close id t.streams) (λ h. threshold-stream_of id t.streams h) (λ k. own_there id t.streams k)
queued_settled false can id t e = raises_put (record (stream_of id t.streams) { close = Acknowledged }) t.streams t.events (own_generation id t.streams) (own_close id t.streams) (λ h. threshold-stream_of id t.streams h) (λ k. own_there id t.streams k)

raises_close : (close : CloseState) (id : ℕ) (t : Told) → let r = close_settled close (stream_of id t.streams) t in Raises t.streams r.streams t.events r.events
raises_close Unclosed id t = raises_none t.streams t.events
raises_close Queued id t = queued_settled (stream_of id t.streams).finished (can_reset (stream_of id t.streams)) id t refl
raises_close Acknowledged id t = raises_none t.streams t.events

raises_low : (b : Bool) (s : ℕ) (t : Told) → let r = cond b (told_of t.streams (t.events ++ BufferedAmountLow s ∷ [])) t in Raises t.streams r.streams t.events r.events
raises_low true s t = raises_told t.streams t.events (BufferedAmountLow s ∷ []) (record { completes = λ id. refl; in_order = λ id b. refl })
raises_low false s t = raises_none t.streams t.events

raises_part : (part : ItemPart) (item : Item) (behind : List Item) (t : Told) → let r = part_settled part item (stream_of item.stream t.streams) behind t in Raises t.streams r.streams t.events r.events
raises_part Close item behind t = raises_close (stream_of item.stream t.streams).close item.stream t
raises_part More item behind t = raises_low (reaches (stream_of item.stream t.streams).threshold (bytes_for item.stream item + buffered item.stream behind) (buffered item.stream behind)) item.stream t
raises_part Last item behind t = raises_low (reaches (stream_of item.stream t.streams).threshold (bytes_for item.stream item + buffered item.stream behind) (buffered item.stream behind)) item.stream t

pub raises_item : (item : Item) (behind : List Item) (t : Told) → Raises t.streams (item_settled item behind t).streams t.events (item_settled item behind t).events
unfolding item_settled
raises_item item behind t = raises_part item.part item behind t

pub raises_settled : (count : ℕ) (items : List Item) (t : Told) → Raises t.streams (settled count items t).streams t.events (settled count items t).events
raises_settled zero items t = raises_none t.streams t.events
raises_settled (suc count) [] t = raises_none t.streams t.events
raises_settled (suc count) (item ∷ items) t =
    let mid = item_settled item items t in
    raises_join t.streams mid.streams (settled count items mid).streams t.events mid.events (settled count items mid).events (raises_item item items t) (raises_settled count items mid)
