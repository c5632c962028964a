-- Rows of streams, by the first of a stream.
use Rattle.std.proofs.Common.{ℕ, ◌≡◌, ◌==◌, inl, inr, true, false, List, [], ◌∷◌, ◌++◌, set, get_or, refl, sym, ap, ◌∙◌, Some, None}
use Rattle.std.specs.List.{position, list_any}
use Rattle.std.proofs.lemmas.Bool.Decides.{eqb_tells}
use Rattle.rtc_assoc_state.specs.declared.stream_row.StreamRow.{StreamRow}
use Rattle.rtc_assoc_state.specs.Streams.{stream_of, fresh_stream, put}
use Rattle.rtc_assoc_state.proofs.Firsts.{at_position, none_position, set-middle}

stream_of-middle : (id : ℕ) (before after : List StreamRow) (row : StreamRow) → list_any (λ r. r.stream == id) before ≡ false → (row.stream == id) ≡ true → stream_of id (before ++ row ∷ after) ≡ row
stream_of-middle id [] after row f e = rw e refl
stream_of-middle id (b ∷ before) after row f e =
    elim (eqb_tells b.stream id) [
      | inl h ↦ absurd (let k : true ≡ false = rw h.0 at f in cc)
      | inr h ↦ rw h.0 (stream_of-middle id before after row (rw h.0 at f) e)
    ]

pub put-middle : (new : StreamRow) (before after : List StreamRow) (row : StreamRow) → list_any (λ r. r.stream == new.stream) before ≡ false → (row.stream == new.stream) ≡ true → put new (before ++ row ∷ after) ≡ before ++ new ∷ after
put-middle new [] after row f e = rw e refl
put-middle new (b ∷ before) after row f e =
    elim (eqb_tells b.stream new.stream) [
      | inl h ↦ absurd (let k : true ≡ false = rw h.0 at f in cc)
      | inr h ↦ rw h.0 (ap (λ l. b ∷ l) (put-middle new before after row (rw h.0 at f) e))
    ]

-- at a place that was found
pub stream_of-found : (id : ℕ) (rows : List StreamRow) (i : ℕ) (row d : StreamRow) → position (λ r. r.stream == id) rows ≡ Some i → row ≡ get_or rows i d → row ≡ stream_of id rows
stream_of-found id rows i row d e g =
    let a = at_position (λ (r : StreamRow). r.stream == id) rows i row d e g in
    sym (ap (stream_of id) a.is ∙ stream_of-middle id a.before a.after row a.fails a.passes)

pub put-found : (new : StreamRow) (rows : List StreamRow) (i : ℕ) (row d : StreamRow) → position (λ r. r.stream == new.stream) rows ≡ Some i → row ≡ get_or rows i d → set rows i new ≡ put new rows
put-found new rows i row d e g =
    let a = at_position (λ (r : StreamRow). r.stream == new.stream) rows i row d e g in
    ap (λ l. set l i new) a.is ∙ ap (λ n. set (a.before ++ row ∷ a.after) n new) (sym a.place) ∙ set-middle a.before a.after row new
    ∙ sym (ap (put new) a.is ∙ put-middle new a.before a.after row a.fails a.passes)

-- where there is none
none-stream_of : (id : ℕ) (rows : List StreamRow) → list_any (λ r. r.stream == id) rows ≡ false → stream_of id rows ≡ fresh_stream id
none-stream_of id [] f = refl
none-stream_of id (row ∷ rows) f =
    elim (eqb_tells row.stream id) [
      | inl h ↦ absurd (let k : true ≡ false = rw h.0 at f in cc)
      | inr h ↦ rw h.0 (none-stream_of id rows (rw h.0 at f))
    ]

none-put : (new : StreamRow) (rows : List StreamRow) → list_any (λ r. r.stream == new.stream) rows ≡ false → put new rows ≡ rows ++ new ∷ []
none-put new [] f = refl
none-put new (row ∷ rows) f =
    elim (eqb_tells row.stream new.stream) [
      | inl h ↦ absurd (let k : true ≡ false = rw h.0 at f in cc)
      | inr h ↦ rw h.0 (ap (λ l. row ∷ l) (none-put new rows (rw h.0 at f)))
    ]

pub stream_of-none : (id : ℕ) (rows : List StreamRow) → position (λ r. r.stream == id) rows ≡ None → stream_of id rows ≡ fresh_stream id
stream_of-none id rows e = none-stream_of id rows (none_position (λ (r : StreamRow). r.stream == id) rows e)

pub put-none : (new : StreamRow) (rows : List StreamRow) → position (λ r. r.stream == new.stream) rows ≡ None → rows ++ new ∷ [] ≡ put new rows
put-none new rows e = sym (none-put new rows (none_position (λ (r : StreamRow). r.stream == new.stream) rows e))
