-- That a table of streams finds its rows.
use Rattle.std.proofs.Common.{ℕ, ◌≡◌, ◌==◌, ◌||◌, ◌<◌, ◌⊎◌, Bool, true, false, cond, inl, inr, Option, List, [], ◌∷◌, length, get_or, set, Some, None, refl, sym, ap, subst, ◌∙◌}
use Rattle.std.specs.List.{position}
use Rattle.std.proofs.Math.Bool.{or-true}
use Rattle.std.proofs.lemmas.Bool.Decides.{eqb_tells}
use Rattle.std.proofs.lemmas.List.Folds.{list_any_at}
use Rattle.rtc_assoc_state.specs.declared.stream_row.StreamRow.{StreamRow}
use Rattle.rtc_assoc_state.specs.Streams.{stream_of, put, is_at_last_generation, any_at_last_generation}
use Rattle.rtc_assoc_state.specs.declared.places.Places.{Places}
use Rattle.rtc_assoc_state.specs.Places.{place_at}
use Rattle.rtc_assoc_state.specs.StreamTable.{SoundTable}
use Rattle.rtc_assoc_state.proofs.Firsts.{found_position, none_position, at_get, at_within, position-push, position-replaced}
use Rattle.rtc_assoc_state.proofs.RowLemmas.{put-found, put-middle, put-none, stream_of-none}

-- the place of a stream's row
abbrev pub place_in : ℕ → List StreamRow → Option ℕ
place_in id rows = position (λ row. row.stream == id) rows

some_same : (a b : ℕ) → Some a ≡ Some b → a ≡ b
some_same a b e = cc

-- a stream has a place or none
by_place : (id : ℕ) (rows : List StreamRow) (P : Option ℕ → Type 0) → (place_in id rows ≡ None → P None) → ((i : ℕ) → place_in id rows ≡ Some i → P (Some i)) → P (place_in id rows)
by_place id rows P none some = by (place_in id rows) refl
  where
    by : (o : Option ℕ) → place_in id rows ≡ o → P o
    by None e = none e
    by (Some i) e = some i e

pub placed-none : (id : ℕ) (rows : List StreamRow) (places : Places) (at_last : Bool) → SoundTable rows places at_last → place_at places id ≡ None → None ≡ place_in id rows
placed-none id rows places at_last h e = by_place id rows (λ o. None ≡ o) (λ k. refl) (λ i k. absurd (let n : None ≡ Some i = sym e ∙ h.found id i k in cc))

-- the row at the place that is kept is that of the stream
pub placed-here : (id i : ℕ) (rows : List StreamRow) (places : Places) (at_last : Bool) (row d : StreamRow) → SoundTable rows places at_last → place_at places id ≡ Some i → i < length rows → row ≡ get_or rows i d → (row.stream == id) ≡ true → Some i ≡ place_in id rows
placed-here id i rows places at_last row d h e l g t =
    let P : StreamRow → Bool = λ r. r.stream == id in
    by_place id rows (λ o. Some i ≡ o)
    (λ k. absurd (let n : true ≡ false = sym (list_any_at P rows i d l (ap P (sym g) ∙ t)) ∙ none_position P rows k in cc))
    (λ j k. sym e ∙ h.found id j k)

-- it is not, and the stream has none
pub placed-other : (id i : ℕ) (rows : List StreamRow) (places : Places) (at_last : Bool) (row d : StreamRow) → SoundTable rows places at_last → place_at places id ≡ Some i → row ≡ get_or rows i d → (row.stream == id) ≡ false → None ≡ place_in id rows
placed-other id i rows places at_last row d h e g t =
    let P : StreamRow → Bool = λ r. r.stream == id in
    by_place id rows (λ o. None ≡ o) (λ k. refl) (λ j k.
    let same : j ≡ i = some_same j i (sym (h.found id j k) ∙ e) in
    let w = found_position P rows j k in
    let row_is : row ≡ w.0 = g ∙ ap (λ n. get_or rows n d) (sym same) ∙ at_get P rows j w.0 d w.1 in
    absurd (let n : false ≡ true = sym t ∙ ap P row_is ∙ w.1.passes in cc))

pub placed-beyond : (id i : ℕ) (rows : List StreamRow) (places : Places) (at_last : Bool) → SoundTable rows places at_last → place_at places id ≡ Some i → (i < length rows → ⊥) → None ≡ place_in id rows
placed-beyond id i rows places at_last h e l =
    let P : StreamRow → Bool = λ r. r.stream == id in
    by_place id rows (λ o. None ≡ o) (λ k. refl) (λ j k.
    let same : j ≡ i = some_same j i (sym (h.found id j k) ∙ e) in
    let w = found_position P rows j k in
    absurd (l (subst (λ (n : ℕ). n < length rows) same (at_within P rows j w.0 w.1))))

-- no rows
pub sound-none : (rows : List StreamRow) (places : Places) → rows ≡ [] → SoundTable rows places false
sound-none rows places none = rw none (record { found = λ id place k. absurd (let n : None ≡ Some place = k in cc); last_is = refl })

-- the same places
pub sound-same : (rows : List StreamRow) (old new : Places) (at_last : Bool) → SoundTable rows old at_last → ((q : ℕ) → place_at new q ≡ place_at old q) → SoundTable rows new at_last
sound-same rows old new at_last h same = record {
  found = λ id place k. same id ∙ h.found id place k;
  last_is = h.last_is;
}

-- the place of a stream is one of a row
pub row_within : (id i : ℕ) (rows : List StreamRow) → place_in id rows ≡ Some i → i < length rows
row_within id i rows e =
    let w = found_position (λ (r : StreamRow). r.stream == id) rows i e in
    at_within (λ (r : StreamRow). r.stream == id) rows i w.0 w.1

-- a row at the place of its stream
pub row_put : (row : StreamRow) (rows : List StreamRow) (i : ℕ) → place_in row.stream rows ≡ Some i → set rows i row ≡ put row rows
row_put row rows i e = put-found row rows i (get_or rows i row) row e refl

or_false : (a : Bool) → (a || false) ≡ a
or_false true = refl
or_false false = refl

or_swap : (a b c : Bool) → ((a || b) || c) ≡ ((a || c) || b)
or_swap true b c = refl
or_swap false true true = refl
or_swap false true false = refl
or_swap false false true = refl
or_swap false false false = refl

or_over : (a b c : Bool) → (a || (b || c)) ≡ ((a || b) || c)
or_over true b c = refl
or_over false b c = refl

last_own : (a b c : Bool) → (b ≡ true) ⊎ (a ≡ false) → (b || c) ≡ ((a || c) || b)
last_own a true true k = either a
  where
    either : (x : Bool) → true ≡ ((x || true) || true)
    either true = refl
    either false = refl
last_own true true false k = refl
last_own false true false k = refl
last_own true false c (inl k) = absurd cc
last_own true false c (inr k) = absurd cc
last_own false false c k = sym (or_false c)

-- whether a generation is the last, after a row was put that is at its last or in place of one that was not
pub any_last-put : (row : StreamRow) (rows : List StreamRow) → (is_at_last_generation row ≡ true) ⊎ (is_at_last_generation (stream_of row.stream rows) ≡ false) → any_at_last_generation (put row rows) ≡ (any_at_last_generation rows || is_at_last_generation row)
any_last-put row [] k = or_false (is_at_last_generation row)
any_last-put row (r ∷ rows) k =
    elim (eqb_tells r.stream row.stream) [
      | inl e ↦ rw e.0 (last_own (is_at_last_generation r) (is_at_last_generation row) (any_at_last_generation rows) (rw e.0 at k))
      | inr e ↦ rw e.0 (ap (λ b. is_at_last_generation r || b) (any_last-put row rows (rw e.0 at k)) ∙ or_over (is_at_last_generation r) (any_at_last_generation rows) (is_at_last_generation row))
    ]

-- a row in place of that of its stream
place-put : (row : StreamRow) (rows : List StreamRow) (i id : ℕ) → place_in row.stream rows ≡ Some i → place_in id (put row rows) ≡ place_in id rows
place-put row rows i id e =
    let P : StreamRow → Bool = λ r. r.stream == row.stream in
    let w = found_position P rows i e in
    let x = w.0 in
    let a = w.1 in
    let is : x.stream ≡ row.stream = elim (eqb_tells x.stream row.stream) [ inl m ↦ m.1 | inr m ↦ absurd (let n : true ≡ false = sym a.passes ∙ m.0 in cc) ] in
    ap (place_in id) (ap (put row) a.is ∙ put-middle row a.before a.after x a.fails a.passes)
    ∙ position-replaced (λ (r : StreamRow). r.stream == id) a.before a.after row x (ap (λ n. n == id) (sym is))
    ∙ ap (place_in id) (sym a.is)

pub sound-set : (row : StreamRow) (rows : List StreamRow) (places : Places) (i : ℕ) (before after : Bool) → SoundTable rows places before → place_in row.stream rows ≡ Some i → after ≡ any_at_last_generation (put row rows) → SoundTable (put row rows) places after
sound-set row rows places i before after h e l = record {
  found = λ q j k. h.found q j (sym (place-put row rows i q e) ∙ k);
  last_is = l;
}

pub sound-set_last : (row : StreamRow) (rows : List StreamRow) (places : Places) (i : ℕ) (before : Bool) → SoundTable rows places before → place_in row.stream rows ≡ Some i → is_at_last_generation row ≡ true → SoundTable (put row rows) places true
sound-set_last row rows places i before h e l =
    sound-set row rows places i before true h e (sym (any_last-put row rows (inl l) ∙ ap (λ b. any_at_last_generation rows || b) l ∙ or-true (any_at_last_generation rows)))

pub sound-set_same : (row : StreamRow) (rows : List StreamRow) (places : Places) (i : ℕ) (before : Bool) → SoundTable rows places before → place_in row.stream rows ≡ Some i → is_at_last_generation row ≡ false → is_at_last_generation (stream_of row.stream rows) ≡ false → SoundTable (put row rows) places before
sound-set_same row rows places i before h e l was =
    sound-set row rows places i before before h e (h.last_is ∙ sym (any_last-put row rows (inr was) ∙ ap (λ b. any_at_last_generation rows || b) l ∙ or_false (any_at_last_generation rows)))

-- a row of a stream that had none
pub sound-add : (row : StreamRow) (rows : List StreamRow) (old new : Places) (before after : Bool) → SoundTable rows old before → place_in row.stream rows ≡ None → ((q : ℕ) → place_at new q ≡ cond (row.stream == q) (Some (length rows)) (place_at old q)) → after ≡ (before || is_at_last_generation row) → SoundTable (put row rows) new after
sound-add row rows old new before after h e u l =
    let added = put-none row rows e in
    record {
      found = λ q i k. elim (position-push (λ (r : StreamRow). r.stream == q) rows row i (ap (place_in q) added ∙ k)) [
        | inl m ↦ elim (eqb_tells row.stream q) [
          | inl o ↦ absurd (let none : None ≡ Some i = sym e ∙ ap (λ n. place_in n rows) o.1 ∙ m in cc)
          | inr o ↦ u q ∙ ap (λ b. cond b (Some (length rows)) (place_at old q)) o.0 ∙ h.found q i m
        ]
        | inr m ↦ u q ∙ ap (λ b. cond b (Some (length rows)) (place_at old q)) m.0 ∙ ap (λ n. Some n) (sym m.1)
      ];
      last_is = l ∙ ap (λ b. b || is_at_last_generation row) h.last_is ∙ sym (any_last-put row rows (inr (ap is_at_last_generation (stream_of-none row.stream rows e))));
    }

pub sound-add_last : (row : StreamRow) (rows : List StreamRow) (old new : Places) (before : Bool) → SoundTable rows old before → place_in row.stream rows ≡ None → ((q : ℕ) → place_at new q ≡ cond (row.stream == q) (Some (length rows)) (place_at old q)) → is_at_last_generation row ≡ true → SoundTable (put row rows) new true
sound-add_last row rows old new before h e u l = sound-add row rows old new before true h e u (sym (ap (λ b. before || b) l ∙ or-true before))

pub sound-add_same : (row : StreamRow) (rows : List StreamRow) (old new : Places) (before : Bool) → SoundTable rows old before → place_in row.stream rows ≡ None → ((q : ℕ) → place_at new q ≡ cond (row.stream == q) (Some (length rows)) (place_at old q)) → is_at_last_generation row ≡ false → SoundTable (put row rows) new before
sound-add_same row rows old new before h e u l = sound-add row rows old new before before h e u (sym (ap (λ b. before || b) l ∙ or_false before))

-- ids that are one, and ids that are not
pub same_id : (a b : ℕ) → a ≡ b → (a == b) ≡ true
same_id a b e = elim (eqb_tells a b) [ inl h ↦ h.0 | inr h ↦ absurd (h.1 e) ]

pub other_id : (a b : ℕ) → (a ≡ b → ⊥) → (a == b) ≡ false
other_id a b e = elim (eqb_tells a b) [ inl h ↦ absurd (e h.1) | inr h ↦ h.0 ]
