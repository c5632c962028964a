-- The first row that fits, by its place.
use Rattle.std.proofs.Common.{◌≡◌, ◌<◌, ◌≤◌, ◌++◌, ℕ, zero, suc, Bool, false, Option, Some, None, List, [], ◌∷◌, length, slice_set, slice_index_or, position, is_some, refl, ap, ◌∙◌, arith}
use Rattle.std.proofs.lemmas.Grind.{common_steps}
use Rattle.std.specs.List.{list_any, position_or_len}
use Rattle.rtc_sdp_values.specs.declared.ssrc.Ssrc.{Ssrc}
use Rattle.rtc_plain_media.specs.declared.plain_mark.PlainMark.{PlainMark}
use Rattle.rtc_plain_media.specs.declared.stream_row.StreamRow.{StreamRow}
use Rattle.rtc_plain_media.specs.Streams.{Streams, has_ssrc, put_row, change_first, first_passes, held_mark, new_mark, numbered, renumbered, has_name}

-- a row is there exactly where one fits
pub any-position : (fits : StreamRow → Bool) (rows : Streams) → is_some (position fits rows) ≡ list_any fits rows
any-position fits [] = refl
any-position fits (x ∷ xs) = grind (arith, common_steps, any-position fits xs)

changed_here : (fits : StreamRow → Bool) (change : StreamRow → StreamRow) (rows : Streams) (d : StreamRow) → position_or_len fits rows < length rows
    → slice_set rows (position_or_len fits rows) (change (slice_index_or rows (position_or_len fits rows) d)) ≡ change_first fits change rows
changed_here fits change [] d h = grind (arith, common_steps)
changed_here fits change (x ∷ xs) d h = grind (arith, common_steps, changed_here fits change xs d)

-- it is changed at its place
pub change_first-at : (fits : StreamRow → Bool) (change : StreamRow → StreamRow) (rows : Streams) (i : ℕ) (e : StreamRow) → Some i ≡ position fits rows → e ≡ slice_index_or rows i e
    → slice_set rows i (change e) ≡ change_first fits change rows
change_first-at fits change rows i e h is = grind (arith, common_steps, changed_here fits change rows e)

passes_here : (fits test : StreamRow → Bool) (rows : Streams) (d : StreamRow) → position_or_len fits rows < length rows
    → test (slice_index_or rows (position_or_len fits rows) d) ≡ first_passes fits test rows
passes_here fits test [] d h = grind (arith, common_steps)
passes_here fits test (x ∷ xs) d h = grind (arith, common_steps, passes_here fits test xs d)

pub first_passes-at : (fits test : StreamRow → Bool) (rows : Streams) (i : ℕ) (e : StreamRow) → Some i ≡ position fits rows → e ≡ slice_index_or rows i e
    → test e ≡ first_passes fits test rows
first_passes-at fits test rows i e h is = grind (arith, common_steps, passes_here fits test rows e)

pub first_passes-none : (fits test : StreamRow → Bool) (rows : Streams) → list_any fits rows ≡ false → false ≡ first_passes fits test rows
first_passes-none fits test [] h = refl
first_passes-none fits test (x ∷ xs) h = grind (arith, common_steps, first_passes-none fits test xs)

held_here : (fits : StreamRow → Bool) (rows : Streams) (d : StreamRow) → position_or_len fits rows < length rows
    → Some (slice_index_or rows (position_or_len fits rows) d).mark ≡ held_mark fits rows
held_here fits [] d h = grind (arith, common_steps)
held_here fits (x ∷ xs) d h = grind (arith, common_steps, held_here fits xs d)

-- its mark is the one at its place
pub held_mark-at : (fits : StreamRow → Bool) (rows : Streams) (i : ℕ) (e : StreamRow) → Some i ≡ position fits rows → e ≡ slice_index_or rows i e
    → Some e.mark ≡ held_mark fits rows
held_mark-at fits rows i e h is = grind (arith, common_steps, held_here fits rows e)

put_here : (r : StreamRow) (rows : Streams) → position_or_len (has_ssrc r.ssrc) rows < length rows → slice_set rows (position_or_len (has_ssrc r.ssrc) rows) r ≡ put_row r rows
put_here r [] h = grind (arith, common_steps)
put_here r (x ∷ xs) h = grind (arith, common_steps, put_here r xs)

put_last : (r : StreamRow) (rows : Streams) → length rows ≤ position_or_len (has_ssrc r.ssrc) rows → rows ++ r ∷ [] ≡ put_row r rows
put_last r [] h = refl
put_last r (x ∷ xs) h = grind (arith, common_steps, put_last r xs)

place-most : (fits : StreamRow → Bool) (rows : Streams) → position_or_len fits rows ≤ length rows
place-most fits [] = omega arith
place-most fits (x ∷ xs) = grind (arith, common_steps, place-most fits xs)

-- a row takes the place of the first of its ssrc, or is pushed
pub put_row-found : (r : StreamRow) (rows : Streams) (i : ℕ) → Some i ≡ position (has_ssrc r.ssrc) rows → slice_set rows i r ≡ put_row r rows
put_row-found r rows i h = grind (arith, common_steps, put_here r rows)

pub put_row-none : (r : StreamRow) (rows : Streams) → None ≡ position (has_ssrc r.ssrc) rows → rows ++ r ∷ [] ≡ put_row r rows
put_row-none r rows h = grind (arith, common_steps, put_last r rows)

pub place-none : (r : StreamRow) (rows : Streams) → None ≡ position (has_ssrc r.ssrc) rows → length rows ≡ position_or_len (has_ssrc r.ssrc) rows
place-none r rows h = grind (arith, common_steps, place-most (has_ssrc r.ssrc) rows)

-- a second row of the ssrc takes the place of the first, and stands there
put_again : (r : StreamRow) (w : PlainMark) (rows : Streams) → slice_set (put_row r rows) (position_or_len (has_ssrc r.ssrc) rows) (record r { mark = w }) ≡ put_row (record r { mark = w }) rows
put_again r w [] = refl
put_again r w (x ∷ xs) = grind (arith, common_steps, put_again r w xs)

put_there : (r d : StreamRow) (rows : Streams) → slice_index_or (put_row r rows) (position_or_len (has_ssrc r.ssrc) rows) d ≡ r
put_there r d [] = refl
put_there r d (x ∷ xs) = grind (arith, common_steps, put_there r d xs)

-- a mark that is left in the row that was put
pub put_row-marked : (r e : StreamRow) (w : PlainMark) (rows made : Streams) (i : ℕ) → i ≡ position_or_len (has_ssrc r.ssrc) rows → made ≡ put_row r rows → e ≡ slice_index_or made i e
    → slice_set made i (record e { mark = w }) ≡ put_row (record r { mark = w }) rows
put_row-marked r e w rows made i is_i is_made is_e =
    let is_row : e ≡ r = is_e ∙ rw (is_made, is_i) (put_there r e rows) in
    rw (is_made, is_i, is_row) (put_again r w rows)

-- the mark of the row that was put
pub put_row-mark : (r e : StreamRow) (rows made : Streams) (i : ℕ) → i ≡ position_or_len (has_ssrc r.ssrc) rows → made ≡ put_row r rows → e ≡ slice_index_or made i e
    → e.mark ≡ r.mark
put_row-mark r e rows made i is_i is_made is_e =
    let is_row : e ≡ r = is_e ∙ rw (is_made, is_i) (put_there r e rows) in
    ap (λ (x : StreamRow). x.mark) is_row

set_twice : (rows : Streams) (i : ℕ) (a b : StreamRow) → slice_set (slice_set rows i a) i b ≡ slice_set rows i b
set_twice [] i a b = refl
set_twice (x ∷ xs) zero a b = refl
set_twice (x ∷ xs) (suc i) a b = ap (λ (l : Streams). x ∷ l) (set_twice xs i a b)

set_there : (rows : Streams) (i : ℕ) (a d : StreamRow) → i < length rows → slice_index_or (slice_set rows i a) i d ≡ a
set_there rows i a d h = grind (arith, common_steps)

place_within : (fits : StreamRow → Bool) (rows : Streams) (i : ℕ) → Some i ≡ position fits rows → i < length rows
place_within fits rows i h = grind (arith, common_steps)

-- a row that got other numbers, and then a mark
pub renumbered-at : (mid : List ℕ) (rid : Option (List ℕ)) (ssrc : Ssrc) (rtx : Option Ssrc) (w : PlainMark) (rows : Streams) (i : ℕ) (row made e : StreamRow) → Some i ≡ position (has_name mid rid) rows → row ≡ slice_index_or rows i row
    → made ≡ numbered ssrc rtx (record { count = 0 }) row → e ≡ slice_index_or (slice_set rows i made) i e → slice_set (slice_set rows i made) i (record e { mark = w }) ≡ renumbered mid rid ssrc rtx w rows
renumbered-at mid rid ssrc rtx w rows i row made e h is_row is_made is_e =
    let same : e ≡ made = is_e ∙ set_there rows i made e (place_within (has_name mid rid) rows i h) in
    set_twice rows i made (record e { mark = w }) ∙ rw (same, is_made) (change_first-at (has_name mid rid) (numbered ssrc rtx w) rows i row h is_row)

-- its mark is that of a new one
pub renumbered-mark : (fits : StreamRow → Bool) (ssrc : Ssrc) (rtx : Option Ssrc) (rows : Streams) (i : ℕ) (row made e : StreamRow) → Some i ≡ position fits rows → row ≡ slice_index_or rows i row
    → made ≡ numbered ssrc rtx (record { count = 0 }) row → e ≡ slice_index_or (slice_set rows i made) i e → e.mark ≡ new_mark
renumbered-mark fits ssrc rtx rows i row made e h is_row is_made is_e =
    let same : e ≡ numbered ssrc rtx (record { count = 0 }) row = is_e ∙ set_there rows i made e (place_within fits rows i h) ∙ is_made in
    ap (λ (x : StreamRow). x.mark) same
