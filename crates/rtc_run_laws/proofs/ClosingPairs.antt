-- Two ends of the plain association between which nothing is under way have each stream in one generation, and closed at neither.
use Rattle.std.proofs.Common.{◌≡◌, ◌∙◌, ◌⊎◌, inl, inr, ◌<◌, ◌≤◌, ◌==◌, ◌||◌, nat_lt, ℕ, zero, suc, not, Bool, true, false, true≢false, List, [], ◌∷◌, take, length, refl, sym, ap, subst, arith}
use Rattle.std.proofs.lemmas.Bool.Decides.{leb_tells, nat_tests}
use Rattle.rtc_parts.specs.AssociationActs.{AssociationAct}
use Rattle.rtc_assoc_state.specs.declared.item.Item.{Item}
use Rattle.rtc_assoc_state.specs.declared.close_state.CloseState.{CloseState}
use Rattle.rtc_assoc_state.specs.declared.close_state.CloseState.TheVariants.{Unclosed, Queued, Acknowledged}
use Rattle.rtc_assoc_state.specs.declared.stream_row.StreamRow.{StreamRow}
use Rattle.rtc_assoc_state.specs.Contents.{Contents, closed_here, generation_of, is_ending}
use Rattle.rtc_assoc_state.specs.Settling.{can_reset}
use Rattle.rtc_assoc_state.specs.Streams.{LAST_GENERATION, any_at_last_generation, is_at_last_generation, is_closed_here, is_unclosed, stream_of}
use Rattle.rtc_assoc.proofs.DirectedLemmas.{Directed}
use Rattle.rtc_run_laws.proofs.ClosingRows.{Keeps, RowKeeps}
use Rattle.rtc_run_laws.proofs.ClosingLevels.{Level}
use Rattle.rtc_run_laws.proofs.ClosingMoves.{no_length}

-- ---- nothing is under way

-- a row by which neither end closed its generation
record LevelRows (x y : StreamRow) : Type 0 where
  generation_is : y.generation ≡ x.generation
  here : is_closed_here x ≡ false
  there : is_closed_here y ≡ false

not_less : (n : ℕ) → n < n → ⊥
not_less n h = omega (arith, h)

-- with nothing unacknowledged, the other end's close of the own generation has not come
not_finished : (s : ℕ) (x : StreamRow) (w r : List Item) → RowKeeps s x [] w r → (can_reset x ≡ false → ⊥) → x.finished ≡ true → ⊥
not_finished s x w r h lasts f = by x.close refl
  where
    closed : is_closed_here x ≡ true
    closed = h.follows f

    no_closed : (c : CloseState) → x.close ≡ c → is_unclosed c ≡ true → ⊥
    no_closed c e o = absurd (true≢false (sym closed ∙ ap (λ (d : CloseState). not (is_unclosed d)) e ∙ ap not o))

    by : (c : CloseState) → x.close ≡ c → ⊥
    by Unclosed e = no_closed Unclosed e refl
    by Queued e = h.queued e
    by Acknowledged e = lasts (h.rests e f)

not_behind : (s : ℕ) (x y : StreamRow) (w r : List Item) → RowKeeps s x [] w r → RowKeeps s y [] r w → (can_reset x ≡ false → ⊥)
    → x.generation < y.generation → ⊥
not_behind s x y w r h k lasts less = by (h.known x.generation (k.below x.generation less))
  where
    by : (x.generation < x.generation) ⊎ ((x.generation ≡ x.generation) × (x.finished ≡ true)) → ⊥
    by (inl m) = not_less x.generation m
    by (inr m) = not_finished s x w r h lasts m.1

not_closed_there : (s : ℕ) (x y : StreamRow) (w r : List Item) → RowKeeps s x [] w r → RowKeeps s y [] r w → (can_reset y ≡ false → ⊥)
    → y.generation ≡ x.generation → is_closed_here x ≡ true → ⊥
not_closed_there s x y w r h k lasts same closed = by (k.known x.generation (h.own closed))
  where
    by : (x.generation < y.generation) ⊎ ((x.generation ≡ y.generation) × (y.finished ≡ true)) → ⊥
    by (inl m) = not_less x.generation (subst (λ (n : ℕ). x.generation < n) same m)
    by (inr m) = not_finished s y r w k lasts m.1

false_by : (b : Bool) → (b ≡ true → ⊥) → b ≡ false
false_by true h = absurd (h refl)
false_by false h = refl

by_order : (n k : ℕ) → (n < k → ⊥) → (k < n → ⊥) → k ≡ n
by_order n k f g = elim (leb_tells n k) [
  | inl e ↦ elim (leb_tells k n) [ inl d ↦ (let x = e.1 in let y = d.1 in omega (arith, x, y)) | inr d ↦ absurd (f d.1) ]
  | inr e ↦ absurd (g e.1)
]

level_rows : (s : ℕ) (x y : StreamRow) (w r : List Item) → RowKeeps s x [] w r → RowKeeps s y [] r w → (can_reset x ≡ false → ⊥)
    → (can_reset y ≡ false → ⊥) → LevelRows x y
level_rows s x y w r h k here there =
    let same : y.generation ≡ x.generation =
    by_order x.generation y.generation (not_behind s x y w r h k here) (not_behind s y x r w k h there) in
    record {
      generation_is = same;
      here = false_by (is_closed_here x) (not_closed_there s x y w r h k there same);
      there = false_by (is_closed_here y) (not_closed_there s y x r w k h here (sym same));
    }

-- at the last generation the association is closing
at_last : (n l : ℕ) → nat_lt n l ≡ false → n ≤ l → (n == l) ≡ true
at_last n l h k = grind (arith, nat_tests, h, k)

or_left : (a b : Bool) → a ≡ true → (a || b) ≡ true
or_left a b e = rw e refl

or_right : (a b : Bool) → b ≡ true → (a || b) ≡ true
or_right true b e = refl
or_right false b e = e

any_stream : (s : ℕ) (streams : List StreamRow) → is_at_last_generation (stream_of s streams) ≡ true → any_at_last_generation streams ≡ true
any_stream s [] h = absurd (true≢false (sym h))
any_stream s (row ∷ rows) h = by (row.stream == s) refl (any_stream s rows)
  where
    by : (b : Bool) → (row.stream == s) ≡ b
        → (is_at_last_generation (stream_of s rows) ≡ true → any_at_last_generation rows ≡ true) → (is_at_last_generation row || any_at_last_generation rows) ≡ true
    by true e rest = or_left (is_at_last_generation row) (any_at_last_generation rows) (rw e at h)
    by false e rest = or_right (is_at_last_generation row) (any_at_last_generation rows) (rest (rw e at h))

can_not : (p : Contents) (s : ℕ) (items w r : List Item) → RowKeeps s (stream_of s p.streams) items w r → is_ending p ≡ false
    → can_reset (stream_of s p.streams) ≡ false → ⊥
can_not p s items w r h lasting e =
    true≢false
    (sym (or_left _ p.standing.lost (or_right _ (any_at_last_generation p.streams)
    (any_stream s p.streams (at_last (stream_of s p.streams).generation LAST_GENERATION e h.bounded)))) ∙ lasting)

take-whole : (n : ℕ) (xs : List Item) → n ≡ length xs → take n xs ≡ xs
take-whole zero [] e = refl
take-whole (suc n) [] e = refl
take-whole zero (x ∷ xs) e = absurd (no_length x xs (sym e))
take-whole (suc n) (x ∷ xs) e = ap (λ (l : List Item). x ∷ l) (take-whole n xs (omega (arith, e)))

came_whole : (w : List Item) (a b : Contents) (v u : List AssociationAct) → Directed w a b v u → a.outbox.items ≡ [] → take b.inbox.received w ≡ w
came_whole w a b v u h none =
    let count = h.sender.count in
    let empty : length a.outbox.items ≡ 0 = ap length none in
    let behind = h.sender.behind in
    let within = h.receiver.within in
    take-whole b.inbox.received w (omega (arith, count, empty, behind, within))

-- two ends of which neither has an unacknowledged item or is closing or closed have a stream in one generation, and neither closed it
pub record LevelStream (a b : Contents) (s : ℕ) : Type 0 where
  pub generation_is : generation_of b s ≡ generation_of a s
  pub here : closed_here a s ≡ false
  pub there : closed_here b s ≡ false

pub level_rest : (a b : Contents) (v u : List AssociationAct) → Level a b v u → a.outbox.items ≡ [] → b.outbox.items ≡ [] → is_ending a ≡ false
    → is_ending b ≡ false → (s : ℕ) → LevelStream a b s
level_rest a b v u h none nothing lasting lasts s =
    let left : Keeps a.streams [] h.there h.back =
    subst (λ (l : List Item). Keeps a.streams l h.there h.back) none
    (subst (λ (l : List Item). Keeps a.streams a.outbox.items h.there l) (came_whole h.back b a u v h.back_is nothing) h.left) in
    let right : Keeps b.streams [] h.back h.there =
    subst (λ (l : List Item). Keeps b.streams l h.back h.there) nothing
    (subst (λ (l : List Item). Keeps b.streams b.outbox.items h.back l) (came_whole h.there a b v u h.forth_is none) h.right) in
    let rows : LevelRows (stream_of s a.streams) (stream_of s b.streams) =
    level_rows s (stream_of s a.streams) (stream_of s b.streams) h.there h.back (left s) (right s) (can_not a s [] h.there h.back (left s) lasting)
    (can_not b s [] h.back h.there (right s) lasts) in
    record { generation_is = rows.generation_is; here = rows.here; there = rows.there }
