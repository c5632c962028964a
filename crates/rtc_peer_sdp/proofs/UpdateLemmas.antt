-- The updates of rows, one row at a time.
use Rattle.std.proofs.Common.{◌≡◌, ◌∙◌, ℕ, zero, suc, Bool, true, false, List, [], ◌∷◌, ◌++◌, drop, length, slice_index_or, ◌<◌, ◌≤◌, arith, Option, Some, None, refl, sym, ap, subst, append_assoc, append-nil}
use Rattle.std.specs.Prelude.{slice_get}
use Rattle.std.specs.List.{flat_map}
use Rattle.rtc_sdp_values.specs.LineRow.{row_mid}
use Rattle.rtc_sdp_values.specs.declared.line_row.LineRow.{LineRow}
use Rattle.rtc_sdp_values.specs.declared.media_line.MediaLine.{MediaLine}
use Rattle.rtc_parts.specs.declared.media_update.MediaUpdate.{MediaUpdate}
use Rattle.rtc_parts.specs.Draws.{Draws, Later}
use Rattle.rtc_parts.proofs.LaterLemmas.{later_none, later_join}
use Rattle.rtc_peer_core.specs.declared.formats.Formats.{Formats}
use Rattle.rtc_peer_core.specs.declared.sending.Sending.{Sending}
use Rattle.rtc_peer_core.specs.Sources.{pair_numbers, pair_count, after_pairs}
use Rattle.rtc_peer_core.specs.LineUpdates.{layered, first_row, rows_behind, if_media, row_update, row_kind, row_pairs, wants_sources, after_row, row_updates, after_updates}
use Rattle.rtc_peer_sdp.proofs.Pairs.{after_pairs_later}

-- what is at a place is the first of those from there on
from_here : {A : Type 0} (k : ℕ) (xs : List A) (x : A) → Some x ≡ slice_get xs k → drop k xs ≡ x ∷ drop (suc k) xs
from_here k [] x is = absurd (cc)
from_here zero (y ∷ ys) x is = let same : y ≡ x = cc in rw same refl
from_here (suc k) (y ∷ ys) x is = from_here k ys x is

pub from_place : {A : Type 0} (k place : ℕ) (xs : List A) (x : A) → place ≡ k → Some x ≡ slice_get xs place → drop k xs ≡ x ∷ drop (suc k) xs
from_place {A} k place xs x at is = from_here k xs x (subst (λ (n : ℕ). Some x ≡ slice_get xs n) at is)

pub from_index : {A : Type 0} (k : ℕ) (xs : List A) (x other : A) → k < length xs → x ≡ slice_index_or xs k other → drop k xs ≡ x ∷ drop (suc k) xs
from_index k [] x other within is = absurd (omega arith)
from_index zero (y ∷ ys) x other within is = rw is refl
from_index (suc k) (y ∷ ys) x other within is = from_index k ys x other (omega arith) is

-- where there is nothing at a place, nothing stands from there on
none_here : {A : Type 0} (k : ℕ) (xs : List A) → None ≡ slice_get xs k → drop k xs ≡ []
none_here zero [] is = refl
none_here (suc k) [] is = refl
none_here zero (x ∷ xs) is = absurd (cc)
none_here (suc k) (x ∷ xs) is = none_here k xs is

pub none_from : {A : Type 0} (k place : ℕ) (xs : List A) → place ≡ k → None ≡ slice_get xs place → drop k xs ≡ []
none_from {A} k place xs at is = none_here k xs (subst (λ (n : ℕ). None ≡ slice_get xs n) at is)

-- nor behind the last
pub none_behind : {A : Type 0} (k : ℕ) (xs : List A) → length xs ≤ k → drop k xs ≡ []
none_behind zero [] behind = refl
none_behind (suc k) [] behind = refl
none_behind zero (x ∷ xs) behind = absurd (omega (arith, behind))
none_behind (suc k) (x ∷ xs) behind = none_behind k xs (omega (arith, behind))

-- the row at a place is the first of those from there on
pub first_from : (k : ℕ) (rows : List LineRow) → first_row (drop k rows) ≡ slice_get rows k
first_from zero [] = refl
first_from zero (row ∷ rows) = refl
first_from (suc k) [] = refl
first_from (suc k) (row ∷ rows) = first_from k rows

pub behind_from : (k : ℕ) (rows : List LineRow) → rows_behind (drop k rows) ≡ drop (suc k) rows
behind_from zero [] = refl
behind_from zero (row ∷ rows) = refl
behind_from (suc k) [] = refl
behind_from (suc k) (row ∷ rows) = behind_from k rows

-- one row more
pub one_update : {N : Type 0} (draws : Draws N) (used : ℕ → Bool) (sends : List ℕ → Sending) (formats : Formats) (offer : Bool) (k next place : ℕ) (before rows : List LineRow) (lines : List MediaLine)
    (earlier later : List ℕ) (ids after : N) (done more all : List MediaUpdate) (at : Option LineRow) (row : LineRow) (line : MediaLine) (sending : Sending)
    → next ≡ suc k → drop k rows ≡ row ∷ drop (suc k) rows → drop k lines ≡ line ∷ drop (suc k) lines → place ≡ k → at ≡ slice_get before place → sending ≡ layered line (sends (row_mid row))
    → more ≡ done ++ if_media row (row_update formats offer at row line sending (row_pairs draws used sending earlier row ids))
    → later ≡ earlier ++ flat_map pair_numbers (row_pairs draws used sending earlier row ids) → after ≡ after_row draws used sending row ids
    → done ++ row_updates draws used sends formats offer (drop k before) (drop k rows) (drop k lines) earlier ids ≡ all
    → more ++ row_updates draws used sends formats offer (drop next before) (drop next rows) (drop next lines) later after ≡ all
one_update draws used sends formats offer k next place before rows lines earlier later ids after done more all at row line sending next_is rows_are lines_are place_is at_is sent more_is later_is after_is h =
    let first : first_row (drop k before) ≡ at = first_from k before ∙ sym (at_is ∙ ap (slice_get before) place_is) in
    let Goes : Sending → Type 0 =
    λ (s : Sending). done ++ (if_media row (row_update formats offer at row line s (row_pairs draws used s earlier row ids))
    ++ row_updates draws used sends formats offer (drop (suc k) before) (drop (suc k) rows) (drop (suc k) lines)
    (earlier ++ flat_map pair_numbers (row_pairs draws used s earlier row ids)) (after_row draws used s row ids)) ≡ all in
    let inv : Goes (layered line (sends (row_mid row))) = rw (rows_are, lines_are, first, behind_from k before) at h in
    rw (next_is, more_is, later_is, after_is, append_assoc) (subst Goes (sym sent) inv)

pub one_update_after : {N : Type 0} (draws : Draws N) (used : ℕ → Bool) (sends : List ℕ → Sending) (k next : ℕ) (rows : List LineRow) (lines : List MediaLine)
    (ids after last : N) (row : LineRow) (line : MediaLine) (sending : Sending)
    → next ≡ suc k → drop k rows ≡ row ∷ drop (suc k) rows → drop k lines ≡ line ∷ drop (suc k) lines → sending ≡ layered line (sends (row_mid row)) → after ≡ after_row draws used sending row ids
    → after_updates draws used sends (drop k rows) (drop k lines) ids ≡ last
    → after_updates draws used sends (drop next rows) (drop next lines) after ≡ last
one_update_after draws used sends k next rows lines ids after last row line sending next_is rows_are lines_are sent after_is h =
    rw (next_is, after_is, sent) (subst (λ (ls : List MediaLine). after_updates draws used sends (row ∷ drop (suc k) rows) ls ids ≡ last) lines_are
    (subst (λ (rs : List LineRow). after_updates draws used sends rs (drop k lines) ids ≡ last) rows_are h))

-- there are no m-lines any more
pub no_updates : {N : Type 0} (draws : Draws N) (used : ℕ → Bool) (sends : List ℕ → Sending) (formats : Formats) (offer : Bool) (before rows : List LineRow) (lines : List MediaLine)
    (earlier : List ℕ) (ids : N) (done all : List MediaUpdate) → lines ≡ [] → done ++ row_updates draws used sends formats offer before rows lines earlier ids ≡ all → done ≡ all
no_updates draws used sends formats offer before [] lines earlier ids done all none h = sym (append-nil done) ∙ h
no_updates draws used sends formats offer before (row ∷ rows) lines earlier ids done all none h =
    sym (append-nil done) ∙ subst (λ (ls : List MediaLine). done ++ row_updates draws used sends formats offer before (row ∷ rows) ls earlier ids ≡ all) none h

pub after_no_updates : {N : Type 0} (draws : Draws N) (used : ℕ → Bool) (sends : List ℕ → Sending) (rows : List LineRow) (lines : List MediaLine) (ids last : N)
    → lines ≡ [] → after_updates draws used sends rows lines ids ≡ last → ids ≡ last
after_no_updates draws used sends [] lines ids last none h = h
after_no_updates draws used sends (row ∷ rows) lines ids last none h =
    subst (λ (ls : List MediaLine). after_updates draws used sends (row ∷ rows) ls ids ≡ last) none h

-- there are no rows any more
pub no_rows : {N : Type 0} (draws : Draws N) (used : ℕ → Bool) (sends : List ℕ → Sending) (formats : Formats) (offer : Bool) (before rows : List LineRow) (lines : List MediaLine)
    (earlier : List ℕ) (ids : N) (done all : List MediaUpdate) → rows ≡ [] → done ++ row_updates draws used sends formats offer before rows lines earlier ids ≡ all → done ≡ all
no_rows draws used sends formats offer before rows lines earlier ids done all none h =
    sym (append-nil done) ∙ subst (λ (rs : List LineRow). done ++ row_updates draws used sends formats offer before rs lines earlier ids ≡ all) none h

pub after_no_rows : {N : Type 0} (draws : Draws N) (used : ℕ → Bool) (sends : List ℕ → Sending) (rows : List LineRow) (lines : List MediaLine) (ids last : N)
    → rows ≡ [] → after_updates draws used sends rows lines ids ≡ last → ids ≡ last
after_no_rows draws used sends rows lines ids last none h = subst (λ (rs : List LineRow). after_updates draws used sends rs lines ids ≡ last) none h

-- ---- how many numbers are drawn at most

after_row_later : {N : Type 0} (draws : Draws N) (used : ℕ → Bool) (sending : Sending) (row : LineRow) (ids : N) → Later draws ids (after_row draws used sending row ids)
after_row_later {N} draws used sending row ids = by (wants_sources row sending)
  where
    by : (wants : Bool) → Later draws ids (elim wants [
      | true ↦ after_pairs draws used (row_kind row) (pair_count sending.simulcast) ids
      | false ↦ ids
    ])
    by true = after_pairs_later draws used (row_kind row) (pair_count sending.simulcast) ids
    by false = later_none draws ids

after_updates_later : {N : Type 0} (draws : Draws N) (used : ℕ → Bool) (sends : List ℕ → Sending) (rows : List LineRow) (lines : List MediaLine) (ids : N)
    → Later draws ids (after_updates draws used sends rows lines ids)
after_updates_later draws used sends [] lines ids = later_none draws ids
after_updates_later draws used sends (row ∷ rows) [] ids = later_none draws ids
after_updates_later draws used sends (row ∷ rows) (line ∷ lines) ids =
    later_join draws ids (after_row draws used (layered line (sends (row_mid row))) row ids) _ (after_row_later draws used (layered line (sends (row_mid row))) row ids)
    (after_updates_later draws used sends rows lines (after_row draws used (layered line (sends (row_mid row))) row ids))

-- where memory lacks between rows, no more numbers were drawn than for all of them
pub most_updates : {N : Type 0} (draws : Draws N) (used : ℕ → Bool) (sends : List ℕ → Sending) (rows : List LineRow) (lines : List MediaLine) (ids last : N)
    → after_updates draws used sends rows lines ids ≡ last → Later draws ids last
most_updates {N} draws used sends rows lines ids last h = subst (λ (x : N). Later draws ids x) h (after_updates_later draws used sends rows lines ids)

-- and where it lacks at a row
pub most_with_row : {N : Type 0} (draws : Draws N) (used : ℕ → Bool) (sends : List ℕ → Sending) (k : ℕ) (rows : List LineRow) (lines : List MediaLine)
    (ids stopped last : N) (row : LineRow) (line : MediaLine) (sending : Sending)
    → drop k rows ≡ row ∷ drop (suc k) rows → drop k lines ≡ line ∷ drop (suc k) lines → sending ≡ layered line (sends (row_mid row))
    → Later draws stopped (after_row draws used sending row ids) → after_updates draws used sends (drop k rows) (drop k lines) ids ≡ last → Later draws stopped last
most_with_row {N} draws used sends k rows lines ids stopped last row line sending rows_are lines_are sent most h =
    let all : after_updates draws used sends (row ∷ drop (suc k) rows) (line ∷ drop (suc k) lines) ids ≡ last =
    subst (λ (ls : List MediaLine). after_updates draws used sends (row ∷ drop (suc k) rows) ls ids ≡ last) lines_are
    (subst (λ (rs : List LineRow). after_updates draws used sends rs (drop k lines) ids ≡ last) rows_are h) in
    later_join draws stopped (after_row draws used (layered line (sends (row_mid row))) row ids) last
    (subst (λ (s : Sending). Later draws stopped (after_row draws used s row ids)) sent most)
    (most_updates draws used sends (drop (suc k) rows) (drop (suc k) lines) (after_row draws used (layered line (sends (row_mid row))) row ids) last all)
