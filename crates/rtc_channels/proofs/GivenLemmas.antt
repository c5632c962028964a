-- Channels by their rows, after a row was given a stream or went.
use Rattle.std.proofs.Common.{◌≡◌, ◌+◌, ◌<◌, ◌≤◌, ◌==◌, ℕ, suc, zero, Bool, true, false, List, [], ◌∷◌, length, refl, ap, sym, ◌∙◌, arith, Option, Some, None}
use Rattle.std.specs.Prelude.{slice_set, remove}
use Rattle.rtc_channels.specs.declared.kept.Kept.{Kept}
use Rattle.rtc_channels.specs.Channels.{Channel, AreRising, AreBelow}
use Rattle.rtc_channels.specs.Kept.{channels_of, ArePaired, place_of_channel}
use Rattle.rtc_channels.specs.Allocation.{rows_given}
use Rattle.rtc_channels.specs.Holds.{channels_without}
use Rattle.rtc_channels.proofs.KeptLemmas.{place_behind, some_same}

abbrev pub channel_of : ℕ × Option ℕ → Kept → Channel
channel_of row own = record { id = row.0; stream = row.1; negotiated = own.negotiated; config = own.config; confirmed = own.confirmed }

pub given_at : (place id s : ℕ) (rows : List (ℕ × Option ℕ)) (kept : List Kept) (i : ℕ) → length rows ≡ length kept → place_of_channel place id rows ≡ Some (place + i)
    → channels_of (slice_set rows i (id, Some s)) kept ≡ rows_given id s (channels_of rows kept)
given_at place id s [] kept i same found = absurd cc
given_at place id s (row ∷ rows) [] i same found = absurd (omega (arith, same))
given_at place id s (row ∷ rows) (own ∷ kept) i same found = by (λ j. given_at (place + 1) id s rows kept j (omega (arith, same))) (row.0 == id) refl i found
  where
    by : ((j : ℕ) → place_of_channel (place + 1) id rows ≡ Some (place + 1 + j) → channels_of (slice_set rows j (id, Some s)) kept ≡ rows_given id s (channels_of rows kept))
        → (here : Bool) → (row.0 == id) ≡ here → (i : ℕ) → place_of_channel place id (row ∷ rows) ≡ Some (place + i)
        → channels_of (slice_set (row ∷ rows) i (id, Some s)) (own ∷ kept) ≡ rows_given id s (channels_of (row ∷ rows) (own ∷ kept))
    by rest true is zero found = rw is (ap (λ (n : ℕ). channel_of (n, Some s) own ∷ channels_of rows kept) (grind (arith, is)))
    by rest true is (suc i) found = absurd (omega (arith, some_same place (place + suc i) (sym (rw is refl) ∙ found)))
    by rest false is zero found = absurd (omega (arith, place_behind (place + 1) id rows (place + 0) (sym (rw is refl) ∙ found)))
    by rest false is (suc i) found = rw is (ap (λ (list : List Channel). channel_of row own ∷ list) (rest i ((sym (rw is refl) ∙ found) ∙ ap (λ n. Some n) (omega arith))))

pub gone_at : (place id : ℕ) (rows : List (ℕ × Option ℕ)) (kept : List Kept) (i : ℕ) → length rows ≡ length kept → place_of_channel place id rows ≡ Some (place + i)
    → channels_of (remove rows i) (remove kept i) ≡ channels_without id (channels_of rows kept)
gone_at place id [] kept i same found = absurd cc
gone_at place id (row ∷ rows) [] i same found = absurd (omega (arith, same))
gone_at place id (row ∷ rows) (own ∷ kept) i same found = by (λ j. gone_at (place + 1) id rows kept j (omega (arith, same))) (row.0 == id) refl i found
  where
    by : ((j : ℕ) → place_of_channel (place + 1) id rows ≡ Some (place + 1 + j) → channels_of (remove rows j) (remove kept j) ≡ channels_without id (channels_of rows kept))
        → (here : Bool) → (row.0 == id) ≡ here → (i : ℕ) → place_of_channel place id (row ∷ rows) ≡ Some (place + i)
        → channels_of (remove (row ∷ rows) i) (remove (own ∷ kept) i) ≡ channels_without id (channels_of (row ∷ rows) (own ∷ kept))
    by rest true is zero found = rw is refl
    by rest true is (suc i) found = absurd (omega (arith, some_same place (place + suc i) (sym (rw is refl) ∙ found)))
    by rest false is zero found = absurd (omega (arith, place_behind (place + 1) id rows (place + 0) (sym (rw is refl) ∙ found)))
    by rest false is (suc i) found = rw is (ap (λ (list : List Channel). channel_of row own ∷ list) (rest i ((sym (rw is refl) ∙ found) ∙ ap (λ n. Some n) (omega arith))))

-- where there is no row of a number, none goes
pub gone_none : (place id : ℕ) (rows : List (ℕ × Option ℕ)) (kept : List Kept) → length rows ≡ length kept → place_of_channel place id rows ≡ None
    → channels_without id (channels_of rows kept) ≡ channels_of rows kept
gone_none place id [] kept same missed = refl
gone_none place id (row ∷ rows) [] same missed = absurd (omega (arith, same))
gone_none place id (row ∷ rows) (own ∷ kept) same missed = grind (arith, gone_none (place + 1) id rows kept)

pub rising_given : (least id s : ℕ) (channels : List Channel) → AreRising least channels → AreRising least (rows_given id s channels)
rising_given least id s [] rising = tt
rising_given least id s (channel ∷ channels) rising = grind (arith, rising_given (channel.id + 1) id s channels rising.1)

pub below_given : (bound id s : ℕ) (channels : List Channel) → AreBelow bound channels → AreBelow bound (rows_given id s channels)
below_given bound id s [] below = tt
below_given bound id s (channel ∷ channels) below = grind (arith, below_given bound id s channels below.1)

rising_least : (least more : ℕ) (channels : List Channel) → AreRising more channels → least ≤ more → AreRising least channels
rising_least least more [] rising less = tt
rising_least least more (channel ∷ channels) rising less = (omega (arith, rising.0, less), rising.1)

pub rising_without : (least id : ℕ) (channels : List Channel) → AreRising least channels → AreRising least (channels_without id channels)
rising_without least id [] rising = tt
rising_without least id (channel ∷ channels) rising = by (channel.id == id) refl (rising_without (channel.id + 1) id channels rising.1)
  where
    by : (here : Bool) → (channel.id == id) ≡ here → AreRising (channel.id + 1) (channels_without id channels) → AreRising least (channels_without id (channel ∷ channels))
    by true is rest = rw is (rising_least least (channel.id + 1) channels rising.1 (omega (arith, rising.0)))
    by false is rest = rw is (rising.0, rest)

pub below_without : (bound id : ℕ) (channels : List Channel) → AreBelow bound channels → AreBelow bound (channels_without id channels)
below_without bound id [] below = tt
below_without bound id (channel ∷ channels) below = by (channel.id == id) refl (below_without bound id channels below.1)
  where
    by : (here : Bool) → (channel.id == id) ≡ here → AreBelow bound (channels_without id channels) → AreBelow bound (channels_without id (channel ∷ channels))
    by true is rest = rw is below.1
    by false is rest = rw is (below.0, rest)

length-remove : {X : Type 0} (xs : List X) (i : ℕ) → i < length xs → length (remove xs i) + 1 ≡ length xs
length-remove [] i within = absurd (omega arith)
length-remove (x ∷ xs) zero within = omega arith
length-remove (x ∷ xs) (suc i) within = let rest = length-remove xs i (omega (arith, within)) in omega (arith, rest)

pub paired_given : (given id s : ℕ) (rows : List (ℕ × Option ℕ)) (kept : List Kept) (i : ℕ) → ArePaired given rows kept → place_of_channel 0 id rows ≡ Some i
    → ArePaired given (slice_set rows i (id, Some s)) kept
paired_given given id s rows kept i paired found =
    let here = given_at 0 id s rows kept i paired.same (found ∙ ap (λ n. Some n) (omega arith)) in
    record {
      same = length_set rows i ∙ paired.same;
      rising = rw here (rising_given 0 id s (channels_of rows kept) paired.rising);
      below = rw here (below_given given id s (channels_of rows kept) paired.below);
    }
  where
    length_set : (rows : List (ℕ × Option ℕ)) (i : ℕ) → length (slice_set rows i (id, Some s)) ≡ length rows
    length_set [] i = refl
    length_set (row ∷ rows) zero = refl
    length_set (row ∷ rows) (suc i) = ap suc (length_set rows i)

pub paired_gone : (given id : ℕ) (rows : List (ℕ × Option ℕ)) (kept : List Kept) (i : ℕ) → ArePaired given rows kept → place_of_channel 0 id rows ≡ Some i → i < length rows
    → ArePaired given (remove rows i) (remove kept i)
paired_gone given id rows kept i paired found within =
    let here = gone_at 0 id rows kept i paired.same (found ∙ ap (λ n. Some n) (omega arith)) in
    record {
      same = omega (arith, length-remove rows i within, length-remove kept i (omega (arith, within, paired.same)), paired.same);
      rising = rw here (rising_without 0 id (channels_of rows kept) paired.rising);
      below = rw here (below_without given id (channels_of rows kept) paired.below);
    }
