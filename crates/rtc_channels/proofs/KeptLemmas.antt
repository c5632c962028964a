-- Channels by their rows and what is kept beside them.
use Rattle.std.proofs.Common.{
  ◌≡◌,
  ◌+◌,
  ◌<◌,
  ◌≤◌,
  ◌==◌,
  ℕ,
  suc,
  zero,
  Bool,
  true,
  false,
  List,
  [],
  ◌∷◌,
  ◌++◌,
  length,
  get_or,
  map,
  refl,
  ap,
  sym,
  ◌∙◌,
  arith,
  Option,
  Some,
  None,
}
use Rattle.std.specs.Prelude.{◌||◌, not, is_some, slice_set}
use Rattle.std.proofs.lemmas.Grind.{common_steps}
use Rattle.rtc_wire.specs.declared.channel_config.ChannelConfig.{ChannelConfig}
use Rattle.rtc_channels.specs.declared.kept.Kept.{Kept}
use Rattle.rtc_channels.specs.Channels.{Channel, Channels, with_channel, AreRising, AreBelow, has_channel, numbered_stream, rows_confirmed}
use Rattle.rtc_channels.specs.Holds.{is_unconfirmed}
use Rattle.rtc_channels.specs.Kept.{channels_of, ArePaired, place_of_channel, kept_config}

-- the rows are those of their channels
pub streams_of_channels : (rows : List (ℕ × Option ℕ)) (kept : List Kept) → length rows ≡ length kept → map numbered_stream (channels_of rows kept) ≡ rows
streams_of_channels [] kept same = refl
streams_of_channels (row ∷ rows) [] same = absurd (omega (arith, same))
streams_of_channels (row ∷ rows) (own ∷ kept) same = grind (arith, streams_of_channels rows kept)

-- a channel has a number where its row has a place
pub has_channel_place : (place id : ℕ) (rows : List (ℕ × Option ℕ)) (kept : List Kept) → length rows ≡ length kept
    → is_some (place_of_channel place id rows) ≡ has_channel id (channels_of rows kept)
has_channel_place place id [] kept same = refl
has_channel_place place id (row ∷ rows) [] same = absurd (omega (arith, same))
has_channel_place place id (row ∷ rows) (own ∷ kept) same = grind (arith, has_channel_place (place + 1) id rows kept)

-- no number is past one that all are below
pub below_more : (bound more : ℕ) (channels : List Channel) → AreBelow bound channels → bound ≤ more → AreBelow more channels
below_more bound more [] below least = tt
below_more bound more (channel ∷ channels) below least = (omega (arith, below.0), below_more bound more channels below.1 least)

-- no channel has a number below those from which theirs rise
none_unconfirmed : (id least : ℕ) (channels : List Channel) → AreRising least channels → id < least → is_unconfirmed id channels ≡ false
none_unconfirmed id least [] rising above = refl
none_unconfirmed id least (channel ∷ channels) rising above =
    let apart : (channel.id == id) ≡ false = grind (arith, above, rising.0) in
    rw apart (none_unconfirmed id (channel.id + 1) channels rising.1 (omega (arith, above, rising.0)))

none_behind : (here behind : Bool) → behind ≡ false → (here || behind) ≡ here
none_behind true behind none = refl
none_behind false behind none = none

-- one more channel, with a number above all
pub one_more : (rows : List (ℕ × Option ℕ)) (kept : List Kept) (row : ℕ × Option ℕ) (own : Kept) → length rows ≡ length kept
    → channels_of (rows ++ row ∷ []) (kept ++ own ∷ []) ≡ channels_of rows kept ++ record { id = row.0; stream = row.1; negotiated = own.negotiated; config = own.config; confirmed = own.confirmed } ∷ []
one_more [] [] row own same = refl
one_more [] (first ∷ kept) row own same = absurd (omega (arith, same))
one_more (first ∷ rows) [] row own same = absurd (omega (arith, same))
one_more (first ∷ rows) (next ∷ kept) row own same = grind (arith, one_more rows kept row own)

pub rising_more : (least id : ℕ) (channels : List Channel) (channel : Channel) → AreRising least channels → AreBelow id channels → least ≤ id → channel.id ≡ id
    → AreRising least (channels ++ channel ∷ [])
rising_more least id [] channel rising below more is = (omega (arith, is), tt)
rising_more least id (first ∷ channels) channel rising below more is =
    (rising.0, rising_more (first.id + 1) id channels channel rising.1 below.1 (omega (arith, below.0)) is)

pub below_one_more : (bound : ℕ) (channels : List Channel) (channel : Channel) → AreBelow bound channels → channel.id < bound → AreBelow bound (channels ++ channel ∷ [])
below_one_more bound [] channel below is = (is, tt)
below_one_more bound (first ∷ channels) channel below is = (below.0, below_one_more bound channels channel below.1 is)

lengths_more : (rows : List (ℕ × Option ℕ)) (kept : List Kept) (row : ℕ × Option ℕ) (own : Kept) → length rows ≡ length kept
    → length (rows ++ row ∷ []) ≡ length (kept ++ own ∷ [])
lengths_more [] [] row own same = refl
lengths_more [] (first ∷ kept) row own same = absurd (omega (arith, same))
lengths_more (first ∷ rows) [] row own same = absurd (omega (arith, same))
lengths_more (first ∷ rows) (next ∷ kept) row own same = ap suc (lengths_more rows kept row own (omega (arith, same)))

pub paired_more : (given : ℕ) (rows : List (ℕ × Option ℕ)) (kept : List Kept) (row : ℕ × Option ℕ) (own : Kept) → ArePaired given rows kept → row.0 ≡ given
    → ArePaired (given + 1) (rows ++ row ∷ []) (kept ++ own ∷ [])
paired_more given rows kept row own paired is = record {
  same = lengths_more rows kept row own paired.same;
  rising = rw (one_more rows kept row own paired.same) (rising_more 0 given (channels_of rows kept) _ paired.rising paired.below (omega arith) is);
  below = rw (one_more rows kept row own paired.same)
      (below_one_more (given + 1) (channels_of rows kept) _ (below_more given (given + 1) (channels_of rows kept) paired.below (omega arith)) (omega (arith, is)));
}

-- the channels with one more are those that a config makes
pub made : (held : Channels) (given : ℕ) (rows : List (ℕ × Option ℕ)) (kept : List Kept) (id : ℕ) (config : ChannelConfig)
    → (holds : List ℕ) → record { given = given; rows = channels_of rows kept; holds = holds } ≡ held → length rows ≡ length kept → id ≡ given
    → record { given = given + 1; rows = channels_of (rows ++ (id, None) ∷ []) (kept ++ record { negotiated = config.negotiated; config = None; confirmed = false } ∷ []); holds = holds } ≡ with_channel held config
made held given rows kept id config holds is same next = rw (← is, next, one_more rows kept (given, None) (record { negotiated = config.negotiated; config = None; confirmed = false }) same) refl

-- a channel that is found has its place behind the first
pub place_behind : (place id : ℕ) (rows : List (ℕ × Option ℕ)) (i : ℕ) → place_of_channel place id rows ≡ Some i → place ≤ i
place_behind place id [] i found = absurd (cc)
place_behind place id (row ∷ rows) i found = grind (arith, place_behind (place + 1) id rows i)

-- and it has it among the rows
pub place_below : (place id : ℕ) (rows : List (ℕ × Option ℕ)) (i : ℕ) → place_of_channel place id rows ≡ Some i → i < place + length rows
place_below place id [] i found = absurd (cc)
place_below place id (row ∷ rows) i found = grind (arith, place_below (place + 1) id rows i)

pub some_same : (one other : ℕ) → Some one ≡ Some other → one ≡ other
some_same one other same = cc

-- a channel that has no place is not there
pub unconfirmed_missed : (place id : ℕ) (rows : List (ℕ × Option ℕ)) (kept : List Kept) → place_of_channel place id rows ≡ None
    → is_unconfirmed id (channels_of rows kept) ≡ false
unconfirmed_missed place id [] kept missed = refl
unconfirmed_missed place id (row ∷ rows) [] missed = refl
unconfirmed_missed place id (row ∷ rows) (own ∷ kept) missed = by (λ none. unconfirmed_missed (place + 1) id rows kept none) (row.0 == id) refl missed
  where
    by : (place_of_channel (place + 1) id rows ≡ None → is_unconfirmed id (channels_of rows kept) ≡ false)
        → (here : Bool) → (row.0 == id) ≡ here → place_of_channel place id (row ∷ rows) ≡ None → is_unconfirmed id (channels_of (row ∷ rows) (own ∷ kept)) ≡ false
    by rest true is missed = absurd (let e : Some place ≡ None = sym (rw is refl) ∙ missed in cc)
    by rest false is missed = rw is (rest (sym (rw is refl) ∙ missed))

-- whether a channel was confirmed is kept beside the row at its place
pub unconfirmed_found : (place id least : ℕ) (rows : List (ℕ × Option ℕ)) (kept : List Kept) (own : Kept) (i : ℕ) → length rows ≡ length kept
    → AreRising least (channels_of rows kept) → place_of_channel place id rows ≡ Some (place + i) → own ≡ get_or kept i own
    → is_unconfirmed id (channels_of rows kept) ≡ not own.confirmed
unconfirmed_found place id least [] kept own i same rising found at = absurd cc
unconfirmed_found place id least (row ∷ rows) [] own i same rising found at = absurd (omega (arith, same))
unconfirmed_found place id least (row ∷ rows) (first ∷ kept) own zero same rising found at = by (row.0 == id) refl found
  where
    by : (here : Bool) → (row.0 == id) ≡ here → place_of_channel place id (row ∷ rows) ≡ Some (place + 0)
        → is_unconfirmed id (channels_of (row ∷ rows) (first ∷ kept)) ≡ not own.confirmed
    by true is found =
        let number : row.0 ≡ id = grind (arith, is) in
        rw is (none_behind (not first.confirmed) (is_unconfirmed id (channels_of rows kept))
        (none_unconfirmed id (row.0 + 1) (channels_of rows kept) rising.1 (omega (arith, number)))
        ∙ ap (λ (k : Kept). not k.confirmed) (sym at))
    by false is found = absurd (omega (arith, place_behind (place + 1) id rows (place + 0) (sym (rw is refl) ∙ found)))
unconfirmed_found place id least (row ∷ rows) (first ∷ kept) own (suc i) same rising found at =
    by (λ found. unconfirmed_found (place + 1) id (row.0 + 1) rows kept own i (omega (arith, same)) rising.1 found at) (row.0 == id) refl found
  where
    by : (place_of_channel (place + 1) id rows ≡ Some (place + 1 + i) → is_unconfirmed id (channels_of rows kept) ≡ not own.confirmed)
        → (here : Bool) → (row.0 == id) ≡ here → place_of_channel place id (row ∷ rows) ≡ Some (place + suc i)
        → is_unconfirmed id (channels_of (row ∷ rows) (first ∷ kept)) ≡ not own.confirmed
    by rest true is found = absurd (omega (arith, some_same place (place + suc i) (sym (rw is refl) ∙ found)))
    by rest false is found = rw is (rest ((sym (rw is refl) ∙ found) ∙ ap (λ n. Some n) (omega arith)))

abbrev channel_of : ℕ × Option ℕ → Kept → Channel
channel_of row own = record { id = row.0; stream = row.1; negotiated = own.negotiated; config = own.config; confirmed = own.confirmed }

-- what is kept beside the row at a place, where that is the channel's
abbrev AtPlace : ℕ → ChannelConfig → List (ℕ × Option ℕ) → List Kept → Kept → ℕ → Type 0
AtPlace id config rows kept own i =
    (i < length kept) × (channels_of rows (slice_set kept i (kept_config config own)) ≡ rows_confirmed id config (channels_of rows kept))

pub confirmed_at : (place id : ℕ) (config : ChannelConfig) (rows : List (ℕ × Option ℕ)) (kept : List Kept) (own : Kept) (i : ℕ)
    → length rows ≡ length kept → place_of_channel place id rows ≡ Some (place + i) → own ≡ get_or kept i own → AtPlace id config rows kept own i
confirmed_at place id config [] kept own i same found at = absurd (cc)
confirmed_at place id config (row ∷ rows) [] own i same found at = absurd (cc)
confirmed_at place id config (row ∷ rows) (first ∷ kept) own zero same found at = by (row.0 == id) refl found
  where
    by : (here : Bool) → (row.0 == id) ≡ here → place_of_channel place id (row ∷ rows) ≡ Some (place + 0) → AtPlace id config (row ∷ rows) (first ∷ kept) own zero
    by true is found = rw (is, at) (omega arith, refl)
    by false is found = absurd (omega (arith, place_behind (place + 1) id rows (place + 0) (sym (rw is refl) ∙ found)))
confirmed_at place id config (row ∷ rows) (first ∷ kept) own (suc i) same found at =
    by (λ found. confirmed_at (place + 1) id config rows kept own i (omega (arith, same)) found at) (row.0 == id) refl found
  where
    by : (place_of_channel (place + 1) id rows ≡ Some (place + 1 + i) → AtPlace id config rows kept own i)
        → (here : Bool) → (row.0 == id) ≡ here → place_of_channel place id (row ∷ rows) ≡ Some (place + suc i)
        → AtPlace id config (row ∷ rows) (first ∷ kept) own (suc i)
    by rest true is found = absurd (omega (arith, some_same place (place + suc i) (sym (rw is refl) ∙ found)))
    by rest false is found =
        let more = rest ((sym (rw is refl) ∙ found) ∙ ap (λ n. Some n) (omega arith)) in
        rw is (omega (arith, more.0), ap (λ (list : List Channel). channel_of row first ∷ list) more.1)

pub rising_confirmed : (least id : ℕ) (config : ChannelConfig) (channels : List Channel) → AreRising least channels → AreRising least (rows_confirmed id config channels)
rising_confirmed least id config [] rising = tt
rising_confirmed least id config (channel ∷ channels) rising = grind (arith, rising_confirmed (channel.id + 1) id config channels rising.1)

pub below_confirmed : (bound id : ℕ) (config : ChannelConfig) (channels : List Channel) → AreBelow bound channels → AreBelow bound (rows_confirmed id config channels)
below_confirmed bound id config [] below = tt
below_confirmed bound id config (channel ∷ channels) below = grind (arith, below_confirmed bound id config channels below.1)

-- What is kept beside the row of a channel is replaced by what it is with a config.
pub record IsConfirmed (given id : ℕ) (config : ChannelConfig) (rows : List (ℕ × Option ℕ)) (kept : List Kept) (own : Kept) (place : ℕ) : Type 0 where
  pub within : place < length kept
  pub set : channels_of rows (slice_set kept place (kept_config config own)) ≡ rows_confirmed id config (channels_of rows kept)
  pub paired : ArePaired given rows (slice_set kept place (kept_config config own))

length_set : (kept : List Kept) (place : ℕ) (own : Kept) → length (slice_set kept place own) ≡ length kept
length_set kept place own = grind (arith, common_steps)

pub is_confirmed : (given id : ℕ) (config : ChannelConfig) (rows : List (ℕ × Option ℕ)) (kept : List Kept) (own : Kept) (place : ℕ) → ArePaired given rows kept
    → place_of_channel 0 id rows ≡ Some place → own ≡ get_or kept place own → IsConfirmed given id config rows kept own place
is_confirmed given id config rows kept own place paired found at =
    let here = confirmed_at 0 id config rows kept own place paired.same (found ∙ ap (λ n. Some n) (omega arith)) at in
    record {
      within = here.0;
      set = here.1;
      paired = record {
        same = paired.same ∙ sym (length_set kept place (kept_config config own));
        rising = rw here.1 (rising_confirmed 0 id config (channels_of rows kept) paired.rising);
        below = rw here.1 (below_confirmed given id config (channels_of rows kept) paired.below);
      };
    }
