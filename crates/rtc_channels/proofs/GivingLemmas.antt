-- A channel that is given a stream, by its place.
use Rattle.std.proofs.Common.{◌≡◌, ◌+◌, ◌<◌, ◌≤◌, ◌==◌, ℕ, suc, zero, Bool, true, false, cond, not, ◌||◌, List, [], ◌∷◌, ◌++◌, length, take, get_or, refl, ap, sym, subst, ◌∙◌, arith, Option, Some, None}
use Rattle.std.specs.Prelude.{slice_get, slice_set, is_some, is_err, nat_lt, IfSome, Result, Ok, Err, OnOk, OnErr}
use Rattle.std.specs.List.{list_any}
use Rattle.std.specs.BTreeMap.{BTreeMap}
use Rattle.rtc_channels.specs.Ids.{all_ids}
use Rattle.rtc_channels.specs.declared.kept.Kept.{Kept}
use Rattle.rtc_channels.specs.declared.grants.Grant.{Grant}
use Rattle.rtc_channels.specs.Channels.{Channel, Channels, channel_of_stream}
use Rattle.rtc_channels.specs.Kept.{channels_of, place_of_channel}
use Rattle.rtc_channels.specs.Holds.{hold_count}
use Rattle.rtc_channels.specs.Granted.{owner_at, holds_at, holds_of, stream_of_free, AreHandled}
use Rattle.rtc_channels.specs.Allocation.{is_given, is_taken, free_streams, stream_for, stream_sought, sought_by, sought_at, given_to, IsBare, rows_given, stream_given, all_allocated, is_waiting}
use Rattle.rtc_channels.proofs.GrantLemmas.{holds_same}
use Rattle.rtc_channels.proofs.PlaceLemmas.{handled_ascending, place_own}
use Rattle.rtc_channels.proofs.HoldLemmas.{handler_view}
use Rattle.rtc_channels.proofs.RowLemmas.{is_given-owner}
use Rattle.rtc_channels.proofs.GivenLemmas.{channel_of, given_at}
use Rattle.rtc_channels.proofs.HandledLemmas.{handled_given}
use Rattle.rtc_channels.proofs.AllocationLemmas.{taken_granted, first_passes}

-- ---- channels by their places

pub channel_at : (rows : List (ℕ × Option ℕ)) (kept : List Kept) (i : ℕ) (d : ℕ × Option ℕ) (e : Kept) → length rows ≡ length kept → i < length rows
    → slice_get (channels_of rows kept) i ≡ Some (channel_of (get_or rows i d) (get_or kept i e))
channel_at [] kept i d e same within = absurd (omega arith)
channel_at (row ∷ rows) [] i d e same within = absurd (omega (arith, same))
channel_at (row ∷ rows) (own ∷ kept) zero d e same within = refl
channel_at (row ∷ rows) (own ∷ kept) (suc i) d e same within = channel_at rows kept i d e (omega (arith, same)) (omega (arith, within))

pub length-channels_of : (rows : List (ℕ × Option ℕ)) (kept : List Kept) → length rows ≡ length kept → length (channels_of rows kept) ≡ length rows
length-channels_of [] kept same = refl
length-channels_of (row ∷ rows) [] same = absurd (omega (arith, same))
length-channels_of (row ∷ rows) (own ∷ kept) same = ap suc (length-channels_of rows kept (omega (arith, same)))

pub bare_at : (rows : List (ℕ × Option ℕ)) (kept : List Kept) (i : ℕ) → length rows ≡ length kept → IsBare (slice_get (channels_of rows kept) i)
    → (i < length rows) × ((d : ℕ × Option ℕ) → (get_or rows i d).1 ≡ None)
bare_at [] kept i same bare = absurd bare
bare_at (row ∷ rows) [] i same bare = absurd (omega (arith, same))
bare_at (row ∷ rows) (own ∷ kept) zero same bare = (omega arith, λ d. bare)
bare_at (row ∷ rows) (own ∷ kept) (suc i) same bare = let rest = bare_at rows kept i (omega (arith, same)) bare in (omega (arith, rest.0), rest.1)

pub waiting_rows : (rows : List (ℕ × Option ℕ)) (kept : List Kept) → length rows ≡ length kept
    → is_waiting (channels_of rows kept) ≡ list_any (λ row. not (is_some row.1)) rows
waiting_rows [] kept same = refl
waiting_rows (row ∷ rows) [] same = absurd (omega (arith, same))
waiting_rows (row ∷ rows) (own ∷ kept) same = ap (λ (b : Bool). not (is_some row.1) || b) (waiting_rows rows kept (omega (arith, same)))

pub set_behind : (rows : List (ℕ × Option ℕ)) (kept : List Kept) (i k : ℕ) (row : ℕ × Option ℕ) → i < k → slice_get (channels_of (slice_set rows i row) kept) k ≡ slice_get (channels_of rows kept) k
set_behind [] kept i k row less = refl
set_behind (first ∷ rows) [] zero k row less = refl
set_behind (first ∷ rows) [] (suc i) k row less = refl
set_behind (first ∷ rows) (own ∷ kept) i zero row less = absurd (omega arith)
set_behind (first ∷ rows) (own ∷ kept) zero (suc k) row less = refl
set_behind (first ∷ rows) (own ∷ kept) (suc i) (suc k) row less = set_behind rows kept i k row (omega arith)

length-put : {X : Type 0} (xs : List X) (i : ℕ) (x : X) → length (slice_set xs i x) ≡ length xs
length-put [] i x = refl
length-put (y ∷ xs) zero x = refl
length-put (y ∷ xs) (suc i) x = ap suc (length-put xs i x)

-- ---- the stream that is sought

pub sought_has : (stream negotiated : Option ℕ) (parity : ℕ) (held : Channels) → is_some stream ≡ true → stream_sought stream negotiated parity held ≡ None
sought_has None negotiated parity held has = absurd cc
sought_has (Some own) negotiated parity held has = refl

sought_bare : (stream negotiated : Option ℕ) (parity : ℕ) (held : Channels) → is_some stream ≡ false → stream_sought stream negotiated parity held ≡ stream_for negotiated parity held
sought_bare None negotiated parity held bare = refl
sought_bare (Some own) negotiated parity held bare = absurd cc

free_passes : (parity s : ℕ) (held : Channels) → slice_get (free_streams parity held) 0 ≡ Some s → is_taken s held ≡ false
free_passes parity s held found = by (is_taken s held) (first_passes (λ stream. not (is_taken stream held)) (all_ids parity) s found)
  where
    by : (b : Bool) → not b ≡ true → b ≡ false
    by true passes = absurd cc
    by false passes = refl

for_free : (negotiated : Option ℕ) (parity s : ℕ) (held : Channels) → stream_for negotiated parity held ≡ Some s → is_taken s held ≡ false
for_free None parity s held found = free_passes parity s held found
for_free (Some own) parity s held found = by (is_taken own held) refl found
  where
    by : (b : Bool) → is_taken own held ≡ b → cond b None (Some own) ≡ Some s → is_taken s held ≡ false
    by true is found = absurd cc
    by false is found = let same : own ≡ s = cc in ap (λ (n : ℕ). is_taken n held) (sym same) ∙ is

-- a channel for which a stream is sought has none, and no channel has that stream
pub sought_is_bare : (channel : Option Channel) (parity s : ℕ) (held : Channels) → Some s ≡ sought_at channel parity held → IsBare channel
sought_is_bare None parity s held found = absurd cc
sought_is_bare (Some channel) parity s held found = by channel.stream found
  where
    by : (stream : Option ℕ) → Some s ≡ stream_sought stream channel.negotiated parity held → stream ≡ None
    by None found = refl
    by (Some own) found = absurd cc

pub sought_is_free : (channel : Option Channel) (parity s : ℕ) (held : Channels) → Some s ≡ sought_at channel parity held → is_taken s held ≡ false
sought_is_free None parity s held found = absurd cc
sought_is_free (Some channel) parity s held found = by channel.stream found
  where
    by : (stream : Option ℕ) → Some s ≡ stream_sought stream channel.negotiated parity held → is_taken s held ≡ false
    by None found = for_free channel.negotiated parity s held (sym found)
    by (Some own) found = absurd cc

pub sought_not_given : (channel : Option Channel) (parity s : ℕ) (held : Channels) → Some s ≡ sought_at channel parity held → is_given s held.rows ≡ false
sought_not_given channel parity s held found = by (is_given s held.rows) (nat_lt 0 (hold_count s held.holds)) (sought_is_free channel parity s held found)
  where
    by : (a b : Bool) → (a || b) ≡ false → a ≡ false
    by true b is = absurd cc
    by false b is = refl

module _ (given parity : ℕ) (rows : List (ℕ × Option ℕ)) (kept : List Kept) (grants : BTreeMap ℕ Grant) (handled : AreHandled given rows kept grants) (held : Channels)
    (is : handler_view given rows kept (holds_of grants) ≡ held) where
  pub place_within : (i : ℕ) → i < length held.rows → i < length rows
  place_within i within =
      let size : length held.rows ≡ length rows = ap (λ (h : Channels). length h.rows) (sym is) ∙ length-channels_of rows kept handled.paired.same in
      omega (arith, within, size)

  pub seek_has : (i : ℕ) (row : ℕ × Option ℕ) (own : Kept) → i < length rows → row ≡ get_or rows i row → is_some row.1 ≡ true → None ≡ sought_at (slice_get held.rows i) parity held
  seek_has i row own within at has =
      sym (ap (λ (channel : Option Channel). sought_at channel parity held) (ap (λ (h : Channels). slice_get h.rows i) (sym is) ∙ channel_at rows kept i row own handled.paired.same within)
      ∙ sought_has (get_or rows i row).1 (get_or kept i own).negotiated parity held (ap (λ (r : ℕ × Option ℕ). is_some r.1) (sym at) ∙ has))

  of_free : (negotiated : Option ℕ) (free : List ℕ) → free ≡ free_streams parity held → IfSome negotiated (λ s. s < 65536) → stream_of_free negotiated grants free ≡ stream_for negotiated parity held
  of_free None free alike fits = ap (λ (list : List ℕ). slice_get list 0) alike
  of_free (Some s) free alike fits =
      ap (λ (b : Bool). cond b None (Some s)) (sym (taken_granted given s rows kept grants handled fits) ∙ ap (λ (h : Channels). is_taken s h) is)

  pub seek_bare : (i : ℕ) (row : ℕ × Option ℕ) (own : Kept) (free : List ℕ) → i < length rows → row ≡ get_or rows i row → own ≡ get_or kept i own → is_some row.1 ≡ false
      → free ≡ free_streams parity held → IfSome own.negotiated (λ s. s < 65536) → stream_of_free own.negotiated grants free ≡ sought_at (slice_get held.rows i) parity held
  seek_bare i row own free within at own_at bare alike fits =
      of_free own.negotiated free alike fits
      ∙ sym (ap (λ (channel : Option Channel). sought_at channel parity held) (ap (λ (h : Channels). slice_get h.rows i) (sym is) ∙ channel_at rows kept i row own handled.paired.same within)
      ∙ (sought_bare (get_or rows i row).1 (get_or kept i own).negotiated parity held (ap (λ (r : ℕ × Option ℕ). is_some r.1) (sym at) ∙ bare)
      ∙ ap (λ (k : Kept). stream_for k.negotiated parity held) (sym own_at)))

  pub unowned_of : (s : ℕ) → is_given s held.rows ≡ false → channel_of_stream s rows ≡ None
  unowned_of s free = by (channel_of_stream s rows) (sym (ap (λ (h : Channels). is_given s h.rows) (sym is) ∙ is_given-owner s rows kept handled.paired.same) ∙ free)
    where
      by : (found : Option ℕ) → is_some found ≡ false → found ≡ None
      by None missed = refl
      by (Some id) missed = absurd cc

  pub bare_within : (i : ℕ) → IsBare (slice_get held.rows i) → i < length rows
  bare_within i bare = (bare_at rows kept i handled.paired.same (subst (λ (h : Channels). IsBare (slice_get h.rows i)) (sym is) bare)).0

  bare_row : (i : ℕ) (d : ℕ × Option ℕ) → IsBare (slice_get held.rows i) → get_or rows i d ≡ ((get_or rows i d).0, None)
  bare_row i d bare = ap (λ (stream : Option ℕ). ((get_or rows i d).0, stream)) ((bare_at rows kept i handled.paired.same (subst (λ (h : Channels). IsBare (slice_get h.rows i)) (sym is) bare)).1 d)

  module _ (grants' : BTreeMap ℕ Grant) (s i : ℕ) (row : ℕ × Option ℕ) (at : row ≡ get_or rows i row) (bare : IsBare (slice_get held.rows i)) (free : is_given s held.rows ≡ false) where
    own_place : place_of_channel 0 row.0 rows ≡ Some i
    own_place =
        ap (λ (r : ℕ × Option ℕ). place_of_channel 0 r.0 rows) at
        ∙ place_own rows i row (handled_ascending rows kept handled.paired) (bare_within i bare)

    bare_is : get_or rows i row ≡ (row.0, None)
    bare_is = bare_row i row bare ∙ ap (λ (r : ℕ × Option ℕ). (r.0, None)) (sym at)

    pub handled_give : ((q : ℕ) → owner_at grants' q ≡ cond (q == s) (Some row.0) (owner_at grants q)) → ((q : ℕ) → holds_at grants' q ≡ holds_at grants q)
        → AreHandled given (slice_set rows i (row.0, Some s)) kept grants'
    handled_give owners times = handled_given given rows kept grants handled grants' row.0 s i row (bare_within i bare) bare_is own_place (unowned_of s free) owners times

    given_rows : channels_of (slice_set rows i (row.0, Some s)) kept ≡ rows_given row.0 s (channels_of rows kept)
    given_rows = given_at 0 row.0 s rows kept i handled.paired.same (own_place ∙ ap (λ n. Some n) (omega arith))

    pub give_view : (own : Kept) → ((q : ℕ) → holds_at grants' q ≡ holds_at grants q)
        → handler_view given (slice_set rows i (row.0, Some s)) kept (holds_of grants') ≡ given_to (slice_get held.rows i) s held
    give_view own times =
        rw (given_rows, holds_same grants grants' times)
        (rw (← is, channel_at rows kept i row own handled.paired.same (bare_within i bare)) (ap (λ (r : ℕ × Option ℕ). record { given = given; rows = rows_given r.0 s (channels_of rows kept); holds = holds_of grants }) at))

    pub give_count : length (channels_of (slice_set rows i (row.0, Some s)) kept) ≡ length held.rows
    give_count =
        length-channels_of (slice_set rows i (row.0, Some s)) kept (length-put rows i (row.0, Some s) ∙ handled.paired.same)
        ∙ (length-put rows i (row.0, Some s) ∙ (sym (length-channels_of rows kept handled.paired.same) ∙ ap (λ (h : Channels). length h.rows) is))

-- ---- one channel after another

all_more : (parity : ℕ) (channels : List Channel) (channel : Channel) (held : Channels)
    → all_allocated parity (channels ++ channel ∷ []) held ≡ stream_given channel.id (sought_by parity (all_allocated parity channels held) channel) (all_allocated parity channels held)
all_more parity [] channel held = refl
all_more parity (first ∷ channels) channel held = all_more parity channels channel (stream_given first.id (sought_by parity held first) held)

take_more : (channels : List Channel) (i : ℕ) (channel : Channel) → slice_get channels i ≡ Some channel → take (i + 1) channels ≡ take i channels ++ channel ∷ []
take_more [] i channel at = absurd cc
take_more (first ∷ channels) zero channel at = let same : first ≡ channel = cc in ap (λ (c : Channel). c ∷ []) same
take_more (first ∷ channels) (suc i) channel at = let one : suc i + 1 ≡ suc (i + 1) = omega arith in rw one (ap (λ (list : List Channel). first ∷ list) (take_more channels i channel at))

channel_there : (channels : List Channel) (i : ℕ) → i < length channels → (channel : Channel) × (slice_get channels i ≡ Some channel)
channel_there [] i within = absurd (omega arith)
channel_there (first ∷ channels) zero within = (first, refl)
channel_there (first ∷ channels) (suc i) within = channel_there channels i (omega (arith, within))

module _ (parity i : ℕ) (old now : Channels) (done : now ≡ all_allocated parity (take i old.rows) old) (rest : slice_get now.rows i ≡ slice_get old.rows i) (within : i < length old.rows) where
  next : (channel : Channel) → slice_get old.rows i ≡ Some channel → all_allocated parity (take (i + 1) old.rows) old ≡ stream_given channel.id (sought_by parity now channel) now
  next channel at = rw (take_more old.rows i channel at, all_more parity (take i old.rows) channel old, ← done) refl

  pub step_none : None ≡ sought_at (slice_get now.rows i) parity now → now ≡ all_allocated parity (take (i + 1) old.rows) old
  step_none missed =
      let there = channel_there old.rows i within in
      let none : sought_by parity now there.0 ≡ None = sym (missed ∙ ap (λ (channel : Option Channel). sought_at channel parity now) (rest ∙ there.1)) in
      sym (next there.0 there.1 ∙ ap (λ (stream : Option ℕ). stream_given there.0.id stream now) none)

  pub step_some : (s : ℕ) (new : Channels) → Some s ≡ sought_at (slice_get now.rows i) parity now → new ≡ given_to (slice_get now.rows i) s now
      → new ≡ all_allocated parity (take (i + 1) old.rows) old
  step_some s new found gives =
      let there = channel_there old.rows i within in
      let some : sought_by parity now there.0 ≡ Some s = sym (found ∙ ap (λ (channel : Option Channel). sought_at channel parity now) (rest ∙ there.1)) in
      gives ∙ (ap (λ (channel : Option Channel). given_to channel s now) (rest ∙ there.1)
      ∙ sym (next there.0 there.1 ∙ ap (λ (stream : Option ℕ). stream_given there.0.id stream now) some))

pub none_waiting : (parity : ℕ) (channels : List Channel) (held : Channels) → is_waiting channels ≡ false → all_allocated parity channels held ≡ held
none_waiting parity [] held none = refl
none_waiting parity (channel ∷ channels) held none = by (λ rest. none_waiting parity channels held rest) channel.stream refl none
  where
    by : (is_waiting channels ≡ false → all_allocated parity channels held ≡ held) → (stream : Option ℕ) → channel.stream ≡ stream
        → (not (is_some channel.stream) || is_waiting channels) ≡ false → all_allocated parity (channel ∷ channels) held ≡ held
    by rest None is none = let wrong : true ≡ false = sym (rw is refl) ∙ none in absurd cc
    by rest (Some own) is none = rw is (rest (sym (rw is refl) ∙ none))

pub take_all : (channels : List Channel) (n : ℕ) → length channels ≤ n → take n channels ≡ channels
take_all [] zero least = refl
take_all [] (suc n) least = refl
take_all (channel ∷ channels) zero least = absurd (omega (arith, least))
take_all (channel ∷ channels) (suc n) least = ap (λ (list : List Channel). channel ∷ list) (take_all channels n (omega (arith, least)))

pub ok_of : {X E P : Type 0} (r : Result X E) → is_err r ≡ false → OnOk r P → P
ok_of (Ok x) fine is = is
ok_of (Err e) fine is = absurd cc

pub err_of : {X E P : Type 0} (r : Result X E) → is_err r ≡ true → OnErr r P → P
err_of (Ok x) failed is = absurd cc
err_of (Err e) failed is = is
