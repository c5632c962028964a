-- How channels keep their numbers, and how one more is given.
use Rattle.std.proofs.Common.{◌≡◌, ◌∙◌, ◌<◌, ◌≤◌, ◌+◌, ◌++◌, ◌==◌, ℕ, Bool, true, false, cond, List, [], ◌∷◌, length, map, take, Option, Some, None, Result, Ok, Err, refl, sym, ap, subst, arith}
use Rattle.std.specs.declared.alloc.AllocError.{AllocError}
use Rattle.std.proofs.lemmas.List.{length-append}
use Rattle.rtc_wire.specs.declared.channel_config.ChannelConfig.{ChannelConfig}
use Rattle.rtc_parts.specs.AssociationMeaning.{AssociationMeaning}
use Rattle.rtc_ready.specs.Signals.{Signals}
use Rattle.rtc_sctp.specs.Streams.{SctpStreams}
use Rattle.rtc_channels.specs.Ids.{parity_of}
use Rattle.rtc_channels.specs.Channels.{Channel, Channels, AreBelow, AreRising, has_channel_id, is_of_stream, numbered_stream, channel_of_stream}
use Rattle.rtc_channels.specs.Allocation.{Allocates, all_allocated, rows_given, stream_given, sought_by, channel_ensured, is_ensured, opened_by_other}
use Rattle.rtc_channels.specs.Holds.{channels_without, removed_channel}
use Rattle.rtc_channels.specs.Openings.{OpensChannel, OpensAll, Following, Progresses, MeetsMoment, rows_opened}
use Rattle.rtc_channels.proofs.KeptLemmas.{below_more, below_one_more, rising_more}
use Rattle.rtc_channels.proofs.GivenLemmas.{below_given, below_without, rising_given, rising_without}
use Rattle.rtc_channels.proofs.OpeningLemmas.{below_opened}
use Rattle.rtc_peer_polling.specs.Numbers.{ChannelNumbers, AreUnconfirmed}
use Rattle.rtc_peer_polling.specs.StreamStages.{channel_over}

-- no number was given, no row is new, no channel was confirmed, and rows that rise still do
pub record Stays (held held' : Channels) : Type 0 where
  pub given : held'.given ≡ held.given
  pub rows : length held'.rows ≤ length held.rows
  pub below : (n : ℕ) → AreBelow n held.rows → AreBelow n held'.rows
  pub rising : (n : ℕ) → AreRising n held.rows → AreRising n held'.rows
  pub unconfirmed : (n : ℕ) → AreUnconfirmed n held.rows → AreUnconfirmed n held'.rows

pub stays_same : (held held' : Channels) → held' ≡ held → Stays held held'
stays_same held held' same = record {
  given = ap (λ (h : Channels). h.given) same;
  rows = omega (arith, ap (λ (h : Channels). length h.rows) same);
  below = λ n below. subst (λ (h : Channels). AreBelow n h.rows) (sym same) below;
  rising = λ n rising. subst (λ (h : Channels). AreRising n h.rows) (sym same) rising;
  unconfirmed = λ n none. subst (λ (h : Channels). AreUnconfirmed n h.rows) (sym same) none;
}

pub stays_self : (held : Channels) → Stays held held
stays_self held = stays_same held held refl

pub stays_on : (a b c : Channels) → Stays a b → Stays b c → Stays a c
stays_on a b c first rest = record {
  given = rest.given ∙ first.given;
  rows = omega (arith, first.rows, rest.rows);
  below = λ n below. rest.below n (first.below n below);
  rising = λ n rising. rest.rising n (first.rising n rising);
  unconfirmed = λ n none. rest.unconfirmed n (first.unconfirmed n none);
}

-- with these rows, and whatever is held
pub stays_rows : (held : Channels) (rows : List Channel) (holds : List ℕ) → length rows ≤ length held.rows
    → ((n : ℕ) → AreBelow n held.rows → AreBelow n rows) → ((n : ℕ) → AreRising n held.rows → AreRising n rows)
    → ((n : ℕ) → AreUnconfirmed n held.rows → AreUnconfirmed n rows) → Stays held (record held { rows = rows; holds = holds })
stays_rows held rows holds few below rising unconfirmed =
    record { given = refl; rows = few; below = below; rising = rising; unconfirmed = unconfirmed }

-- what a call does that told this number
abbrev pub NumbersWhen : Option ℕ → Channels → Channels → Type 0
NumbersWhen None held held' = Stays held held'
NumbersWhen (Some id) held held' = ChannelNumbers (Some id) held held'

below_stays : (a b : Channels) → Stays a b → AreBelow a.given a.rows → AreBelow b.given b.rows
below_stays a b stays below = subst (λ n. AreBelow n b.rows) (sym stays.given) (stays.below a.given below)

pub numbers_on : (told : Option ℕ) (a b c : Channels) → Stays a b → NumbersWhen told b c → NumbersWhen told a c
numbers_on None a b c first rest = stays_on a b c first rest
numbers_on (Some id) a b c first rest = record {
  rises = omega (arith, first.given, rest.rises);
  unless_told = λ none. rest.unless_told none ∙ first.given;
  one_more = omega (arith, first.given, rest.one_more);
  few_rows = omega (arith, first.rows, rest.few_rows);
  no_new_row = λ none. omega (arith, first.rows, rest.no_new_row none);
  below = λ below. rest.below (below_stays a b first below);
  rising = λ below rising. rest.rising (below_stays a b first below) (first.rising 0 rising);
  told_below = λ below other told. rest.told_below (below_stays a b first below) other told;
  unconfirmed = λ n none. rest.unconfirmed n (first.unconfirmed n none);
}

pub numbers_of : (told : Option ℕ) (a b : Channels) → NumbersWhen told a b → ChannelNumbers told a b
numbers_of None a b stays = record {
  rises = omega (arith, stays.given);
  unless_told = λ none. stays.given;
  one_more = omega (arith, stays.given);
  few_rows = omega (arith, stays.rows);
  no_new_row = λ none. stays.rows;
  below = λ below. below_stays a b stays below;
  rising = λ below rising. stays.rising 0 rising;
  told_below = λ below id told. cc (told);
  unconfirmed = stays.unconfirmed;
}
numbers_of (Some id) a b numbers = numbers

length_without : (id : ℕ) (rows : List Channel) → length (channels_without id rows) ≤ length rows
length_without id [] = omega arith
length_without id (channel ∷ rest) = by (has_channel_id id channel) (length_without id rest)
  where
    by : (here : Bool) → length (channels_without id rest) ≤ length rest
        → length (cond here rest (channel ∷ channels_without id rest)) ≤ length (channel ∷ rest)
    by true few = omega arith
    by false few = omega (arith, few)

pub unconfirmed_without : (n id : ℕ) (rows : List Channel) → AreUnconfirmed n rows → AreUnconfirmed n (channels_without id rows)
unconfirmed_without n id [] none = tt
unconfirmed_without n id (channel ∷ rest) none = by (has_channel_id id channel) (unconfirmed_without n id rest none.1)
  where
    by : (here : Bool) → AreUnconfirmed n (channels_without id rest) → AreUnconfirmed n (cond here rest (channel ∷ channels_without id rest))
    by true others = none.1
    by false others = (none.0, others)

pub stays_removed : (id : ℕ) (pending : Bool) (held : Channels) → Stays held (removed_channel id pending held)
stays_removed id pending held =
    stays_rows held (channels_without id held.rows) _ (length_without id held.rows) (λ n below. below_without n id held.rows below)
    (λ n rising. rising_without n id held.rows rising) (λ n none. unconfirmed_without n id held.rows none)

-- ---- channels that are given streams, and opened

length_given : (id stream : ℕ) (rows : List Channel) → length (rows_given id stream rows) ≤ length rows
length_given id stream [] = omega arith
length_given id stream (channel ∷ rest) = by (has_channel_id id channel) (length_given id stream rest)
  where
    by : (here : Bool) → length (rows_given id stream rest) ≤ length rest
        → length (cond here (record channel { stream = Some stream } ∷ rest) (channel ∷ rows_given id stream rest)) ≤ length (channel ∷ rest)
    by true few = omega arith
    by false few = omega (arith, few)

unconfirmed_given : (n id stream : ℕ) (rows : List Channel) → AreUnconfirmed n rows → AreUnconfirmed n (rows_given id stream rows)
unconfirmed_given n id stream [] none = tt
unconfirmed_given n id stream (channel ∷ rest) none = by (has_channel_id id channel) (unconfirmed_given n id stream rest none.1)
  where
    by : (here : Bool) → AreUnconfirmed n (rows_given id stream rest)
        → AreUnconfirmed n (cond here (record channel { stream = Some stream } ∷ rest) (channel ∷ rows_given id stream rest))
    by true others = none
    by false others = (none.0, others)

stays_given : (id : ℕ) (stream : Option ℕ) (held : Channels) → Stays held (stream_given id stream held)
stays_given id None held = stays_self held
stays_given id (Some stream) held =
    stays_rows held (rows_given id stream held.rows) held.holds (length_given id stream held.rows)
    (λ n below. below_given n id stream held.rows below) (λ n rising. rising_given n id stream held.rows rising)
    (λ n none. unconfirmed_given n id stream held.rows none)

stays_allocated : (parity : ℕ) (rows : List Channel) (held : Channels) → Stays held (all_allocated parity rows held)
stays_allocated parity [] held = stays_self held
stays_allocated parity (channel ∷ rest) held =
    stays_on held (stream_given channel.id (sought_by parity held channel) held) _
    (stays_given channel.id (sought_by parity held channel) held)
    (stays_allocated parity rest (stream_given channel.id (sought_by parity held channel) held))

allocates_stays : (parity : ℕ) (held : Channels) (did : Result (Unit {0}) AllocError) (held' : Channels) → Allocates parity held did held'
    → Stays held held'
allocates_stays parity held (Ok done) held' h = subst (Stays held) (sym h) (stays_allocated parity held.rows held)
allocates_stays parity held (Err error) held' h = subst (Stays held) (sym h.1) (stays_allocated parity (take h.0 held.rows) held)

length_opened : (id : ℕ) (rows : List Channel) → length (rows_opened id rows) ≤ length rows
length_opened id [] = omega arith
length_opened id (channel ∷ rest) = by (has_channel_id id channel) (length_opened id rest)
  where
    by : (here : Bool) → length (rows_opened id rest) ≤ length rest
        → length (cond here (record channel { config = None } ∷ rest) (channel ∷ rows_opened id rest)) ≤ length (channel ∷ rest)
    by true few = omega arith
    by false few = omega (arith, few)

rising_opened : (least id : ℕ) (rows : List Channel) → AreRising least rows → AreRising least (rows_opened id rows)
rising_opened least id [] rising = tt
rising_opened least id (channel ∷ rest) rising = grind (arith, rising_opened (channel.id + 1) id rest rising.1)

unconfirmed_opened : (n id : ℕ) (rows : List Channel) → AreUnconfirmed n rows → AreUnconfirmed n (rows_opened id rows)
unconfirmed_opened n id [] none = tt
unconfirmed_opened n id (channel ∷ rest) none = by (has_channel_id id channel) (unconfirmed_opened n id rest none.1)
  where
    by : (here : Bool) → AreUnconfirmed n (rows_opened id rest)
        → AreUnconfirmed n (cond here (record channel { config = None } ∷ rest) (channel ∷ rows_opened id rest))
    by true others = none
    by false others = (none.0, others)

module _ {S : Type 0} (m : AssociationMeaning S) where
  opens_stays : (stream : Option ℕ) (config : Option ChannelConfig) (id : ℕ) (held : Channels) (p : SctpStreams S)
      (r : Result (Unit {0}) AllocError) (held' : Channels) (p' : SctpStreams S) → OpensChannel m stream config id held p r held' p'
      → Stays held held'
  opens_stays (Some stream) (Some config) id held p r held' p' h =
      subst (Stays held) (sym h.1)
      (stays_rows held (rows_opened id held.rows) held.holds (length_opened id held.rows) (λ n below. below_opened n id held.rows below)
      (λ n rising. rising_opened n id held.rows rising) (λ n none. unconfirmed_opened n id held.rows none))
  opens_stays (Some stream) None id held p r held' p' h = stays_same held held' h.1
  opens_stays None config id held p r held' p' h = stays_same held held' h.1

  -- what follows was done, or is left out
  follows_stays : (did : Result (Unit {0}) AllocError) (next stopped : Type 0) (between held' : Channels) → (next → Stays between held')
      → (stopped → held' ≡ between) → Following did next stopped → Stays between held'
  follows_stays (Ok done) next stopped between held' goes_on ends h = goes_on h
  follows_stays (Err error) next stopped between held' goes_on ends h = stays_same between held' (ends h)

  all_opened_stay : (rows : List Channel) (held : Channels) (p : SctpStreams S) (r : Result (Unit {0}) AllocError) (held' : Channels)
      (p' : SctpStreams S) → OpensAll m rows held p r held' p' → Stays held held'
  all_opened_stay [] held p r held' p' h = stays_same held held' h.1
  all_opened_stay (channel ∷ rest) held p r held' p' h =
      stays_on held h.1 held' (opens_stays channel.stream channel.config channel.id held p h.0 h.1 h.2 h.3)
      (follows_stays h.0 (OpensAll m rest h.1 h.2 r held' p') ((r ≡ h.0) × (held' ≡ h.1) × (p' ≡ h.2)) h.1 held'
      (λ rests. all_opened_stay rest h.1 h.2 r held' p' rests) (λ stops. stops.1) h.4)

  progress_stays : (held : Channels) (p : SctpStreams S) (r : Result (Unit {0}) AllocError) (held' : Channels) (p' : SctpStreams S)
      → Progresses m held p r held' p' → Stays held held'
  progress_stays held p r held' p' h =
      stays_on held h.1 held' (allocates_stays (parity_of p.client) held h.0 h.1 h.2)
      (follows_stays h.0 (OpensAll m h.1.rows h.1 p r held' p') ((r ≡ h.0) × (held' ≡ h.1) × (p' ≡ p)) h.1 held'
      (λ rests. all_opened_stay h.1.rows h.1 p r held' p' rests) (λ stops. stops.1) h.3)

  -- no channel gets a number where a moment comes
  pub moment_stays : (due : Bool) (held : Channels) (p : SctpStreams S) (wake : Signals) (r : Result (Unit {0}) AllocError) (held' : Channels)
      (p' : SctpStreams S) (wake' : Signals) → MeetsMoment m due held p wake r held' p' wake' → Stays held held'
  moment_stays false held p wake r held' p' wake' h = stays_same held held' h.1
  moment_stays true held p wake r held' p' wake' h = progress_stays held p r held' p' h.0

-- ---- a channel for a stream that the other end opened

-- a channel that is found is one of the rows
found_below : (n stream id : ℕ) (rows : List Channel) → channel_of_stream stream (map numbered_stream rows) ≡ Some id → AreBelow n rows → id < n
found_below n stream id [] found below = cc (found)
found_below n stream id (channel ∷ rest) found below =
    by (is_of_stream stream channel.stream) found (λ later. found_below n stream id rest later below.1)
  where
    by : (here : Bool) → cond here (Some channel.id) (channel_of_stream stream (map numbered_stream rest)) ≡ Some id
        → (channel_of_stream stream (map numbered_stream rest) ≡ Some id → id < n) → id < n
    by true is later = let same : channel.id ≡ id = cc (is) in subst (λ k. k < n) same below.0
    by false is later = later is

-- and one is found where the last has the stream
last_found : (id stream : ℕ) (rows : List Channel) → channel_of_stream stream (map numbered_stream (rows ++ opened_by_other id stream ∷ [])) ≡ None
    → ⊥
last_found id stream [] none = by (stream == stream) (grind arith) none
  where
    by : (here : Bool) → here ≡ true → cond here (Some id) None ≡ None → ⊥
    by true is found = cc (found)
    by false is found = cc (is)
last_found id stream (channel ∷ rest) none = by (is_of_stream stream channel.stream) none (λ later. last_found id stream rest later)
  where
    by : (here : Bool)
        → cond here (Some channel.id) (channel_of_stream stream (map numbered_stream (rest ++ opened_by_other id stream ∷ []))) ≡ None
        → (channel_of_stream stream (map numbered_stream (rest ++ opened_by_other id stream ∷ [])) ≡ None → ⊥) → ⊥
    by true is later = cc (is)
    by false is later = later is

-- the channels with one more for a stream
abbrev with_opened : ℕ → Channels → Channels
with_opened stream held = record held { given = held.given + 1; rows = held.rows ++ opened_by_other held.given stream ∷ [] }

below_opened_by : (stream : ℕ) (held : Channels) → AreBelow held.given held.rows → AreBelow (held.given + 1) (with_opened stream held).rows
below_opened_by stream held below =
    below_one_more (held.given + 1) held.rows (opened_by_other held.given stream)
    (below_more held.given (held.given + 1) held.rows below (omega arith)) (omega arith)

pub unconfirmed_more : (n : ℕ) (rows : List Channel) (channel : Channel) → channel.confirmed ≡ false → AreUnconfirmed n rows
    → AreUnconfirmed n (rows ++ channel ∷ [])
unconfirmed_more n [] channel fresh none = (λ here. fresh, tt)
unconfirmed_more n (first ∷ rows) channel fresh none = (none.0, unconfirmed_more n rows channel fresh none.1)

-- a stream that is open has a channel: the number told is its own
pub opened_numbers : (stream id : ℕ) (held : Channels) → channel_over stream (channel_ensured stream held) ≡ Some id
    → ChannelNumbers (Some id) held (channel_ensured stream held)
opened_numbers stream id held found = by (is_ensured stream held) found
  where
    by : (ensured : Bool) → channel_over stream (cond ensured held (with_opened stream held)) ≡ Some id
        → ChannelNumbers (Some id) held (cond ensured held (with_opened stream held))
    by true is = record {
      rises = omega arith;
      unless_told = λ none. cc (none);
      one_more = omega arith;
      few_rows = omega arith;
      no_new_row = λ none. cc (none);
      below = λ below. below;
      rising = λ below rising. rising;
      told_below = λ below other told.
          let same : id ≡ other = cc (told) in subst (λ k. k < held.given) same (found_below held.given stream id held.rows is below);
      unconfirmed = λ n none. none;
    }
    by false is = record {
      rises = omega arith;
      unless_told = λ none. cc (none);
      one_more = omega arith;
      few_rows = omega (arith, length-append held.rows (opened_by_other held.given stream ∷ []));
      no_new_row = λ none. cc (none);
      below = λ below. below_opened_by stream held below;
      rising = λ below rising. rising_more 0 held.given held.rows (opened_by_other held.given stream) rising below (omega arith) refl;
      told_below = λ below other told.
          let same : id ≡ other = cc (told) in
          subst (λ k. k < held.given + 1) same
          (found_below (held.given + 1) stream id (with_opened stream held).rows is (below_opened_by stream held below));
      unconfirmed = λ n none. unconfirmed_more n held.rows (opened_by_other held.given stream) refl none;
    }

-- and where none is told, no number was left
pub unopened_stays : (stream : ℕ) (held : Channels) → channel_over stream (channel_ensured stream held) ≡ None
    → Stays held (channel_ensured stream held)
unopened_stays stream held found = by (is_ensured stream held) found
  where
    by : (ensured : Bool) → channel_over stream (cond ensured held (with_opened stream held)) ≡ None
        → Stays held (cond ensured held (with_opened stream held))
    by true is = stays_self held
    by false is = absurd (last_found held.given stream held.rows is)
