-- The row of a channel that has a config, where rows are put behind others, go, are given streams, opened and confirmed.
use Rattle.std.proofs.Common.{◌≡◌, ◌∙◌, ◌⊎◌, inl, inr, ◌+◌, ◌++◌, ◌∷◌, if◌then◌else◌, ℕ, Bool, true, false, true≢false, List, [], map, Option, Some, None, refl, sym, subst, arith}
use Rattle.std.proofs.lemmas.Bool.{eqb-true}
use Rattle.rtc_wire.specs.declared.channel_config.ChannelConfig.{ChannelConfig}
use Rattle.rtc_channels.specs.Allocation.{AreUnshared, IsUnshared, all_allocated, channel_ensured, is_ensured, opened_by_other, rows_given, sought_by, stream_given}
use Rattle.rtc_channels.specs.Channels.{Channel, Channels, all_confirmed, has_channel_id, is_of_stream, numbered_stream, rows_confirmed, unconfirmed, with_channel}
use Rattle.rtc_channels.specs.Holds.{channels_without}
use Rattle.rtc_channels.specs.Openings.{config_handed, rows_opened}
use Rattle.rtc_peer_polling.specs.StreamStages.{channel_over}
use Rattle.rtc_peer_laws.proofs.ChannelsOver.{over_rows}
use Rattle.rtc_run_laws.specs.ConfirmedChannels.{HasConfig}

no_some : (c : ℕ) → None ≡ Some c → ⊥
no_some c h = cc

-- behind others
pub config_front : (c : ℕ) (rows more : List Channel) → HasConfig c rows → HasConfig c (rows ++ more)
config_front c [] more h = absurd h
config_front c (row ∷ rows) more (inl h) = inl h
config_front c (row ∷ rows) more (inr h) = inr (config_front c rows more h)

pub config_ensured : (c stream : ℕ) (held : Channels) → HasConfig c held.rows → HasConfig c (channel_ensured stream held).rows
config_ensured c stream held h = by (is_ensured stream held)
  where
    by : (b : Bool) → HasConfig c (if b then held else record held { given = held.given + 1; rows = held.rows ++ opened_by_other held.given stream ∷ [] }).rows
    by true = h
    by false = config_front c held.rows (opened_by_other held.given stream ∷ []) h

-- the row of another channel goes
pub config_without : (c id : ℕ) (rows : List Channel) → (id ≡ c → ⊥) → HasConfig c rows → HasConfig c (channels_without id rows)
config_without c id [] ne h = absurd h
config_without c id (row ∷ rows) ne h = by (has_channel_id id row) refl h (config_without c id rows ne)
  where
    by : (b : Bool) → has_channel_id id row ≡ b → HasConfig c (row ∷ rows) → (HasConfig c rows → HasConfig c (channels_without id rows))
        → HasConfig c (if b then rows else row ∷ channels_without id rows)
    by true e (inl k) rest = absurd (ne (sym (eqb-true row.id id e) ∙ k.0))
    by true e (inr k) rest = k
    by false e (inl k) rest = inl k
    by false e (inr k) rest = inr (rest k)

-- rows are given streams
config_given : (c id s : ℕ) (rows : List Channel) → HasConfig c rows → HasConfig c (rows_given id s rows)
config_given c id s [] h = absurd h
config_given c id s (row ∷ rows) h = by (has_channel_id id row) h (config_given c id s rows)
  where
    by : (b : Bool) → HasConfig c (row ∷ rows) → (HasConfig c rows → HasConfig c (rows_given id s rows))
        → HasConfig c (if b then record row { stream = Some s } ∷ rows else row ∷ rows_given id s rows)
    by true (inl k) rest = inl k
    by true (inr k) rest = inr k
    by false (inl k) rest = inl k
    by false (inr k) rest = inr (rest k)

pub config_allocated : (parity c : ℕ) (channels : List Channel) (held : Channels) → HasConfig c held.rows
    → HasConfig c (all_allocated parity channels held).rows
config_allocated parity c [] held h = h
config_allocated parity c (channel ∷ rest) held h = by (sought_by parity held channel) (λ other k. config_allocated parity c rest other k)
  where
    by : (o : Option ℕ) → ((other : Channels) → HasConfig c other.rows → HasConfig c (all_allocated parity rest other).rows)
        → HasConfig c (all_allocated parity rest (stream_given channel.id o held)).rows
    by None go = go held h
    by (Some t) go = go (record held { rows = rows_given channel.id t held.rows }) (config_given c channel.id t held.rows h)

-- the config of a row is handed on
handed_rows : (c id : ℕ) (rows : List Channel) → HasConfig c rows → HasConfig c (rows_opened id rows) ⊎ (id ≡ c)
handed_rows c id [] h = absurd h
handed_rows c id (row ∷ rows) h = by (has_channel_id id row) refl h (handed_rows c id rows)
  where
    later : HasConfig c (rows_opened id rows) ⊎ (id ≡ c) → HasConfig c (row ∷ rows_opened id rows) ⊎ (id ≡ c)
    later (inl k) = inl (inr k)
    later (inr k) = inr k

    by : (b : Bool) → has_channel_id id row ≡ b → HasConfig c (row ∷ rows) → (HasConfig c rows → HasConfig c (rows_opened id rows) ⊎ (id ≡ c))
        → HasConfig c (if b then record row { config = None } ∷ rows else row ∷ rows_opened id rows) ⊎ (id ≡ c)
    by true e (inl k) rest = inr (sym (eqb-true row.id id e) ∙ k.0)
    by true e (inr k) rest = inl (inr k)
    by false e (inl k) rest = inl (inl k)
    by false e (inr k) rest = later (rest k)

pub config_opened : (c id : ℕ) (held : Channels) → HasConfig c held.rows → HasConfig c (config_handed id held).rows ⊎ (id ≡ c)
config_opened c id held h = handed_rows c id held.rows h

-- rows are confirmed
confirmed_rows : (c id : ℕ) (config : ChannelConfig) (rows : List Channel) → HasConfig c rows → HasConfig c (rows_confirmed id config rows)
confirmed_rows c id config [] h = absurd h
confirmed_rows c id config (row ∷ rows) h = by (has_channel_id id row) h (confirmed_rows c id config rows)
  where
    by : (b : Bool) → HasConfig c (row ∷ rows) → (HasConfig c rows → HasConfig c (rows_confirmed id config rows))
        → HasConfig c (if b then record row { config = Some config; confirmed = true } ∷ rows else row ∷ rows_confirmed id config rows)
    by true (inl k) rest = inl (k.0, refl)
    by true (inr k) rest = inr k
    by false (inl k) rest = inl k
    by false (inr k) rest = inr (rest k)

pub config_confirmed : (c : ℕ) (channels : List (ℕ × ChannelConfig)) (held : Channels) → HasConfig c held.rows
    → HasConfig c (all_confirmed channels held).rows
config_confirmed c [] held h = h
config_confirmed c (channel ∷ rest) held h =
    config_confirmed c rest (record held { rows = rows_confirmed channel.0 channel.1 held.rows }) (confirmed_rows c channel.0 channel.1 held.rows h)

pub config_made : (c : ℕ) (held : Channels) (config : ChannelConfig) → HasConfig c held.rows → HasConfig c (with_channel held config).rows
config_made c held config h = config_front c held.rows (unconfirmed held.given config ∷ []) h

-- ---- rows are found by their streams

-- each of these channels that has a stream is found by it
abbrev pub AreFound : List Channel → Channels → Type 0
AreFound [] held = Unit {0}
AreFound (row ∷ rows) held = ((s : ℕ) → row.stream ≡ Some s → channel_over s held ≡ Some row.id) × AreFound rows held

own_stream : (s : ℕ) (o : Option ℕ) → o ≡ Some s → is_of_stream s o ≡ true
own_stream s None h = absurd (no_some s h)
own_stream s (Some t) h = let same : t ≡ s = cc (h) in grind (arith, same)

found_first : (s : ℕ) (row : Channel) (rows : List Channel) → row.stream ≡ Some s → over_rows s (row ∷ rows) ≡ Some row.id
found_first s row rows h = by (is_of_stream s row.stream) (own_stream s row.stream h)
  where
    by : (b : Bool) → b ≡ true → (if b then Some row.id else over_rows s rows) ≡ Some row.id
    by true e = refl
    by false e = absurd (true≢false (sym e))

-- in front of rows that have other streams
found_behind : (s c : ℕ) (row : Channel) (rows : List Channel) → IsUnshared row.stream (map numbered_stream rows) → over_rows s rows ≡ Some c
    → over_rows s (row ∷ rows) ≡ Some c
found_behind s c row rows apart h = by (is_of_stream s row.stream) refl
  where
    shared : (o : Option ℕ) → row.stream ≡ o → is_of_stream s o ≡ true → IsUnshared o (map numbered_stream rows) → ⊥
    shared None e f u = true≢false (sym f)
    shared (Some t) e f u = no_some c (sym (subst (λ (n : ℕ). over_rows n rows ≡ None) (eqb-true t s f) u) ∙ h)

    by : (b : Bool) → is_of_stream s row.stream ≡ b → (if b then Some row.id else over_rows s rows) ≡ Some c
    by true e = absurd (shared row.stream refl e apart)
    by false e = h

found_in : (channels : List Channel) (held : Channels) → AreUnshared (map numbered_stream channels)
    → ((s c : ℕ) → over_rows s channels ≡ Some c → channel_over s held ≡ Some c) → AreFound channels held
found_in [] held h f = tt
found_in (row ∷ channels) held h f = (
  λ s e. f s row.id (found_first s row channels e),
  found_in channels held h.1 (λ s c e. f s c (found_behind s c row channels h.0 e)),
)

pub found_all : (held : Channels) → AreUnshared (map numbered_stream held.rows) → AreFound held.rows held
found_all held h = found_in held.rows held h (λ s c e. e)

pub found_on : (rows : List Channel) (held held' : Channels) → ((s c : ℕ) → channel_over s held ≡ Some c → channel_over s held' ≡ Some c)
    → AreFound rows held → AreFound rows held'
found_on [] held held' f h = tt
found_on (row ∷ rows) held held' f h = ((λ s e. f s row.id (h.0 s e)), found_on rows held held' f h.1)
