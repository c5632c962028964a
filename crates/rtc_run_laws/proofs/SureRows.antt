-- Rows of channels of which each that has a config was confirmed: as rows are put behind others, go, are given streams, opened and confirmed.
use Rattle.std.proofs.Common.{◌≡◌, inl, inr, ◌+◌, ◌<◌, ◌++◌, ◌∷◌, ◌==◌, ◌||◌, ◌&&◌, if◌then◌else◌, ℕ, Bool, true, false, true≢false, List, [], Option, Some, None, refl, sym, arith}
use Rattle.std.specs.Prelude.{is_some, not}
use Rattle.std.proofs.lemmas.Bool.{eqb-true, ne_eqb}
use Rattle.rtc_wire.specs.declared.channel_config.ChannelConfig.{ChannelConfig}
use Rattle.rtc_channels.specs.Allocation.{all_allocated, channel_ensured, is_ensured, opened_by_other, rows_given, sought_by, stream_given}
use Rattle.rtc_channels.specs.Channels.{AreRising, Channel, Channels, all_confirmed, has_channel_id, rows_confirmed, unconfirmed, with_channel}
use Rattle.rtc_channels.specs.Holds.{channels_without, is_unconfirmed}
use Rattle.rtc_channels.specs.Openings.{rows_opened}
use Rattle.rtc_run_laws.proofs.OwnedRows.{HasOver}

abbrev pub AreSureRows : List Channel → Type 0
AreSureRows [] = Unit {0}
AreSureRows (row ∷ rows) = (is_some row.config ≡ true → row.confirmed ≡ true) × AreSureRows rows

-- behind others
sure_more : (rows : List Channel) (row : Channel) → (is_some row.config ≡ true → row.confirmed ≡ true) → AreSureRows rows → AreSureRows (rows ++ row ∷ [])
sure_more [] row own h = (own, tt)
sure_more (first ∷ rows) row own h = (h.0, sure_more rows row own h.1)

pub ensured_sure : (stream : ℕ) (held : Channels) → AreSureRows held.rows → AreSureRows (channel_ensured stream held).rows
ensured_sure stream held h = by (is_ensured stream held)
  where
    by : (b : Bool)
        → AreSureRows (if b then held else record held { given = held.given + 1; rows = held.rows ++ opened_by_other held.given stream ∷ [] }).rows
    by true = h
    by false = sure_more held.rows (opened_by_other held.given stream) (λ e. absurd (true≢false (sym e))) h

pub made_sure : (held : Channels) (config : ChannelConfig) → AreSureRows held.rows → AreSureRows (with_channel held config).rows
made_sure held config h = sure_more held.rows (unconfirmed held.given config) (λ e. absurd (true≢false (sym e))) h

-- a row goes
pub without_sure : (id : ℕ) (rows : List Channel) → AreSureRows rows → AreSureRows (channels_without id rows)
without_sure id [] h = tt
without_sure id (row ∷ rows) h = by (has_channel_id id row) (without_sure id rows h.1)
  where
    by : (b : Bool) → AreSureRows (channels_without id rows) → AreSureRows (if b then rows else row ∷ channels_without id rows)
    by true rest = h.1
    by false rest = (h.0, rest)

-- a config is passed on
pub opened_sure : (id : ℕ) (rows : List Channel) → AreSureRows rows → AreSureRows (rows_opened id rows)
opened_sure id [] h = tt
opened_sure id (row ∷ rows) h = by (has_channel_id id row) (opened_sure id rows h.1)
  where
    by : (b : Bool) → AreSureRows (rows_opened id rows)
        → AreSureRows (if b then record row { config = None } ∷ rows else row ∷ rows_opened id rows)
    by true rest = ((λ e. absurd (true≢false (sym e))), h.1)
    by false rest = (h.0, rest)

-- channels are confirmed
confirmed_one : (id : ℕ) (config : ChannelConfig) (rows : List Channel) → AreSureRows rows → AreSureRows (rows_confirmed id config rows)
confirmed_one id config [] h = tt
confirmed_one id config (row ∷ rows) h = by (has_channel_id id row) (confirmed_one id config rows h.1)
  where
    by : (b : Bool) → AreSureRows (rows_confirmed id config rows)
        → AreSureRows (if b then record row { config = Some config; confirmed = true } ∷ rows else row ∷ rows_confirmed id config rows)
    by true rest = ((λ e. refl), h.1)
    by false rest = (h.0, rest)

pub confirmed_sure : (channels : List (ℕ × ChannelConfig)) (held : Channels) → AreSureRows held.rows → AreSureRows (all_confirmed channels held).rows
confirmed_sure [] held h = h
confirmed_sure (channel ∷ rest) held h =
    confirmed_sure rest (record held { rows = rows_confirmed channel.0 channel.1 held.rows }) (confirmed_one channel.0 channel.1 held.rows h)

-- rows are given streams
given_sure : (id s : ℕ) (rows : List Channel) → AreSureRows rows → AreSureRows (rows_given id s rows)
given_sure id s [] h = tt
given_sure id s (row ∷ rows) h = by (has_channel_id id row) (given_sure id s rows h.1)
  where
    by : (b : Bool) → AreSureRows (rows_given id s rows) → AreSureRows (if b then record row { stream = Some s } ∷ rows else row ∷ rows_given id s rows)
    by true rest = h
    by false rest = (h.0, rest)

pub allocated_sure : (parity : ℕ) (channels : List Channel) (held : Channels) → AreSureRows held.rows
    → AreSureRows (all_allocated parity channels held).rows
allocated_sure parity [] held h = h
allocated_sure parity (channel ∷ rest) held h = by (sought_by parity held channel) (λ other k. allocated_sure parity rest other k)
  where
    by : (o : Option ℕ) → ((other : Channels) → AreSureRows other.rows → AreSureRows (all_allocated parity rest other).rows)
        → AreSureRows (all_allocated parity rest (stream_given channel.id o held)).rows
    by None go = go held h
    by (Some t) go = go (record held { rows = rows_given channel.id t held.rows }) (given_sure channel.id t held.rows h)

-- ---- the row of a channel that was never confirmed goes

past_ids : (least id : ℕ) (rows : List Channel) → AreRising least rows → id < least → is_unconfirmed id rows ≡ false
past_ids least id [] rising past = refl
past_ids least id (row ∷ rows) rising past =
    by (row.id == id) (ne_eqb row.id id (λ e. omega (arith, rising.0, past, e))) (past_ids (row.id + 1) id rows rising.1 (omega (arith, rising.0, past)))
  where
    by : (b : Bool) → b ≡ false → is_unconfirmed id rows ≡ false → ((b && not row.confirmed) || is_unconfirmed id rows) ≡ false
    by true e rest = absurd (true≢false e)
    by false e rest = rest

first_unsure : (confirmed rest : Bool) → (not confirmed || rest) ≡ true → rest ≡ false → confirmed ≡ true → ⊥
first_unsure true true h none sure = true≢false none
first_unsure true false h none sure = true≢false (sym h)
first_unsure false rest h none sure = true≢false (sym sure)

-- so that a confirmed one over a stream stays
pub unsure_left : (f : Option ℕ → Bool → Type 0) (s least id : ℕ) (rows : List Channel) → ((n : Option ℕ) (b : Bool) → f n b → b ≡ true)
    → AreRising least rows → is_unconfirmed id rows ≡ true → HasOver f s rows → HasOver f s (channels_without id rows)
unsure_left f s least id [] sure rising found h = absurd h
unsure_left f s least id (row ∷ rows) sure rising found h =
    by (row.id == id) refl found h (λ e k. unsure_left f s (row.id + 1) id rows sure rising.1 e k)
  where
    by : (b : Bool) → (row.id == id) ≡ b → ((b && not row.confirmed) || is_unconfirmed id rows) ≡ true → HasOver f s (row ∷ rows)
        → (is_unconfirmed id rows ≡ true → HasOver f s rows → HasOver f s (channels_without id rows))
        → HasOver f s (if b then rows else row ∷ channels_without id rows)
    by true e test (inl k) rest =
        let same = eqb-true row.id id e in
        absurd
        (first_unsure row.confirmed (is_unconfirmed id rows) test (past_ids (row.id + 1) id rows rising.1 (omega (arith, same)))
        (sure row.negotiated row.confirmed k.1))
    by true e test (inr k) rest = k
    by false e test (inl k) rest = inl k
    by false e test (inr k) rest = inr (rest test k)
