-- Rows of channels of which none is settled for one stream by other means than messages; each has the stream that was settled for it, if one was, and is
-- opened as it was added: as rows are put behind others, go, are given streams, opened and confirmed.
use Rattle.std.proofs.Common.{◌≡◌, ◌∙◌, ◌+◌, ◌++◌, ◌==◌, ◌∷◌, if◌then◌else◌, ℕ, Bool, true, false, List, [], Option, Some, None, refl, sym, ap, subst}
use Rattle.std.proofs.lemmas.Bool.{eqb-true}
use Rattle.rtc_wire.specs.declared.channel_config.ChannelConfig.{ChannelConfig}
use Rattle.rtc_channels.specs.Allocation.{all_allocated, channel_ensured, is_ensured, is_taken, opened_by_other, rows_given, sought_by, stream_for, stream_given, stream_sought}
use Rattle.rtc_channels.specs.Channels.{AreRising, Channel, Channels, all_confirmed, has_channel_id, rows_confirmed, unconfirmed, with_channel}
use Rattle.rtc_channels.specs.Holds.{all_cancelled, cancelled_if, channels_without, is_unconfirmed}
use Rattle.rtc_channels.specs.Openings.{rows_opened}
use Rattle.rtc_run_laws.specs.OwnOpenings.{IsInBandChannel}
use Rattle.rtc_run_laws.proofs.NumberedRows.{AreRowsOf}
use Rattle.rtc_run_laws.proofs.NumberedTokens.{AreChannelsWith, channels_map}
use Rattle.rtc_run_laws.proofs.OwnNumbers.{IsAddedNumber, IsAddedRow, confirmed_added}
use Rattle.rtc_run_laws.proofs.OwnedAllocation.{AreSettledAs, settled_all, settled_given, settled_under}

no_some : (n : ℕ) → None ≡ Some n → ⊥
no_some n h = cc

some_is : (a b : ℕ) → Some a ≡ Some b → a ≡ b
some_is a b h = cc

no_config : (config : ChannelConfig) → None ≡ Some config → ⊥
no_config config h = cc

config_is : (a b : ChannelConfig) → Some a ≡ Some b → a ≡ b
config_is a b h = cc

-- A row is not settled for the stream by other means; it has no stream but the one that was settled for it, if one was; and it is to be opened as it was
-- settled.
abbrev pub IsBandedRow : (stream : ℕ) → Channel → Type 0
IsBandedRow s row =
    (row.negotiated ≡ Some s → ⊥)
    × ((n t : ℕ) → row.negotiated ≡ Some n → row.stream ≡ Some t → n ≡ t)
    × ((config : ChannelConfig) → row.config ≡ Some config → config.negotiated ≡ row.negotiated)

abbrev pub AreBandedRows : (stream : ℕ) → List Channel → Type 0
AreBandedRows s [] = Unit {0}
AreBandedRows s (row ∷ rows) = IsBandedRow s row × AreBandedRows s rows

-- a row over the stream is in-band
in_band : (s : ℕ) (row : Channel) → IsBandedRow s row → row.stream ≡ Some s → row.negotiated ≡ None
in_band s row h is = by row.negotiated refl
  where
    by : (o : Option ℕ) → row.negotiated ≡ o → row.negotiated ≡ None
    by None e = e
    by (Some n) e = absurd (h.0 (e ∙ ap (λ (k : ℕ). Some k) (h.1 n s e is)))

pub banded_in_band : (s : ℕ) (rows : List Channel) → AreBandedRows s rows → IsInBandChannel s rows
banded_in_band s [] h = tt
banded_in_band s (row ∷ rows) h = ((λ is. in_band s row h.0 is), banded_in_band s rows h.1)

-- and is opened so
pub banded_opening : (s : ℕ) (row : Channel) → IsBandedRow s row → row.stream ≡ Some s → (config : ChannelConfig) → row.config ≡ Some config
    → config.negotiated ≡ None
banded_opening s row h is config found = h.2 config found ∙ in_band s row h is

module _ (s : ℕ) where
  -- behind others
  banded_more : (rows : List Channel) (row : Channel) → IsBandedRow s row → AreBandedRows s rows → AreBandedRows s (rows ++ row ∷ [])
  banded_more [] row own h = (own, tt)
  banded_more (first ∷ rows) row own h = (h.0, banded_more rows row own h.1)

  pub ensured_banded : (stream : ℕ) (held : Channels) → AreBandedRows s held.rows → AreBandedRows s (channel_ensured stream held).rows
  ensured_banded stream held h = by (is_ensured stream held)
    where
      by : (b : Bool)
          → AreBandedRows s (if b then held else record held { given = held.given + 1; rows = held.rows ++ opened_by_other held.given stream ∷ [] }).rows
      by true = h
      by false =
          banded_more held.rows (opened_by_other held.given stream)
          ((λ is. no_some s is), (λ n t is of. absurd (no_some n is)), (λ config is. absurd (no_config config is))) h

  pub made_banded : (held : Channels) (config : ChannelConfig) → (config.negotiated ≡ Some s → ⊥) → AreBandedRows s held.rows
      → AreBandedRows s (with_channel held config).rows
  made_banded held config other h =
      banded_more held.rows (unconfirmed held.given config)
      (other, (λ n t is of. absurd (no_some t of)), (λ found is. absurd (no_config found is))) h

  -- a row goes
  pub without_banded : (id : ℕ) (rows : List Channel) → AreBandedRows s rows → AreBandedRows s (channels_without id rows)
  without_banded id [] h = tt
  without_banded id (row ∷ rows) h = by (has_channel_id id row) (without_banded id rows h.1)
    where
      by : (b : Bool) → AreBandedRows s (channels_without id rows) → AreBandedRows s (if b then rows else row ∷ channels_without id rows)
      by true rest = h.1
      by false rest = (h.0, rest)

  pub cancelled_banded : (channels : List (ℕ × ChannelConfig)) (held : Channels) → AreBandedRows s held.rows
      → AreBandedRows s (all_cancelled channels held).rows
  cancelled_banded [] held h = h
  cancelled_banded (channel ∷ rest) held h =
      cancelled_banded rest (cancelled_if (is_unconfirmed channel.0 held.rows) channel.0 held) (by (is_unconfirmed channel.0 held.rows))
    where
      by : (b : Bool) → AreBandedRows s (cancelled_if b channel.0 held).rows
      by true = without_banded channel.0 held.rows h
      by false = h

  -- a config is handed on
  pub opened_banded : (id : ℕ) (rows : List Channel) → AreBandedRows s rows → AreBandedRows s (rows_opened id rows)
  opened_banded id [] h = tt
  opened_banded id (row ∷ rows) h = by (has_channel_id id row) (opened_banded id rows h.1)
    where
      by : (b : Bool) → AreBandedRows s (rows_opened id rows)
          → AreBandedRows s (if b then record row { config = None } ∷ rows else row ∷ rows_opened id rows)
      by true rest = ((h.0.0, h.0.1, (λ config is. absurd (no_config config is))), h.1)
      by false rest = (h.0, rest)

  -- channels are confirmed, with the configs that they were added with
  confirmed_one : (c : Bool) (id : ℕ) (config : ChannelConfig) (rows : List Channel) → AreRowsOf (IsAddedRow c config) id rows → AreBandedRows s rows
      → AreBandedRows s (rows_confirmed id config rows)
  confirmed_one c id config [] added h = tt
  confirmed_one c id config (row ∷ rows) added h = by (row.id == id) refl (confirmed_one c id config rows added.1 h.1)
    where
      by : (b : Bool) → (row.id == id) ≡ b → AreBandedRows s (rows_confirmed id config rows)
          → AreBandedRows s (if b then record row { config = Some config; confirmed = true } ∷ rows else row ∷ rows_confirmed id config rows)
      by true e rest = (
        (
          h.0.0,
          h.0.1,
          (λ found is.
              subst (λ (x : ChannelConfig). x.negotiated ≡ row.negotiated) (config_is config found is) (sym (added.0 (eqb-true row.id id e)).0)),
        ),
        h.1,
      )
      by false e rest = (h.0, rest)

  pub confirmed_banded : (c : Bool) (channels : List (ℕ × ChannelConfig)) (held : Channels)
      → AreChannelsWith (λ n config. IsAddedNumber c n config held) channels → AreBandedRows s held.rows
      → AreBandedRows s (all_confirmed channels held).rows
  confirmed_banded c [] held added h = h
  confirmed_banded c (channel ∷ rest) held added h =
      confirmed_banded c rest (record held { rows = rows_confirmed channel.0 channel.1 held.rows })
      (channels_map (λ n config. IsAddedNumber c n config held)
      (λ n config. IsAddedNumber c n config (record held { rows = rows_confirmed channel.0 channel.1 held.rows })) rest
      (λ n config k. confirmed_added c n config (channel ∷ []) held k) added.1)
      (confirmed_one c channel.0 channel.1 held.rows added.0.rows h)

  -- rows are given streams
  sought_own : (parity t n : ℕ) (held : Channels) (channel : Channel) → sought_by parity held channel ≡ Some t → channel.negotiated ≡ Some n → n ≡ t
  sought_own parity t n held channel is settled = by channel.stream is
    where
      taken : (b : Bool) → (if b then None else Some n) ≡ Some t → n ≡ t
      taken true e = absurd (no_some t e)
      taken false e = some_is n t e

      by : (stream : Option ℕ) → stream_sought stream channel.negotiated parity held ≡ Some t → n ≡ t
      by None e = taken (is_taken n held) (subst (λ (o : Option ℕ). stream_for o parity held ≡ Some t) settled e)
      by (Some own) e = absurd (no_some t e)

  given_banded : (id t : ℕ) (rows : List Channel) → ((n : ℕ) → settled_under id rows ≡ Some n → n ≡ t) → AreBandedRows s rows
      → AreBandedRows s (rows_given id t rows)
  given_banded id t [] own h = tt
  given_banded id t (row ∷ rows) own h = by (row.id == id) own (λ f. given_banded id t rows f h.1)
    where
      by : (b : Bool) → ((n : ℕ) → (if b then row.negotiated else settled_under id rows) ≡ Some n → n ≡ t)
          → (((n : ℕ) → settled_under id rows ≡ Some n → n ≡ t) → AreBandedRows s (rows_given id t rows))
          → AreBandedRows s (if b then record row { stream = Some t } ∷ rows else row ∷ rows_given id t rows)
      by true f rest = ((h.0.0, (λ n u is of. f n is ∙ some_is t u of), h.0.2), h.1)
      by false f rest = (h.0, rest f)

  banded_from : (parity : ℕ) (channels : List Channel) (held : Channels) → AreSettledAs channels held.rows → AreBandedRows s held.rows
      → AreBandedRows s (all_allocated parity channels held).rows
  banded_from parity [] held settled h = h
  banded_from parity (channel ∷ rest) held settled h =
      by (sought_by parity held channel) refl (λ other k o. banded_from parity rest other k o)
    where
      by : (o : Option ℕ) → sought_by parity held channel ≡ o
          → ((other : Channels) → AreSettledAs rest other.rows → AreBandedRows s other.rows → AreBandedRows s (all_allocated parity rest other).rows)
          → AreBandedRows s (all_allocated parity rest (stream_given channel.id o held)).rows
      by None e go = go held settled.1 h
      by (Some t) e go =
          go (record held { rows = rows_given channel.id t held.rows }) (settled_given channel.id t rest held.rows settled.1)
          (given_banded channel.id t held.rows (λ n is. sought_own parity t n held channel e (sym settled.0 ∙ is)) h)

  pub allocated_banded : (parity : ℕ) (held : Channels) → AreRising 0 held.rows → AreBandedRows s held.rows
      → AreBandedRows s (all_allocated parity held.rows held).rows
  allocated_banded parity held rising h = banded_from parity held.rows held (settled_all 0 held.rows rising) h
