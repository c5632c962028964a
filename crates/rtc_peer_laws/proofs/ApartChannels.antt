-- No two rows have one stream, where rows are given streams, opened, confirmed and added.
use Rattle.std.proofs.Common.{if◌then◌else◌, ◌≡◌, ◌∷◌, ◌==◌, ◌||◌, ℕ, Bool, true, false, true≢false, List, [], map, Option, Some, None, refl, sym, ap, subst, ◌∙◌, arith}
use Rattle.std.proofs.lemmas.Bool.{ne_eqb}
use Rattle.std.proofs.lemmas.List.{map-append}
use Rattle.rtc_wire.specs.declared.channel_config.ChannelConfig.{ChannelConfig}
use Rattle.rtc_channels.specs.Channels.{Channel, Channels, has_channel_id, is_of_stream, numbered_stream, unconfirmed, with_channel, rows_confirmed}
use Rattle.rtc_channels.specs.Allocation.{AreUnshared, IsUnshared, is_given, rows_given}
use Rattle.rtc_channels.specs.Openings.{rows_opened}
use Rattle.rtc_channels.proofs.RowLemmas.{unshared_more}
use Rattle.rtc_peer_laws.proofs.ChannelsOver.{over_rows}
use Rattle.rtc_peer_laws.proofs.UnsharedRows.{AreApart, ungiven}

some_none : (c : ℕ) → Some c ≡ None → ⊥
some_none c h = cc

or_false : (a b : Bool) → (a || b) ≡ false → (a ≡ false) × (b ≡ false)
or_false true b h = absurd (true≢false h)
or_false false b h = (refl, h)

-- another stream stays without a channel
unowned_given : (s t id : ℕ) (rows : List Channel) → (t ≡ s → ⊥) → over_rows s rows ≡ None → over_rows s (rows_given id t rows) ≡ None
unowned_given s t id [] ne h = refl
unowned_given s t id (row ∷ rows) ne h = by (is_of_stream s row.stream) (has_channel_id id row) refl h (unowned_given s t id rows ne)
  where
    kept : (c : Bool) (l : List Channel) → c ≡ false → over_rows s l ≡ None → (if c then Some row.id else over_rows s l) ≡ None
    kept true l e k = absurd (true≢false e)
    kept false l e k = k

    by : (a d : Bool) → is_of_stream s row.stream ≡ a → (if a then Some row.id else over_rows s rows) ≡ None
        → (over_rows s rows ≡ None → over_rows s (rows_given id t rows) ≡ None)
        → over_rows s (if d then record row { stream = Some t } ∷ rows else row ∷ rows_given id t rows) ≡ None
    by true d e k rest = absurd (some_none row.id k)
    by false true e k rest = kept (t == s) rows (ne_eqb t s ne) k
    by false false e k rest = kept (is_of_stream s row.stream) (rows_given id t rows) e (rest k)

pub given_apart : (id t : ℕ) (rows : List Channel) → is_given t rows ≡ false → AreApart rows → AreApart (rows_given id t rows)
given_apart id t [] free h = tt
given_apart id t (row ∷ rows) free h = by (has_channel_id id row) (given_apart id t rows (or_false (is_of_stream t row.stream) (is_given t rows) free).1 h.1)
  where
    own : (o : Option ℕ) → is_of_stream t o ≡ false → IsUnshared o (map numbered_stream rows) → IsUnshared o (map numbered_stream (rows_given id t rows))
    own None f k = tt
    own (Some s) f k = unowned_given s t id rows (λ e. true≢false (sym (let same : (s == t) ≡ true = grind (arith, e) in same) ∙ f)) k

    by : (d : Bool) → AreApart (rows_given id t rows) → AreApart (if d then record row { stream = Some t } ∷ rows else row ∷ rows_given id t rows)
    by true rest = (ungiven t rows (or_false (is_of_stream t row.stream) (is_given t rows) free).1, h.1)
    by false rest = (own row.stream (or_false (is_of_stream t row.stream) (is_given t rows) free).0 h.0, rest)

-- a config that is handed on leaves the streams
pub opened_streams : (id : ℕ) (rows : List Channel) → map numbered_stream (rows_opened id rows) ≡ map numbered_stream rows
opened_streams id [] = refl
opened_streams id (row ∷ rows) = by (row.id == id) (opened_streams id rows)
  where
    by : (b : Bool) → map numbered_stream (rows_opened id rows) ≡ map numbered_stream rows
        → map numbered_stream (if b then record row { config = None } ∷ rows else row ∷ rows_opened id rows) ≡ numbered_stream row ∷ map numbered_stream rows
    by true e = refl
    by false e = ap (λ l. numbered_stream row ∷ l) e

pub opened_apart : (id : ℕ) (rows : List Channel) → AreApart rows → AreApart (rows_opened id rows)
opened_apart id rows h = subst AreUnshared (sym (opened_streams id rows)) h

confirmed_streams : (id : ℕ) (config : ChannelConfig) (rows : List Channel) → map numbered_stream (rows_confirmed id config rows) ≡ map numbered_stream rows
confirmed_streams id config [] = refl
confirmed_streams id config (row ∷ rows) = by (has_channel_id id row) (confirmed_streams id config rows)
  where
    by : (b : Bool) → map numbered_stream (rows_confirmed id config rows) ≡ map numbered_stream rows
        → map numbered_stream (if b then record row { config = Some config; confirmed = true } ∷ rows else row ∷ rows_confirmed id config rows) ≡ numbered_stream row ∷ map numbered_stream rows
    by true e = refl
    by false e = ap (λ l. numbered_stream row ∷ l) e

pub confirmed_apart : (id : ℕ) (config : ChannelConfig) (rows : List Channel) → AreApart rows → AreApart (rows_confirmed id config rows)
confirmed_apart id config rows h = subst AreUnshared (sym (confirmed_streams id config rows)) h

pub made_apart : (held : Channels) (config : ChannelConfig) → AreApart held.rows → AreApart (with_channel held config).rows
made_apart held config h =
    subst AreUnshared (sym (map-append numbered_stream held.rows (unconfirmed held.given config ∷ [])))
    (unshared_more (map numbered_stream held.rows) held.given h)
