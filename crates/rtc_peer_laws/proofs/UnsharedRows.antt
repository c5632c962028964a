-- No two rows of channels have one stream, where rows are put behind others and go.
use Rattle.std.proofs.Common.{if◌then◌else◌, ◌≡◌, ◌++◌, ◌∷◌, ◌==◌, ◌||◌, ◌+◌, ◌-◌, ◌^◌, ℕ, Bool, true, false, true≢false, List, [], map, Option, Some, None, refl, sym, subst}
use Rattle.std.proofs.lemmas.List.{map-append}
use Rattle.rtc_channels.specs.Channels.{Channel, Channels, has_channel_id, is_of_stream, numbered_stream}
use Rattle.rtc_channels.specs.Allocation.{AreUnshared, IsUnshared, channel_ensured, is_given, opened_by_other}
use Rattle.rtc_channels.specs.Holds.{channels_without}
use Rattle.rtc_channels.proofs.RowLemmas.{unshared_pushed}
use Rattle.rtc_peer_laws.proofs.ChannelsOver.{over_rows}

abbrev pub AreApart : List Channel → Type 0
AreApart rows = AreUnshared (map numbered_stream rows)

some_none : (c : ℕ) → Some c ≡ None → ⊥
some_none c h = cc

-- a stream that no row was given has no channel
pub ungiven : (s : ℕ) (rows : List Channel) → is_given s rows ≡ false → over_rows s rows ≡ None
ungiven s [] h = refl
ungiven s (row ∷ rows) h = by (is_of_stream s row.stream) h (ungiven s rows)
  where
    by : (b : Bool) → (b || is_given s rows) ≡ false → (is_given s rows ≡ false → over_rows s rows ≡ None) → (if b then Some row.id else over_rows s rows) ≡ None
    by true k rest = absurd (true≢false k)
    by false k rest = rest k

pub ensured_apart : (stream : ℕ) (held : Channels) → AreApart held.rows → AreApart (channel_ensured stream held).rows
ensured_apart stream held h = by (is_given stream held.rows) (held.given == 2 ^ 64 - 1) refl
  where
    by : (a b : Bool) → is_given stream held.rows ≡ a
        → AreApart (if a || b then held else record held { given = held.given + 1; rows = held.rows ++ opened_by_other held.given stream ∷ [] }).rows
    by true b e = h
    by false true e = h
    by false false e =
        subst AreUnshared (sym (map-append numbered_stream held.rows (opened_by_other held.given stream ∷ [])))
        (unshared_pushed (map numbered_stream held.rows) held.given stream (ungiven stream held.rows e) h)

unowned_without : (s id : ℕ) (rows : List Channel) → over_rows s rows ≡ None → over_rows s (channels_without id rows) ≡ None
unowned_without s id [] h = refl
unowned_without s id (row ∷ rows) h = by (is_of_stream s row.stream) (has_channel_id id row) refl h (unowned_without s id rows)
  where
    kept : (c : Bool) → c ≡ false → over_rows s (channels_without id rows) ≡ None → (if c then Some row.id else over_rows s (channels_without id rows)) ≡ None
    kept true e k = absurd (true≢false e)
    kept false e k = k

    by : (a d : Bool) → is_of_stream s row.stream ≡ a → (if a then Some row.id else over_rows s rows) ≡ None
        → (over_rows s rows ≡ None → over_rows s (channels_without id rows) ≡ None) → over_rows s (if d then rows else row ∷ channels_without id rows) ≡ None
    by true d e k rest = absurd (some_none row.id k)
    by false true e k rest = k
    by false false e k rest = kept (is_of_stream s row.stream) e (rest k)

pub without_apart : (id : ℕ) (rows : List Channel) → AreApart rows → AreApart (channels_without id rows)
without_apart id [] h = tt
without_apart id (row ∷ rows) h = by (has_channel_id id row) (without_apart id rows h.1)
  where
    own : (o : Option ℕ) → IsUnshared o (map numbered_stream rows) → IsUnshared o (map numbered_stream (channels_without id rows))
    own None k = tt
    own (Some s) k = unowned_without s id rows k

    by : (d : Bool) → AreApart (channels_without id rows) → AreApart (if d then rows else row ∷ channels_without id rows)
    by true rest = h.1
    by false rest = (own row.stream h.0, rest)
