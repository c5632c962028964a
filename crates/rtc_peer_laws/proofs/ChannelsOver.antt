-- The channel that a stream was given to, where rows are put behind others and go, and channels whose row has gone.
use Rattle.std.proofs.Common.{if◌then◌else◌, ◌≡◌, ◌++◌, ◌∷◌, ◌==◌, ◌+◌, ◌<◌, ◌≤◌, ℕ, Bool, true, false, true≢false, List, [], map, Option, Some, None, refl, sym, ap, ◌∙◌, arith}
use Rattle.std.proofs.lemmas.Bool.{eqb-true, ne_eqb}
use Rattle.rtc_channels.specs.Channels.{Channel, Channels, AreRising, has_channel_id, is_of_stream, numbered_stream, channel_of_stream, stream_of_channel}
use Rattle.rtc_channels.specs.Allocation.{channel_ensured, is_ensured, opened_by_other}
use Rattle.rtc_channels.specs.Holds.{channels_without, removed_channel}
use Rattle.rtc_peer_polling.specs.StreamStages.{channel_over}
use Rattle.rtc_peer_laws.specs.ChannelStreams.{HasNoRow, IsGone}

abbrev pub over_rows : ℕ → List Channel → Option ℕ
over_rows s rows = channel_of_stream s (map numbered_stream rows)

abbrev pub under_rows : ℕ → List Channel → Option ℕ
under_rows c rows = stream_of_channel c (map numbered_stream rows)

none_some : (c : ℕ) → None ≡ Some c → ⊥
none_some c h = cc

some_is : (a b : ℕ) → Some a ≡ Some b → a ≡ b
some_is a b h = cc

-- with more rows behind
pub over_front : (s c : ℕ) (rows more : List Channel) → over_rows s rows ≡ Some c → over_rows s (rows ++ more) ≡ Some c
over_front s c [] more h = absurd (none_some c h)
over_front s c (row ∷ rows) more h = by (is_of_stream s row.stream) h (over_front s c rows more)
  where
    by : (b : Bool) → (if b then Some row.id else over_rows s rows) ≡ Some c → (over_rows s rows ≡ Some c → over_rows s (rows ++ more) ≡ Some c)
        → (if b then Some row.id else over_rows s (rows ++ more)) ≡ Some c
    by true k rest = k
    by false k rest = rest k

pub ensured_over : (stream s c : ℕ) (held : Channels) → channel_over s held ≡ Some c → channel_over s (channel_ensured stream held) ≡ Some c
ensured_over stream s c held h = by (is_ensured stream held)
  where
    by : (b : Bool) → channel_over s (if b then held else record held { given = held.given + 1; rows = held.rows ++ opened_by_other held.given stream ∷ [] }) ≡ Some c
    by true = h
    by false = over_front s c held.rows (opened_by_other held.given stream ∷ []) h

-- a number that is found is not below the least
over_least : (least s c : ℕ) (rows : List Channel) → AreRising least rows → over_rows s rows ≡ Some c → least ≤ c
over_least least s c [] h k = absurd (none_some c k)
over_least least s c (row ∷ rows) h k = by (is_of_stream s row.stream) k (over_least (row.id + 1) s c rows h.1)
  where
    by : (b : Bool) → (if b then Some row.id else over_rows s rows) ≡ Some c → (over_rows s rows ≡ Some c → row.id + 1 ≤ c) → least ≤ c
    by true k rest = omega (arith, h.0, some_is row.id c k)
    by false k rest = let up = rest k in omega (arith, h.0, up)

-- the stream of the channel that is found
of_is : (s : ℕ) (o : Option ℕ) → is_of_stream s o ≡ true → o ≡ Some s
of_is s None h = absurd (true≢false (sym h))
of_is s (Some own) h = ap (λ (n : ℕ). Some n) (eqb-true own s h)

over_under : (least s c : ℕ) (rows : List Channel) → AreRising least rows → over_rows s rows ≡ Some c → under_rows c rows ≡ Some s
over_under least s c [] h k = absurd (none_some c k)
over_under least s c (row ∷ rows) h k = by (is_of_stream s row.stream) refl k (over_under (row.id + 1) s c rows h.1)
  where
    here : (b : Bool) → b ≡ true → row.stream ≡ Some s → (if b then row.stream else under_rows c rows) ≡ Some s
    here true e f = f
    here false e f = absurd (true≢false (sym e))

    there : (b : Bool) → b ≡ false → under_rows c rows ≡ Some s → (if b then row.stream else under_rows c rows) ≡ Some s
    there true e f = absurd (true≢false e)
    there false e f = f

    by : (b : Bool) → is_of_stream s row.stream ≡ b → (if b then Some row.id else over_rows s rows) ≡ Some c → (over_rows s rows ≡ Some c → under_rows c rows ≡ Some s)
        → (if row.id == c then row.stream else under_rows c rows) ≡ Some s
    by true e k rest = let same = some_is row.id c k in here (row.id == c) (grind (arith, same)) (of_is s row.stream e)
    by false e k rest =
        let up = over_least (row.id + 1) s c rows h.1 k in
        there (row.id == c) (ne_eqb row.id c (λ f. omega (arith, up, f))) (rest k)

pub under_over : (s c : ℕ) (held : Channels) → AreRising 0 held.rows → channel_over s held ≡ Some c → under_rows c held.rows ≡ Some s
under_over s c held h k = over_under 0 s c held.rows h k

pub same_stream : (t s c : ℕ) (held : Channels) → AreRising 0 held.rows → channel_over t held ≡ Some c → channel_over s held ≡ Some c → t ≡ s
same_stream t s c held h k l = some_is t s (sym (over_under 0 t c held.rows h k) ∙ over_under 0 s c held.rows h l)

-- the row of another channel goes
pub without_over : (s c id : ℕ) (rows : List Channel) → (id ≡ c → ⊥) → over_rows s rows ≡ Some c → over_rows s (channels_without id rows) ≡ Some c
without_over s c id [] ne h = absurd (none_some c h)
without_over s c id (row ∷ rows) ne h = by (has_channel_id id row) (is_of_stream s row.stream) refl h (without_over s c id rows ne)
  where
    by : (a b : Bool) → has_channel_id id row ≡ a → (if b then Some row.id else over_rows s rows) ≡ Some c → (over_rows s rows ≡ Some c → over_rows s (channels_without id rows) ≡ Some c)
        → over_rows s (if a then rows else row ∷ channels_without id rows) ≡ Some c
    by true true e k rest = absurd (ne (sym (eqb-true row.id id e) ∙ some_is row.id c k))
    by true false e k rest = k
    by false b e k rest = kept (is_of_stream s row.stream) h (rest)
      where
        kept : (d : Bool) → (if d then Some row.id else over_rows s rows) ≡ Some c → (over_rows s rows ≡ Some c → over_rows s (channels_without id rows) ≡ Some c)
            → (if d then Some row.id else over_rows s (channels_without id rows)) ≡ Some c
        kept true k rest = k
        kept false k rest = rest k

-- ---- channels without a row

pub none_more : (c : ℕ) (rows : List Channel) (row : Channel) → (row.id ≡ c → ⊥) → HasNoRow c rows → HasNoRow c (rows ++ row ∷ [])
none_more c [] row ne h = (ne, tt)
none_more c (first ∷ rows) row ne h = (h.0, none_more c rows row ne h.1)

pub none_without : (c id : ℕ) (rows : List Channel) → HasNoRow c rows → HasNoRow c (channels_without id rows)
none_without c id [] h = tt
none_without c id (row ∷ rows) h = by (has_channel_id id row) (none_without c id rows h.1)
  where
    by : (b : Bool) → HasNoRow c (channels_without id rows) → HasNoRow c (if b then rows else row ∷ channels_without id rows)
    by true rest = h.1
    by false rest = (h.0, rest)

none_above : (least c : ℕ) (rows : List Channel) → AreRising least rows → c < least → HasNoRow c rows
none_above least c [] h k = tt
none_above least c (row ∷ rows) h k =
    let up = h.0 in
    ((λ e. omega (arith, up, k, e)), none_above (row.id + 1) c rows h.1 (let more : c < row.id + 1 = omega (arith, up, k) in more))

-- the row that a channel had goes, and it was the only one
pub none_left : (least c : ℕ) (rows : List Channel) → AreRising least rows → HasNoRow c (channels_without c rows)
none_left least c [] h = tt
none_left least c (row ∷ rows) h = by (has_channel_id c row) refl (none_left (row.id + 1) c rows h.1)
  where
    by : (b : Bool) → has_channel_id c row ≡ b → HasNoRow c (channels_without c rows) → HasNoRow c (if b then rows else row ∷ channels_without c rows)
    by true e rest = let same = eqb-true row.id c e in none_above (row.id + 1) c rows h.1 (let less : c < row.id + 1 = omega (arith, same) in less)
    by false e rest = ((λ f. true≢false (sym (let self : has_channel_id c row ≡ true = grind (arith, f) in self) ∙ e)), rest)

pub ensured_gone : (stream c : ℕ) (held : Channels) → IsGone c held → IsGone c (channel_ensured stream held)
ensured_gone stream c held h = by (is_ensured stream held)
  where
    by : (b : Bool) → IsGone c (if b then held else record held { given = held.given + 1; rows = held.rows ++ opened_by_other held.given stream ∷ [] })
    by true = h
    by false =
        let less = h.0 in
        ((let more : c < held.given + 1 = omega (arith, less) in more), none_more c held.rows (opened_by_other held.given stream) (λ e. omega (arith, less, e)) h.1)

pub removed_gone : (c id : ℕ) (pending : Bool) (held : Channels) → IsGone c held → IsGone c (removed_channel id pending held)
removed_gone c id pending held h = (h.0, none_without c id held.rows h.1)

-- no stream has it
pub none_over : (s c : ℕ) (rows : List Channel) → HasNoRow c rows → over_rows s rows ≡ Some c → ⊥
none_over s c [] h k = none_some c k
none_over s c (row ∷ rows) h k = by (is_of_stream s row.stream) k (none_over s c rows h.1)
  where
    by : (b : Bool) → (if b then Some row.id else over_rows s rows) ≡ Some c → (over_rows s rows ≡ Some c → ⊥) → ⊥
    by true e rest = h.0 (some_is row.id c e)
    by false e rest = rest e

pub none_under : (c : ℕ) (rows : List Channel) → HasNoRow c rows → under_rows c rows ≡ None
none_under c [] h = refl
none_under c (row ∷ rows) h = by (row.id == c) refl (none_under c rows h.1)
  where
    by : (b : Bool) → (row.id == c) ≡ b → under_rows c rows ≡ None → (if b then row.stream else under_rows c rows) ≡ None
    by true e rest = absurd (h.0 (eqb-true row.id c e))
    by false e rest = rest
