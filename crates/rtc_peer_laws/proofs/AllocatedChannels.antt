-- A stream that a channel has stays its own where other channels are given streams and opened.
use Rattle.std.proofs.Common.{if◌then◌else◌, ◌≡◌, ◌∷◌, ◌==◌, ◌||◌, ◌+◌, ◌≤◌, ℕ, zero, suc, Bool, true, false, true≢false, List, [], take, Option, Some, None, refl, sym, ap, ◌∙◌, arith}
use Rattle.std.proofs.lemmas.Bool.{eqb-true, ne_eqb}
use Rattle.rtc_channels.specs.Channels.{Channel, Channels, AreRising, AreBelow, is_of_stream, channel_of_stream}
use Rattle.rtc_channels.specs.Allocation.{is_given, sought_by, stream_given, rows_given, all_allocated}
use Rattle.rtc_channels.specs.Openings.{config_handed, rows_opened}
use Rattle.rtc_channels.proofs.GivenLemmas.{rising_given, below_given}
use Rattle.rtc_channels.proofs.GivingLemmas.{sought_is_bare, sought_not_given}
use Rattle.rtc_peer_polling.specs.StreamStages.{channel_over}
use Rattle.rtc_peer_laws.proofs.ChannelsOver.{over_rows, under_rows}
use Rattle.rtc_peer_laws.specs.ChannelStreams.{AreNumberedChannels}
use Rattle.rtc_peer_laws.proofs.ApartChannels.{opened_streams, given_apart, opened_apart}

no_some : (c : ℕ) → None ≡ Some c → ⊥
no_some c h = cc

-- the row of a channel without a stream gets one
given_over : (id t s c : ℕ) (rows : List Channel) → under_rows id rows ≡ None → (t ≡ s → ⊥) → over_rows s rows ≡ Some c → over_rows s (rows_given id t rows) ≡ Some c
given_over id t s c [] bare ne h = absurd (no_some c h)
given_over id t s c (row ∷ rows) bare ne h = by (row.id == id) bare (given_over id t s c rows)
  where
    tested : (o : Option ℕ) → o ≡ None → (if is_of_stream s o then Some row.id else over_rows s rows) ≡ Some c → over_rows s rows ≡ Some c
    tested None e k = k
    tested (Some own) e k = absurd (no_some own (sym e))

    other : (b : Bool) → b ≡ false → over_rows s rows ≡ Some c → (if b then Some row.id else over_rows s rows) ≡ Some c
    other true e k = absurd (true≢false e)
    other false e k = k

    behind : (b : Bool) → (if b then Some row.id else over_rows s rows) ≡ Some c → (over_rows s rows ≡ Some c → over_rows s (rows_given id t rows) ≡ Some c)
        → (if b then Some row.id else over_rows s (rows_given id t rows)) ≡ Some c
    behind true k rest = k
    behind false k rest = rest k

    by : (b : Bool) → (if b then row.stream else under_rows id rows) ≡ None → (under_rows id rows ≡ None → (t ≡ s → ⊥) → over_rows s rows ≡ Some c → over_rows s (rows_given id t rows) ≡ Some c)
        → over_rows s (if b then record row { stream = Some t } ∷ rows else row ∷ rows_given id t rows) ≡ Some c
    by true e rest = other (t == s) (ne_eqb t s ne) (tested row.stream e h)
    by false e rest = behind (is_of_stream s row.stream) h (rest e ne)

under_given : (id t other : ℕ) (rows : List Channel) → (id ≡ other → ⊥) → under_rows other (rows_given id t rows) ≡ under_rows other rows
under_given id t other [] ne = refl
under_given id t other (row ∷ rows) ne = by (row.id == id) refl (under_given id t other rows ne)
  where
    passed : (b : Bool) → b ≡ false → (if b then Some t else under_rows other rows) ≡ (if b then row.stream else under_rows other rows)
    passed true e = absurd (true≢false e)
    passed false e = refl

    by : (b : Bool) → (row.id == id) ≡ b → under_rows other (rows_given id t rows) ≡ under_rows other rows
        → under_rows other (if b then record row { stream = Some t } ∷ rows else row ∷ rows_given id t rows) ≡ (if row.id == other then row.stream else under_rows other rows)
    by true e rest = passed (row.id == other) (ne_eqb row.id other (λ f. ne (sym (eqb-true row.id id e) ∙ f)))
    by false e rest = ap (λ (o : Option ℕ). if row.id == other then row.stream else o) rest

-- channels that have the streams that rows tell of them
abbrev pub AreListed : List Channel → List Channel → Type 0
AreListed [] rows = Unit {0}
AreListed (channel ∷ rest) rows = (under_rows channel.id rows ≡ channel.stream) × AreListed rest rows

listed_more : (row : Channel) (channels rows : List Channel) (least : ℕ) → row.id + 1 ≤ least → AreRising least channels → AreListed channels rows → AreListed channels (row ∷ rows)
listed_more row [] rows least le h k = tt
listed_more row (channel ∷ rest) rows least le h k =
    (passed (row.id == channel.id) (ne_eqb row.id channel.id (λ e. omega (arith, le, h.0, e))), listed_more row rest rows (channel.id + 1) (omega (arith, le, h.0)) h.1 k.1)
  where
    passed : (b : Bool) → b ≡ false → (if b then row.stream else under_rows channel.id rows) ≡ channel.stream
    passed true e = absurd (true≢false e)
    passed false e = k.0

pub listed_all : (least : ℕ) (rows : List Channel) → AreRising least rows → AreListed rows rows
listed_all least [] h = tt
listed_all least (row ∷ rows) h = (own (row.id == row.id) (grind arith), listed_more row rows rows (row.id + 1) (omega arith) h.1 (listed_all (row.id + 1) rows h.1))
  where
    own : (b : Bool) → b ≡ true → (if b then row.stream else under_rows row.id rows) ≡ row.stream
    own true e = refl
    own false e = absurd (true≢false (sym e))

pub listed_given : (id t least : ℕ) (channels rows : List Channel) → id + 1 ≤ least → AreRising least channels → AreListed channels rows → AreListed channels (rows_given id t rows)
listed_given id t least [] rows le h k = tt
listed_given id t least (channel ∷ rest) rows le h k =
    (under_given id t channel.id rows (λ e. omega (arith, le, h.0, e)) ∙ k.0, listed_given id t (channel.id + 1) rest rows (omega (arith, le, h.0)) h.1 k.1)

listed_take : (n : ℕ) (channels rows : List Channel) → AreListed channels rows → AreListed (take n channels) rows
listed_take zero channels rows h = tt
listed_take (suc n) [] rows h = tt
listed_take (suc n) (channel ∷ rest) rows h = (h.0, listed_take n rest rows h.1)

rising_take : (n least : ℕ) (channels : List Channel) → AreRising least channels → AreRising least (take n channels)
rising_take zero least channels h = tt
rising_take (suc n) least [] h = tt
rising_take (suc n) least (channel ∷ rest) h = (h.0, rising_take n (channel.id + 1) rest h.1)

-- a stream that a channel has is not given to another one
over_is_given : (s c : ℕ) (rows : List Channel) → over_rows s rows ≡ Some c → is_given s rows ≡ true
over_is_given s c [] h = absurd (no_some c h)
over_is_given s c (row ∷ rows) h = by (is_of_stream s row.stream) h (over_is_given s c rows)
  where
    by : (b : Bool) → (if b then Some row.id else over_rows s rows) ≡ Some c → (over_rows s rows ≡ Some c → is_given s rows ≡ true) → (b || is_given s rows) ≡ true
    by true k rest = refl
    by false k rest = rest k

pub allocated_over : (parity least s c : ℕ) (channels : List Channel) (held : Channels) → AreRising least channels → AreListed channels held.rows → channel_over s held ≡ Some c → channel_over s (all_allocated parity channels held) ≡ Some c
allocated_over parity least s c [] held rising listed h = h
allocated_over parity least s c (channel ∷ rest) held rising listed h =
    by (sought_by parity held channel) refl (λ other k o. allocated_over parity (channel.id + 1) s c rest other rising.1 k o)
  where
    by : (o : Option ℕ) → sought_by parity held channel ≡ o
        → ((other : Channels) → AreListed rest other.rows → channel_over s other ≡ Some c → channel_over s (all_allocated parity rest other) ≡ Some c)
        → channel_over s (all_allocated parity rest (stream_given channel.id o held)) ≡ Some c
    by None e go = go held listed.1 h
    by (Some t) e go =
        let bare : channel.stream ≡ None = sought_is_bare (Some channel) parity t held (sym e) in
        let free : is_given t held.rows ≡ false = sought_not_given (Some channel) parity t held (sym e) in
        let ne : t ≡ s → ⊥ = λ f. true≢false (sym (over_is_given s c held.rows h) ∙ ap (λ (n : ℕ). is_given n held.rows) (sym f) ∙ free) in
        go (record held { rows = rows_given channel.id t held.rows })
        (listed_given channel.id t (channel.id + 1) rest held.rows (omega arith) rising.1 listed.1) (given_over channel.id t s c held.rows (listed.0 ∙ bare) ne h)

pub allocated_numbers : (parity : ℕ) (channels : List Channel) (held : Channels) → AreNumberedChannels held → AreNumberedChannels (all_allocated parity channels held)
allocated_numbers parity [] held h = h
allocated_numbers parity (channel ∷ rest) held h = by (sought_by parity held channel) refl (λ other k. allocated_numbers parity rest other k)
  where
    by : (o : Option ℕ) → sought_by parity held channel ≡ o
        → ((other : Channels) → AreNumberedChannels other → AreNumberedChannels (all_allocated parity rest other))
        → AreNumberedChannels (all_allocated parity rest (stream_given channel.id o held))
    by None e go = go held h
    by (Some t) e go =
        go (record held { rows = rows_given channel.id t held.rows }) (
          rising_given 0 channel.id t held.rows h.0,
          below_given held.given channel.id t held.rows h.1,
          given_apart channel.id t held.rows (sought_not_given (Some channel) parity t held (sym e)) h.2,
        )

pub all_over : (parity s c : ℕ) (held : Channels) → AreNumberedChannels held → channel_over s held ≡ Some c → channel_over s (all_allocated parity held.rows held) ≡ Some c
all_over parity s c held h k = allocated_over parity 0 s c held.rows held h.0 (listed_all 0 held.rows h.0) k

pub some_over : (parity n s c : ℕ) (held : Channels) → AreNumberedChannels held → channel_over s held ≡ Some c → channel_over s (all_allocated parity (take n held.rows) held) ≡ Some c
some_over parity n s c held h k =
    allocated_over parity 0 s c (take n held.rows) held (rising_take n 0 held.rows h.0) (listed_take n held.rows held.rows (listed_all 0 held.rows h.0)) k

rising_opened : (least id : ℕ) (rows : List Channel) → AreRising least rows → AreRising least (rows_opened id rows)
rising_opened least id [] h = tt
rising_opened least id (row ∷ rows) h = by (row.id == id) (rising_opened (row.id + 1) id rows h.1)
  where
    by : (b : Bool) → AreRising (row.id + 1) (rows_opened id rows) → AreRising least (if b then record row { config = None } ∷ rows else row ∷ rows_opened id rows)
    by true k = h
    by false k = (h.0, k)

below_opened : (bound id : ℕ) (rows : List Channel) → AreBelow bound rows → AreBelow bound (rows_opened id rows)
below_opened bound id [] h = tt
below_opened bound id (row ∷ rows) h = by (row.id == id) (below_opened bound id rows h.1)
  where
    by : (b : Bool) → AreBelow bound (rows_opened id rows) → AreBelow bound (if b then record row { config = None } ∷ rows else row ∷ rows_opened id rows)
    by true k = h
    by false k = (h.0, k)

pub handed_over : (s id c : ℕ) (held : Channels) → channel_over s held ≡ Some c → channel_over s (config_handed id held) ≡ Some c
handed_over s id c held h = ap (channel_of_stream s) (opened_streams id held.rows) ∙ h

pub handed_numbers : (id : ℕ) (held : Channels) → AreNumberedChannels held → AreNumberedChannels (config_handed id held)
handed_numbers id held h = (rising_opened 0 id held.rows h.0, below_opened held.given id held.rows h.1, opened_apart id held.rows h.2)
