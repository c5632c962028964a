-- The rows of channels of which some are cancelled: where numbers rise, those that were never confirmed go, and the others stay.
use Rattle.std.specs.Prelude.{filter}
use Rattle.std.specs.List.{AllByRecursion}
use Rattle.std.proofs.Common.{◌≡◌, ◌∙◌, ◌==◌, ◌<◌, ◌+◌, ◌||◌, ◌&&◌, not, ℕ, Bool, true, false, cond, List, [], ◌∷◌, map, refl, sym, ap, subst, arith}
use Rattle.std.proofs.lemmas.Bool.{eqb-true, ne_eqb, or_parts}
use Rattle.rtc_wire.specs.declared.channel_config.ChannelConfig.{ChannelConfig}
use Rattle.rtc_sctp.specs.Streams.{SctpStreams}
use Rattle.rtc_channels.specs.declared.channel_row.ChannelRow.{ChannelRow}
use Rattle.rtc_channels.specs.Channels.{Channel, Channels, AreRising, has_channel_id}
use Rattle.rtc_channels.specs.Holds.{all_cancelled, cancelled_if, channels_without, is_unconfirmed}
use Rattle.rtc_channels.proofs.GivenLemmas.{rising_without}
use Rattle.rtc_peer_core.specs.ChannelRows.{channel_row, channel_rows}
use Rattle.rtc_peer_core.specs.Meanings.{Meanings}
use Rattle.rtc_peer_core.specs.Sources.{is_number}
use Rattle.rtc_peer_polling.specs.Numbers.{AreUnconfirmed}
use Rattle.rtc_peer_polling.proofs.NumberedChannels.{unconfirmed_without}
use Rattle.rtc_run_history.specs.Undone.{channels_but}

-- none of these channels was confirmed
abbrev pub AreCancellable : List (ℕ × ChannelConfig) → List Channel → Type 0
AreCancellable channels rows = AllByRecursion (λ channel. AreUnconfirmed channel.0 rows) channels

abbrev pub numbers_of : List (ℕ × ChannelConfig) → List ℕ
numbers_of channels = map (λ channel. channel.0) channels

-- the channels but that of a number, and but those of some
abbrev without_one : ℕ → List Channel → List Channel
without_one id rows = filter (λ channel. not (has_channel_id id channel)) rows

abbrev without_all : List ℕ → List Channel → List Channel
without_all numbers rows = filter (λ channel. not (is_number channel.id numbers)) rows

-- ---- one channel

past_all : (least id : ℕ) (rows : List Channel) → AreRising least rows → id < least → without_one id rows ≡ rows
past_all least id [] rising past = refl
past_all least id (channel ∷ rows) rising past =
    by (channel.id == id) (ne_eqb channel.id id (λ e. omega (arith, rising.0, past, e)))
    (past_all (channel.id + 1) id rows rising.1 (omega (arith, rising.0, past)))
  where
    by : (here : Bool) → here ≡ false → without_one id rows ≡ rows → cond (not here) (channel ∷ without_one id rows) (without_one id rows) ≡ channel ∷ rows
    by true is rest = absurd (cc)
    by false is rest = ap (λ (l : List Channel). channel ∷ l) rest

without_is : (least id : ℕ) (rows : List Channel) → AreRising least rows → channels_without id rows ≡ without_one id rows
without_is least id [] rising = refl
without_is least id (channel ∷ rows) rising = by (channel.id == id) refl (without_is (channel.id + 1) id rows rising.1)
  where
    by : (here : Bool) → (channel.id == id) ≡ here → channels_without id rows ≡ without_one id rows
        → cond here rows (channel ∷ channels_without id rows) ≡ cond (not here) (channel ∷ without_one id rows) (without_one id rows)
    by true is rest =
        let e : channel.id ≡ id = eqb-true channel.id id is in
        sym (past_all (channel.id + 1) id rows rising.1 (omega (arith, e)))
    by false is rest = ap (λ (l : List Channel). channel ∷ l) rest

none_goes : (id : ℕ) (rows : List Channel) → AreUnconfirmed id rows → is_unconfirmed id rows ≡ false → without_one id rows ≡ rows
none_goes id [] none missed = refl
none_goes id (channel ∷ rows) none missed =
    let parts = or_parts (has_channel_id id channel && not channel.confirmed) (is_unconfirmed id rows) missed in
    by (has_channel_id id channel) channel.confirmed none.0 parts.0 (none_goes id rows none.1 parts.1)
  where
    by : (here confirmed : Bool) → (here ≡ true → confirmed ≡ false) → (here && not confirmed) ≡ false → without_one id rows ≡ rows
        → cond (not here) (channel ∷ without_one id rows) (without_one id rows) ≡ channel ∷ rows
    by true true fresh there rest = absurd (let e : true ≡ false = fresh refl in cc)
    by true false fresh there rest = absurd (cc)
    by false confirmed fresh there rest = ap (λ (l : List Channel). channel ∷ l) rest

one_left : (least id : ℕ) (held : Channels) → AreRising least held.rows → AreUnconfirmed id held.rows
    → (cancelled_if (is_unconfirmed id held.rows) id held).rows ≡ without_one id held.rows
one_left least id held rising none = by (is_unconfirmed id held.rows) refl
  where
    by : (there : Bool) → is_unconfirmed id held.rows ≡ there → (cancelled_if there id held).rows ≡ without_one id held.rows
    by true is = without_is least id held.rows rising
    by false is = sym (none_goes id held.rows none is)

rising_left : (there : Bool) (least id : ℕ) (held : Channels) → AreRising least held.rows → AreRising least (cancelled_if there id held).rows
rising_left true least id held rising = rising_without least id held.rows rising
rising_left false least id held rising = rising

cancellable_left : (there : Bool) (id : ℕ) (held : Channels) (channels : List (ℕ × ChannelConfig)) → AreCancellable channels held.rows
    → AreCancellable channels (cancelled_if there id held).rows
cancellable_left there id held [] fresh = tt
cancellable_left true id held (channel ∷ rest) fresh =
    (unconfirmed_without channel.0 id held.rows fresh.0, cancellable_left true id held rest fresh.1)
cancellable_left false id held (channel ∷ rest) fresh = fresh

-- ---- all of them

flips : (a b : ℕ) → (a == b) ≡ (b == a)
flips a b = grind arith

both_gone : (id : ℕ) (numbers : List ℕ) (rows : List Channel) → without_all numbers (without_one id rows) ≡ without_all (id ∷ numbers) rows
both_gone id numbers [] = refl
both_gone id numbers (channel ∷ rows) =
    subst
    (λ (b : Bool).
    without_all numbers (without_one id (channel ∷ rows))
    ≡ cond (not (b || is_number channel.id numbers)) (channel ∷ without_all (id ∷ numbers) rows) (without_all (id ∷ numbers) rows))
    (flips channel.id id) (by (channel.id == id) (both_gone id numbers rows))
  where
    by : (here : Bool) → without_all numbers (without_one id rows) ≡ without_all (id ∷ numbers) rows
        → without_all numbers (cond (not here) (channel ∷ without_one id rows) (without_one id rows))
        ≡ cond (not (here || is_number channel.id numbers)) (channel ∷ without_all (id ∷ numbers) rows) (without_all (id ∷ numbers) rows)
    by true rest = rest
    by false rest = ap (λ (l : List Channel). cond (not (is_number channel.id numbers)) (channel ∷ l) l) rest

none_asked : (rows : List Channel) → without_all [] rows ≡ rows
none_asked [] = refl
none_asked (channel ∷ rows) = ap (λ (l : List Channel). channel ∷ l) (none_asked rows)

all_left : (least : ℕ) (channels : List (ℕ × ChannelConfig)) (held : Channels) → AreRising least held.rows → AreCancellable channels held.rows
    → (all_cancelled channels held).rows ≡ without_all (numbers_of channels) held.rows
all_left least [] held rising fresh = sym (none_asked held.rows)
all_left least (channel ∷ rest) held rising fresh =
    let there : Bool = is_unconfirmed channel.0 held.rows in
    all_left least rest (cancelled_if there channel.0 held) (rising_left there least channel.0 held rising)
    (cancellable_left there channel.0 held rest fresh.1)
    ∙ ap (λ (rows : List Channel). without_all (numbers_of rest) rows) (one_left least channel.0 held rising fresh.0)
    ∙ both_gone channel.0 (numbers_of rest) held.rows

module _ {I D S M E X T W N : Type 0} (m : Meanings I D S M E X T W N) where
  rows_of_left : (p : SctpStreams S) (numbers : List ℕ) (rows : List Channel)
      → map (channel_row m.association p) (without_all numbers rows) ≡ channels_but numbers (map (channel_row m.association p) rows)
  rows_of_left p numbers [] = refl
  rows_of_left p numbers (channel ∷ rows) = by (is_number channel.id numbers) (rows_of_left p numbers rows)
    where
      by : (gone : Bool) → map (channel_row m.association p) (without_all numbers rows) ≡ channels_but numbers (map (channel_row m.association p) rows)
          → map (channel_row m.association p) (cond (not gone) (channel ∷ without_all numbers rows) (without_all numbers rows))
          ≡ cond (not gone) (channel_row m.association p channel ∷ channels_but numbers (map (channel_row m.association p) rows))
          (channels_but numbers (map (channel_row m.association p) rows))
      by true rest = rest
      by false rest = ap (λ (l : List ChannelRow). channel_row m.association p channel ∷ l) rest

  -- the rows that are left are those of other numbers
  pub cancelled_rows_left : (p : SctpStreams S) (channels : List (ℕ × ChannelConfig)) (held : Channels) → AreRising 0 held.rows
      → AreCancellable channels held.rows
      → channel_rows m.association p (all_cancelled channels held) ≡ channels_but (numbers_of channels) (channel_rows m.association p held)
  cancelled_rows_left p channels held rising fresh =
      ap (λ (rows : List Channel). map (channel_row m.association p) rows) (all_left 0 channels held rising fresh)
      ∙ rows_of_left p (numbers_of channels) held.rows
