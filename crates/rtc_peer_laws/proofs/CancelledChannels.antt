-- Channels that are cancelled: their rows go, each other channel keeps its stream, and the numbers stay in order.
use Rattle.std.proofs.Common.{if◌then◌else◌, ◌≡◌, ◌==◌, ◌∷◌, ◌<◌, ◌⊎◌, inl, inr, ◌∙◌, ℕ, Bool, true, false, List, [], Some, None, refl, sym, subst, arith}
use Rattle.std.proofs.lemmas.Bool.{eqb-true, eqb-false}
use Rattle.rtc_wire.specs.declared.channel_config.ChannelConfig.{ChannelConfig}
use Rattle.rtc_channels.specs.Channels.{AreBelow, Channel, Channels, is_of_stream}
use Rattle.rtc_channels.specs.Holds.{all_cancelled, cancelled_if, channels_without, is_unconfirmed, removed_channel}
use Rattle.rtc_channels.proofs.GivenLemmas.{below_without, rising_without}
use Rattle.rtc_peer_polling.specs.StreamStages.{channel_over}
use Rattle.rtc_peer_laws.specs.ChannelStreams.{AreNumberedChannels, HasNoRow, IsGone}
use Rattle.rtc_peer_laws.proofs.ChannelsOver.{none_left, over_rows, removed_gone, without_over}
use Rattle.rtc_peer_laws.proofs.UnsharedRows.{without_apart}

pub cancelled_given : (channels : List (ℕ × ChannelConfig)) (held : Channels) → (all_cancelled channels held).given ≡ held.given
cancelled_given [] held = refl
cancelled_given (channel ∷ rest) held =
    cancelled_given rest (cancelled_if (is_unconfirmed channel.0 held.rows) channel.0 held) ∙ by (is_unconfirmed channel.0 held.rows)
  where
    by : (b : Bool) → (cancelled_if b channel.0 held).given ≡ held.given
    by true = refl
    by false = refl

numbers_if : (b : Bool) (id : ℕ) (held : Channels) → AreNumberedChannels held → AreNumberedChannels (cancelled_if b id held)
numbers_if true id held h =
    (rising_without 0 id held.rows h.0, below_without held.given id held.rows h.1, without_apart id held.rows h.2)
numbers_if false id held h = h

pub cancelled_numbers : (channels : List (ℕ × ChannelConfig)) (held : Channels) → AreNumberedChannels held → AreNumberedChannels (all_cancelled channels held)
cancelled_numbers [] held h = h
cancelled_numbers (channel ∷ rest) held h =
    cancelled_numbers rest (cancelled_if (is_unconfirmed channel.0 held.rows) channel.0 held)
    (numbers_if (is_unconfirmed channel.0 held.rows) channel.0 held h)

gone_if : (b : Bool) (c id : ℕ) (held : Channels) → IsGone c held → IsGone c (cancelled_if b id held)
gone_if true c id held h = removed_gone c id false held h
gone_if false c id held h = h

pub cancelled_gone : (c : ℕ) (channels : List (ℕ × ChannelConfig)) (held : Channels) → IsGone c held → IsGone c (all_cancelled channels held)
cancelled_gone c [] held h = h
cancelled_gone c (channel ∷ rest) held h =
    cancelled_gone c rest (cancelled_if (is_unconfirmed channel.0 held.rows) channel.0 held)
    (gone_if (is_unconfirmed channel.0 held.rows) c channel.0 held h)

none_some : (c : ℕ) → None ≡ Some c → ⊥
none_some c h = cc

some_is : (a b : ℕ) → Some a ≡ Some b → a ≡ b
some_is a b h = cc

-- a channel that is found was given its number
found_below : (bound s c : ℕ) (rows : List Channel) → AreBelow bound rows → over_rows s rows ≡ Some c → c < bound
found_below bound s c [] below over = absurd (none_some c over)
found_below bound s c (row ∷ rows) below over = by (is_of_stream s row.stream) over (found_below bound s c rows below.1)
  where
    by : (b : Bool) → (if b then Some row.id else over_rows s rows) ≡ Some c → (over_rows s rows ≡ Some c → c < bound) → c < bound
    by true e rest = let same = some_is row.id c e in let own = below.0 in omega (arith, same, own)
    by false e rest = rest e

-- the channel over a stream stays, or it is the one that goes
removed_over : (s c id : ℕ) (held : Channels) → AreNumberedChannels held → channel_over s held ≡ Some c
    → (channel_over s (removed_channel id false held) ≡ Some c) ⊎ IsGone c (removed_channel id false held)
removed_over s c id held numbers over = by (id == c) refl
  where
    by : (b : Bool) → (id == c) ≡ b → (channel_over s (removed_channel id false held) ≡ Some c) ⊎ IsGone c (removed_channel id false held)
    by true e =
        inr (
          found_below held.given s c held.rows numbers.1 over,
          subst (λ (n : ℕ). HasNoRow c (channels_without n held.rows)) (sym (eqb-true id c e)) (none_left 0 c held.rows numbers.0),
        )
    by false e = inl (without_over s c id held.rows (eqb-false id c e) over)

over_if : (b : Bool) (s c id : ℕ) (held : Channels) → AreNumberedChannels held → channel_over s held ≡ Some c
    → (channel_over s (cancelled_if b id held) ≡ Some c) ⊎ IsGone c (cancelled_if b id held)
over_if true s c id held numbers over = removed_over s c id held numbers over
over_if false s c id held numbers over = inl over

pub cancelled_over : (s c : ℕ) (channels : List (ℕ × ChannelConfig)) (held : Channels) → AreNumberedChannels held → channel_over s held ≡ Some c
    → (channel_over s (all_cancelled channels held) ≡ Some c) ⊎ IsGone c (all_cancelled channels held)
cancelled_over s c [] held numbers over = inl over
cancelled_over s c (channel ∷ rest) held numbers over =
    by (λ k. cancelled_over s c rest left (numbers_if (is_unconfirmed channel.0 held.rows) channel.0 held numbers) k)
    (over_if (is_unconfirmed channel.0 held.rows) s c channel.0 held numbers over)
  where
    left : Channels
    left = cancelled_if (is_unconfirmed channel.0 held.rows) channel.0 held

    by : (channel_over s left ≡ Some c → (channel_over s (all_cancelled rest left) ≡ Some c) ⊎ IsGone c (all_cancelled rest left))
        → (channel_over s left ≡ Some c) ⊎ IsGone c left → (channel_over s (all_cancelled rest left) ≡ Some c) ⊎ IsGone c (all_cancelled rest left)
    by go (inl k) = go k
    by go (inr k) = inr (cancelled_gone c rest left k)
