-- The numbers of the channels of a peer over steps that tell some of them: numbers only rise, and each that is told was given.
use Rattle.std.proofs.Common.{◌≡◌, ◌+◌, ◌<◌, ◌≤◌, ℕ, Bool, true, false, List, [], ◌∷◌, ◌++◌, length, All, refl, arith, length-append}
use Rattle.std.proofs.lemmas.List.Elements.{All-nil, All-cons, All-append, All-weaker}
use Rattle.rtc_wire.specs.declared.channel_config.ChannelConfig.{ChannelConfig}
use Rattle.rtc_channels.specs.Channels.{Channels, unconfirmed, with_channel, confirmed, all_confirmed, AreBelow, AreRising}
use Rattle.rtc_channels.specs.Holds.{all_cancelled, cancelled_if, is_unconfirmed}
use Rattle.rtc_channels.proofs.GivenLemmas.{below_without, rising_without}
use Rattle.rtc_channels.proofs.KeptLemmas.{below_more, below_one_more, below_confirmed, rising_confirmed, rising_more}

-- each of these numbers is below a bound
abbrev pub AreLess : ℕ → List ℕ → Type 0
AreLess bound numbers = All (λ number. number < bound) numbers

pub less_weaker : (bound more : ℕ) (numbers : List ℕ) → bound ≤ more → AreLess bound numbers → AreLess more numbers
less_weaker bound more numbers least less = All-weaker (λ number. number < bound) (λ number. number < more) (λ number below. at_most number below) numbers less
  where
    at_most : (number : ℕ) → number < bound → number < more
    at_most number below = omega (arith, below, least)

pub less_append : (bound : ℕ) (numbers more : List ℕ) → AreLess bound numbers → AreLess bound more → AreLess bound (numbers ++ more)
less_append bound numbers more less rest = All-append (λ number. number < bound) numbers more less rest

-- Channels before and after what tells these numbers.
pub record AreNumbered (numbers : List ℕ) (held held' : Channels) : Type 0 where
  pub rises : held.given ≤ held'.given
  pub few : held'.given ≤ held.given + length numbers
  pub below : AreBelow held.given held.rows → AreBelow held'.given held'.rows
  pub rising : AreBelow held.given held.rows → AreRising 0 held.rows → AreRising 0 held'.rows
  pub told : AreBelow held.given held.rows → AreLess held'.given numbers

-- channels that stay
pub same_numbers : (held held' : Channels) → held' ≡ held → AreNumbered [] held held'
same_numbers held held' same = rw same (record {
  rises = omega arith;
  few = omega arith;
  below = λ below. below;
  rising = λ below rising. rising;
  told = λ below. All-nil (λ number. number < held.given);
})

-- one after the other
pub numbered_on : (numbers more : List ℕ) (held between held' : Channels) → AreNumbered numbers held between → AreNumbered more between held' → AreNumbered (numbers ++ more) held held'
numbered_on numbers more held between held' first rest = record {
  rises = omega (arith, first.rises, rest.rises);
  few = omega (arith, first.few, rest.few, length-append numbers more);
  below = λ below. rest.below (first.below below);
  rising = λ below rising. rest.rising (first.below below) (first.rising below rising);
  told = λ below. less_append held'.given numbers more (less_weaker between.given held'.given numbers rest.rises (first.told below)) (rest.told (first.below below));
}

-- ---- channels that are confirmed

one_confirmed : (id : ℕ) (config : ChannelConfig) (held : Channels) → AreNumbered [] held (confirmed id config held)
one_confirmed id config held = record {
  rises = omega arith;
  few = omega arith;
  below = λ below. below_confirmed held.given id config held.rows below;
  rising = λ below rising. rising_confirmed 0 id config held.rows rising;
  told = λ below. All-nil (λ number. number < held.given);
}

pub all_confirmed_numbered : (channels : List (ℕ × ChannelConfig)) (held : Channels) → AreNumbered [] held (all_confirmed channels held)
all_confirmed_numbered [] held = same_numbers held held refl
all_confirmed_numbered (channel ∷ rest) held =
    numbered_on [] [] held (confirmed channel.0 channel.1 held) (all_confirmed rest (confirmed channel.0 channel.1 held)) (one_confirmed channel.0 channel.1 held)
    (all_confirmed_numbered rest (confirmed channel.0 channel.1 held))

-- ---- channels that are cancelled

one_cancelled : (there : Bool) (id : ℕ) (held : Channels) → AreNumbered [] held (cancelled_if there id held)
one_cancelled true id held = record {
  rises = omega arith;
  few = omega arith;
  below = λ below. below_without held.given id held.rows below;
  rising = λ below rising. rising_without 0 id held.rows rising;
  told = λ below. All-nil (λ number. number < held.given);
}
one_cancelled false id held = same_numbers held held refl

pub all_cancelled_numbered : (channels : List (ℕ × ChannelConfig)) (held : Channels) → AreNumbered [] held (all_cancelled channels held)
all_cancelled_numbered [] held = same_numbers held held refl
all_cancelled_numbered (channel ∷ rest) held =
    let left : Channels = cancelled_if (is_unconfirmed channel.0 held.rows) channel.0 held in
    numbered_on [] [] held left (all_cancelled rest left) (one_cancelled (is_unconfirmed channel.0 held.rows) channel.0 held)
    (all_cancelled_numbered rest left)

-- ---- a channel that is added

added_numbered : (config : ChannelConfig) (held : Channels) → AreNumbered (held.given ∷ []) held (with_channel held config)
added_numbered config held = record {
  rises = omega arith;
  few = omega arith;
  below = λ below. below_one_more (held.given + 1) held.rows (unconfirmed held.given config) (below_more held.given (held.given + 1) held.rows below (omega arith)) (omega arith);
  rising = λ below rising. rising_more 0 held.given held.rows (unconfirmed held.given config) rising below (omega arith) refl;
  told = λ below. All-cons (λ number. number < held.given + 1) held.given [] (omega arith) (All-nil (λ number. number < held.given + 1));
}

pub channel_numbered : (config : ChannelConfig) (id : ℕ) (held held' : Channels) → held' ≡ with_channel held config → id ≡ held.given → AreNumbered (id ∷ []) held held'
channel_numbered config id held held' same number = rw (same, number) (added_numbered config held)
