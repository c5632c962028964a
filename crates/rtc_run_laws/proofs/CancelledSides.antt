-- What channels that are cancelled leave of those that were confirmed, and of openings from here.
use Rattle.std.proofs.Common.{◌≡◌, ◌⊎◌, inl, inr, ◌<◌, ◌==◌, ◌∷◌, ℕ, Bool, true, false, List, [], Some, refl, sym, subst, arith}
use Rattle.std.proofs.lemmas.Bool.{eqb-true, eqb-false}
use Rattle.rtc_wire.specs.declared.channel_config.ChannelConfig.{ChannelConfig}
use Rattle.rtc_sctp_entries.specs.declared.stream_entry.StreamEntry.{StreamEntry}
use Rattle.rtc_sctp.specs.Streams.{SctpStreams}
use Rattle.rtc_channels.specs.Channels.{AreBelow, Channel, Channels}
use Rattle.rtc_channels.specs.Holds.{all_cancelled, cancelled_if, channels_without, is_unconfirmed}
use Rattle.rtc_peer_polling.specs.StreamStages.{channel_over}
use Rattle.rtc_peer_laws.specs.ChannelStreams.{AreNumberedChannels, HasNoRow, IsGone}
use Rattle.rtc_peer_laws.proofs.CancelledChannels.{cancelled_gone, cancelled_numbers, cancelled_over}
use Rattle.rtc_peer_laws.proofs.ChannelsOver.{none_left}
use Rattle.rtc_run_laws.specs.ConfirmedChannels.{HasConfig}
use Rattle.rtc_run_laws.proofs.BegunRows.{AreSound, Awaits, HasGone, IsBegun, Stands}
use Rattle.rtc_run_laws.proofs.ConfigRows.{config_without}
use Rattle.rtc_run_laws.proofs.OwnedChanges.{IsOwned}
use Rattle.rtc_run_laws.proofs.OwnedRows.{IsOwner, without_own}
use Rattle.rtc_run_laws.proofs.StandingEntries.{HasStanding}
use Rattle.rtc_run_laws.proofs.StreamPolls.{IsShutBefore}
use Rattle.rtc_run_laws.proofs.SureRows.{unsure_left, without_sure}

-- ---- configs

config_below : (bound c : ℕ) (rows : List Channel) → AreBelow bound rows → HasConfig c rows → c < bound
config_below bound c [] below h = absurd h
config_below bound c (row ∷ rows) below (inl h) = let same = h.0 in let own = below.0 in omega (arith, same, own)
config_below bound c (row ∷ rows) below (inr h) = config_below bound c rows below.1 h

config_if : (b : Bool) (c id : ℕ) (held : Channels) → AreNumberedChannels held → HasConfig c held.rows
    → HasConfig c (cancelled_if b id held).rows ⊎ IsGone c (cancelled_if b id held)
config_if true c id held numbers h = by (id == c) refl
  where
    by : (b : Bool) → (id == c) ≡ b → HasConfig c (cancelled_if true id held).rows ⊎ IsGone c (cancelled_if true id held)
    by true e =
        inr (
          config_below held.given c held.rows numbers.1 h,
          subst (λ (n : ℕ). HasNoRow c (channels_without n held.rows)) (sym (eqb-true id c e)) (none_left 0 c held.rows numbers.0),
        )
    by false e = inl (config_without c id held.rows (eqb-false id c e) h)
config_if false c id held numbers h = inl h

config_cancelled : (c : ℕ) (channels : List (ℕ × ChannelConfig)) (held : Channels) → AreNumberedChannels held → HasConfig c held.rows
    → HasConfig c (all_cancelled channels held).rows ⊎ IsGone c (all_cancelled channels held)
config_cancelled c [] held numbers h = inl h
config_cancelled c (channel ∷ rest) held numbers h =
    by (λ k. config_cancelled c rest left (cancelled_numbers (channel ∷ []) held numbers) k)
    (config_if (is_unconfirmed channel.0 held.rows) c channel.0 held numbers h)
  where
    left : Channels
    left = cancelled_if (is_unconfirmed channel.0 held.rows) channel.0 held

    by : (HasConfig c left.rows → HasConfig c (all_cancelled rest left).rows ⊎ IsGone c (all_cancelled rest left))
        → HasConfig c left.rows ⊎ IsGone c left → HasConfig c (all_cancelled rest left).rows ⊎ IsGone c (all_cancelled rest left)
    by go (inl k) = go k
    by go (inr k) = inr (cancelled_gone c rest left k)

-- ---- channels that were confirmed

module _ {S : Type 0} where
  pub sound_cancelled : (channels : List (ℕ × ChannelConfig)) (held held' : Channels) (a b : SctpStreams S) → held' ≡ all_cancelled channels held → b ≡ a
      → AreSound held a → AreSound held' b
  sound_cancelled channels held held' a b is same h = record {
    numbers = subst (λ (x : Channels). AreNumberedChannels x) (sym is) (cancelled_numbers channels held h.numbers);
    before = subst (λ (x : SctpStreams S). IsShutBefore x) (sym same) h.before;
  }

  begun_left : (c : ℕ) (channels : List (ℕ × ChannelConfig)) (held : Channels) (a : SctpStreams S) → AreNumberedChannels held → IsBegun c held a
      → IsBegun c (all_cancelled channels held) a
  begun_left c channels held a numbers (HasGone k) = HasGone (cancelled_gone c channels held k)
  begun_left c channels held a numbers (Awaits k) = by (config_cancelled c channels held numbers k)
    where
      by : HasConfig c (all_cancelled channels held).rows ⊎ IsGone c (all_cancelled channels held) → IsBegun c (all_cancelled channels held) a
      by (inl h) = Awaits h
      by (inr gone) = HasGone gone
  begun_left c channels held a numbers (Stands s over k) = by (cancelled_over s c channels held numbers over)
    where
      by : (channel_over s (all_cancelled channels held) ≡ Some c) ⊎ IsGone c (all_cancelled channels held) → IsBegun c (all_cancelled channels held) a
      by (inl still) = Stands s still k
      by (inr gone) = HasGone gone

  pub begun_cancelled : (c : ℕ) (channels : List (ℕ × ChannelConfig)) (held held' : Channels) (a b : SctpStreams S) → held' ≡ all_cancelled channels held
      → b ≡ a → AreNumberedChannels held → IsBegun c held a → IsBegun c held' b
  begun_cancelled c channels held held' a b is same numbers h =
      subst (λ (x : Channels). IsBegun c x b) (sym is)
      (subst (λ (x : SctpStreams S). IsBegun c (all_cancelled channels held) x) (sym same) (begun_left c channels held a numbers h))

-- ---- openings from here

module _ (c : Bool) where
  owned_if : (b : Bool) (id : ℕ) (held : Channels) (es : List StreamEntry) → is_unconfirmed id held.rows ≡ b → AreNumberedChannels held
      → IsOwned c held es → IsOwned c (cancelled_if b id held) es
  owned_if true id held es found numbers owned = record {
    ordered = owned.ordered;
    rows = without_own c (λ s. HasStanding s es) id held.rows owned.rows;
    openings = λ s o. unsure_left (IsOwner c s) s 0 id held.rows (λ n b k. k.1) numbers.0 found (owned.openings s o);
    sure = without_sure id held.rows owned.sure;
  }
  owned_if false id held es found numbers owned = owned

  pub owned_cancelled : (channels : List (ℕ × ChannelConfig)) (held : Channels) (es : List StreamEntry) → AreNumberedChannels held → IsOwned c held es
      → IsOwned c (all_cancelled channels held) es
  owned_cancelled [] held es numbers owned = owned
  owned_cancelled (channel ∷ rest) held es numbers owned =
      owned_cancelled rest (cancelled_if (is_unconfirmed channel.0 held.rows) channel.0 held) es (cancelled_numbers (channel ∷ []) held numbers)
      (owned_if (is_unconfirmed channel.0 held.rows) channel.0 held es refl numbers owned)
