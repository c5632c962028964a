-- A stream that a channel is given was not held.
use Rattle.std.proofs.Common.{◌≡◌, ◌==◌, ◌||◌, ℕ, Bool, true, false, List, [], ◌∷◌, refl, ap, sym, ◌∙◌, arith, Option, Some, None}
use Rattle.rtc_channels.specs.Channels.{Channel, Channels, has_channel_id, is_of_stream}
use Rattle.rtc_channels.specs.Holds.{is_stream_held}
use Rattle.rtc_channels.specs.Allocation.{is_given, is_taken, sought_by, stream_given, rows_given, all_allocated}
use Rattle.rtc_channels.proofs.GivingLemmas.{sought_is_free}

-- what one channel is given is the only stream that has a channel and had none
given_one : (s id t : ℕ) (rows : List Channel) → is_given s rows ≡ false → is_given s (rows_given id t rows) ≡ true → t ≡ s
given_one s id t [] none some = absurd cc
given_one s id t (channel ∷ rest) none some = by (has_channel_id id channel) refl (is_of_stream s channel.stream) refl (given_one s id t rest) none some
  where
    own : (a : Bool) → (t == s) ≡ a → (a || is_given s rest) ≡ true → is_given s rest ≡ false → t ≡ s
    own true is some none = grind arith
    own false is some none = absurd cc

    by : (here : Bool) → has_channel_id id channel ≡ here → (first : Bool) → is_of_stream s channel.stream ≡ first
        → (is_given s rest ≡ false → is_given s (rows_given id t rest) ≡ true → t ≡ s)
        → (is_of_stream s channel.stream || is_given s rest) ≡ false → is_given s (rows_given id t (channel ∷ rest)) ≡ true → t ≡ s
    by here is true had go none some = let wrong : true ≡ false = sym (rw had refl) ∙ none in absurd cc
    by true is false had go none some = own (t == s) refl (sym (rw is refl) ∙ some) (sym (rw had refl) ∙ none)
    by false is false had go none some = go (sym (rw had refl) ∙ none) (sym (rw (is, had) refl) ∙ some)

unheld_of : (s : ℕ) (held : Channels) → is_taken s held ≡ false → is_stream_held s held.holds ≡ false
unheld_of s held free = by (is_given s held.rows) (is_stream_held s held.holds) free
  where
    by : (a b : Bool) → (a || b) ≡ false → b ≡ false
    by true b is = absurd cc
    by false b is = is

-- one channel is given a stream, or none
step : (s parity : ℕ) (channel : Channel) (held : Channels) → is_given s held.rows ≡ false → is_given s (stream_given channel.id (sought_by parity held channel) held).rows ≡ true
    → is_stream_held s held.holds ≡ false
step s parity channel held none some = by (sought_by parity held channel) refl some
  where
    by : (sought : Option ℕ) → sought_by parity held channel ≡ sought → is_given s (stream_given channel.id sought held).rows ≡ true → is_stream_held s held.holds ≡ false
    by None is some = absurd cc
    by (Some t) is some =
        let same : t ≡ s = given_one s channel.id t held.rows none some in
        ap (λ n. is_stream_held n held.holds) (sym same) ∙ unheld_of t held (sought_is_free (Some channel) parity t held (sym is))

same_holds : (id : ℕ) (sought : Option ℕ) (held : Channels) → (stream_given id sought held).holds ≡ held.holds
same_holds id None held = refl
same_holds id (Some t) held = refl

pub given_unheld : (s parity : ℕ) (channels : List Channel) (held : Channels) → is_given s held.rows ≡ false → is_given s (all_allocated parity channels held).rows ≡ true
    → is_stream_held s held.holds ≡ false
given_unheld s parity [] held none some = absurd cc
given_unheld s parity (channel ∷ channels) held none some =
    by (is_given s (stream_given channel.id (sought_by parity held channel) held).rows) refl
    (λ early. given_unheld s parity channels (stream_given channel.id (sought_by parity held channel) held) early some)
  where
    by : (now : Bool) → is_given s (stream_given channel.id (sought_by parity held channel) held).rows ≡ now
        → (is_given s (stream_given channel.id (sought_by parity held channel) held).rows ≡ false → is_stream_held s (stream_given channel.id (sought_by parity held channel) held).holds ≡ false)
        → is_stream_held s held.holds ≡ false
    by true is rest = step s parity channel held none is
    by false is rest = ap (λ (holds : List ℕ). is_stream_held s holds) (sym (same_holds channel.id (sought_by parity held channel) held)) ∙ rest is
