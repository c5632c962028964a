-- What is reported and got of a channel that the other side has not announced.
use Rattle.std.specs.Prelude.{ℕ, ◌≡◌, ◌<◌, ◌-◌, ◌^◌, ◌⊎◌, Bool, true, List, [], Some}
use Rattle.rtc_parts.specs.Among.{Member}
use Rattle.rtc_run_history.specs.declared.side.Side.{Side}
use Rattle.rtc_run_history.specs.PairState.{rtc_at}
use Rattle.rtc_run_laws.specs.ChannelUses.{ChannelUse}
use Rattle.rtc_run_laws.specs.PlainPairs.{PlainPair}
use Rattle.rtc_run_laws.specs.ToldMessages.{MessagesTold}

-- a side announced a channel in-band over a generation of a stream
pub record IsAnnouncedOver (s g : ℕ) (uses : List ChannelUse) : Type 0 where
  pub use_of : ChannelUse
  pub member : Member use_of uses
  pub in_band : use_of.in_band ≡ true
  pub stream_is : use_of.stream ≡ Some s
  pub generation_is : use_of.generation ≡ g

-- of whatever channel: nothing was reported while it had a stream in a generation to which nothing was sent
abbrev pub AreToldOfSent : (sent : ℕ → ℕ → List (Bool × List ℕ)) → MessagesTold → Type 0
AreToldOfSent sent told = (channel s g : ℕ) → sent s g ≡ [] → told channel s g ≡ []

-- a channel that was announced in-band over such a generation got nothing
abbrev pub AreGotOfSent : (sent : ℕ → ℕ → List (Bool × List ℕ)) → List ChannelUse → Type 0
AreGotOfSent sent uses =
    (x : ChannelUse) → Member x uses → x.in_band ≡ true → (s : ℕ) → x.stream ≡ Some s → sent s x.generation ≡ [] → x.got ≡ []

-- nothing was sent to a generation of a stream, or a channel was announced over it
abbrev pub AreSentOfAnnounced : List ChannelUse → (sent : ℕ → ℕ → List (Bool × List ℕ)) → Type 0
AreSentOfAnnounced uses sent = (s g : ℕ) → (sent s g ≡ []) ⊎ IsAnnouncedOver s g uses

-- nothing was reported of whatever channel in a generation of a stream, or the other side announced a channel over it
abbrev pub AreToldOfAnnounced : (others : List ChannelUse) → MessagesTold → Type 0
AreToldOfAnnounced others told = (channel s g : ℕ) → (told channel s g ≡ []) ⊎ IsAnnouncedOver s g others

-- nor was anything got over a channel that was announced in-band
abbrev pub AreGotOfAnnounced : (others uses : List ChannelUse) → Type 0
AreGotOfAnnounced others uses =
    (x : ChannelUse) → Member x uses → x.in_band ≡ true → (s : ℕ) → x.stream ≡ Some s → (x.got ≡ []) ⊎ IsAnnouncedOver s x.generation others

-- a number is left for a channel at both sides
abbrev pub HaveNumbersLeft : {N : Type 0} → PlainPair N → Type 0
HaveNumbersLeft pair = (at : Side) → (rtc_at at pair).core.channels.given < 2 ^ 64 - 1
