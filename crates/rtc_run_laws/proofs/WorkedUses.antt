-- Uses of channels that are worked by hand.
use Rattle.std.proofs.Common.{◌≡◌, ◌<◌, ◌∷◌, ℕ, Bool, true, false, List, [], Some, None, refl, ap, arith}
use Rattle.rtc_channels.specs.Channels.{Channel}
use Rattle.rtc_run_history.specs.declared.outcome.Outcome.TheVariants.{Wrote, NoSuch}
use Rattle.rtc_run_laws.specs.AnnouncedOnce.{AreAnnouncedOnce}
use Rattle.rtc_run_laws.specs.ChannelUses.{ChannelUse, with_got_message, with_rolled_back}
use Rattle.rtc_run_laws.specs.HandedOut.{IsHandedOut}
use Rattle.rtc_run_laws.specs.UsesOfRuns.{uses_written}

abbrev use_of : (channel stream : ℕ) → (sent got : List (Bool × List ℕ)) → ChannelUse
use_of channel stream sent got =
    record { channel = channel; stream = Some stream; generation = 0; in_band = true; negotiated = false; sent = sent; got = got; rolled_back = false }

-- two channels, of which one has sent a text
abbrev worked : List ChannelUse
worked = use_of 2 0 ((false, 104 ∷ []) ∷ []) [] ∷ use_of 5 3 [] [] ∷ []

-- a message that is taken was sent over its channel alone, and one that is not taken was not
taken_is_sent : uses_written {E = Unit {0}} 2 true (7 ∷ []) (Wrote true) worked
    ≡ use_of 2 0 ((false, 104 ∷ []) ∷ (true, 7 ∷ []) ∷ []) [] ∷ use_of 5 3 [] [] ∷ []
taken_is_sent = refl

full_is_not_sent : uses_written {E = Unit {0}} 2 true (7 ∷ []) (Wrote false) worked ≡ worked
full_is_not_sent = refl

closed_is_not_sent : uses_written {E = Unit {0}} 2 true (7 ∷ []) NoSuch worked ≡ worked
closed_is_not_sent = refl

told_is_got : with_got_message 5 (true, []) worked ≡ use_of 2 0 ((false, 104 ∷ []) ∷ []) [] ∷ use_of 5 3 [] ((true, []) ∷ []) ∷ []
told_is_got = refl

-- a rollback removes the channels that have no row any more, and what has none before is left
abbrev row_of : ℕ → Channel
row_of id = record { id = id; stream = None; negotiated = None; config = None; confirmed = false }

removed_is_marked : with_rolled_back (row_of 2 ∷ row_of 5 ∷ []) (row_of 2 ∷ []) worked
    ≡ use_of 2 0 ((false, 104 ∷ []) ∷ []) [] ∷ record (use_of 5 3 [] []) { rolled_back = true } ∷ []
removed_is_marked = refl

gone_is_left : with_rolled_back (row_of 2 ∷ []) (row_of 2 ∷ []) worked ≡ worked
gone_is_left = refl

-- no channel is announced twice
twice_refused : AreAnnouncedOnce (use_of 2 0 [] [] ∷ use_of 2 1 [] [] ∷ []) → ⊥
twice_refused h = (h.0.0 refl refl).0 refl

-- and neither is a generation of a stream
generation_refused : AreAnnouncedOnce (use_of 2 0 [] [] ∷ use_of 3 0 [] [] ∷ []) → ⊥
generation_refused h = (h.0.0 refl refl).1 refl refl

abbrev first_byte : List (Bool × List ℕ) → ℕ
first_byte [] = 0
first_byte ((binary, []) ∷ messages) = 0
first_byte ((binary, byte ∷ bytes) ∷ messages) = byte

apart : (n k : ℕ) → n ≡ k → n < k → ⊥
apart n k e lt = omega (arith, e, lt)

-- what was not sent is not got
other_refused : IsHandedOut (use_of 2 0 [] ((true, 1 ∷ []) ∷ [])) (use_of 4 0 ((true, 2 ∷ []) ∷ []) []) → ⊥
other_refused h = apart 1 2 (ap first_byte (h refl refl refl refl refl).is) (omega arith)
