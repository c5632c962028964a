-- That a channel is announced at most once, and so is a generation of a stream, of those that were opened in-band.
use Rattle.std.specs.Prelude.{◌≡◌, true, List, [], ◌∷◌}
use Rattle.rtc_run_laws.specs.ChannelUses.{ChannelUse}

-- two that were opened in-band are of two channels, and not over one generation of a stream
abbrev pub IsAnother : ChannelUse → ChannelUse → Type 0
IsAnother x y =
    x.in_band ≡ true → y.in_band ≡ true → (x.channel ≡ y.channel → ⊥) × (x.stream ≡ y.stream → x.generation ≡ y.generation → ⊥)

abbrev pub AreOthers : ChannelUse → List ChannelUse → Type 0
AreOthers x [] = Unit {0}
AreOthers x (y ∷ uses) = IsAnother x y × AreOthers x uses

-- so it is for each two of these channels, none of which is then announced twice if it was opened in-band
abbrev pub AreAnnouncedOnce : List ChannelUse → Type 0
AreAnnouncedOnce [] = Unit {0}
AreAnnouncedOnce (x ∷ uses) = AreOthers x uses × AreAnnouncedOnce uses
