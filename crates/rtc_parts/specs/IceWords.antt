-- What a list of acts of an ICE agent gave and took, and what it set.
use Rattle.std.specs.Prelude.{ℕ, ◌≡◌, if◌then◌else◌, true, List, [], ◌∷◌, ◌++◌, Some, Ok}
use Rattle.rtc_wire.specs.declared.transmit.Transmit.{Transmit}
use Rattle.rtc_parts.specs.Among.{Among}
use Rattle.rtc_parts.specs.IceMeaning.{IceSettings}
use Rattle.rtc_parts.specs.IceActs.{IceAct, IceCall, LiteSet, LocalSet, RemoteSet, Restarted}
use Rattle.rtc_parts.specs.IceActs.{LocalAdded, Invalidated, Given, Taken, Stirred}

-- the messages given, in order
abbrev pub ice_given : List IceAct → List (List ℕ)
ice_given [] = []
ice_given (Given message ∷ acts) = message ∷ ice_given acts
ice_given (_ ∷ acts) = ice_given acts

-- the datagrams taken, in order
abbrev pub ice_taken : List IceAct → List Transmit
ice_taken [] = []
ice_taken (Taken transmit ∷ acts) = transmit ∷ ice_taken acts
ice_taken (_ ∷ acts) = ice_taken acts

-- what a call makes of the settings: credentials and lite are what was set last, a restart gives local credentials and keeps or clears the
-- local candidates, a candidate that is taken is added at the end, and an invalidation only removes
abbrev pub CallSets : IceSettings → IceCall → IceSettings → Type 0
CallSets s (LiteSet on) t = t ≡ record s { lite = on }
CallSets s (LocalSet creds) t = t ≡ record s { local = creds }
CallSets s (RemoteSet creds) t = t ≡ record s { remote = Some creds }
CallSets s (Restarted creds keeps (Ok _)) t = t ≡ record s { local = creds; candidates = if keeps then s.candidates else [] }
CallSets s (LocalAdded candidate (Ok true)) t = t ≡ record s { candidates = s.candidates ++ candidate ∷ [] }
CallSets s (Invalidated candidate true) t = (t ≡ record s { candidates = t.candidates }) × Among t.candidates s.candidates
CallSets s _ t = t ≡ s

-- what an act makes of them: messages and datagrams keep them
abbrev pub ActSets : IceSettings → IceAct → IceSettings → Type 0
ActSets s (Stirred call) t = CallSets s call t
ActSets s _ t = t ≡ s

-- what a list of acts makes of them
abbrev pub ActsSet : IceSettings → List IceAct → IceSettings → Type 0
ActsSet s [] t = t ≡ s
ActsSet s (act ∷ acts) t = (r : IceSettings) × (ActSets s act r × ActsSet r acts t)
