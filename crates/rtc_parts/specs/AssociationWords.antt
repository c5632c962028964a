-- What a list of acts of an association gave, took, wrote, read and reported.
use Rattle.std.specs.Prelude.{ℕ, ◌+◌, ◌==◌, ◌&&◌, ◌||◌, if◌then◌else◌, Bool, false, List, [], ◌∷◌}
use Rattle.rtc_parts.specs.declared.assoc_event.AssocEvent.{AssocEvent}
use Rattle.rtc_parts.specs.declared.assoc_event.AssocEvent.TheVariants.{ResetComplete}
use Rattle.rtc_parts.specs.AssociationActs.{AssociationAct, Wrote, Ended, Given, Taken, Read, Told}

-- a message, by the number of its identifier
pub record AssociationMessage : Type 0 where
  pub identifier : ℕ
  pub bytes : List ℕ

-- the packets given, in order
abbrev pub given : List AssociationAct → List (List ℕ)
given [] = []
given (Given packet ∷ acts) = packet ∷ given acts
given (_ ∷ acts) = given acts

-- the packets taken, in order
abbrev pub taken : List AssociationAct → List (List ℕ)
taken [] = []
taken (Taken packet ∷ acts) = packet ∷ taken acts
taken (_ ∷ acts) = taken acts

-- the messages written to a generation of a stream, in order
abbrev pub written : ℕ → ℕ → List AssociationAct → List AssociationMessage
written s g [] = []
written s g (Wrote t h i b ∷ acts) =
    if (t == s) && (h == g) then record { identifier = i; bytes = b } ∷ written s g acts else written s g acts
written s g (_ ∷ acts) = written s g acts

-- the messages read of a generation of a stream, in order
abbrev pub read : ℕ → ℕ → List AssociationAct → List AssociationMessage
read s g [] = []
read s g (Read t h i b ∷ acts) = if (t == s) && (h == g) then record { identifier = i; bytes = b } ∷ read s g acts else read s g acts
read s g (_ ∷ acts) = read s g acts

-- whether this end closed a generation of a stream
abbrev pub ended : ℕ → ℕ → List AssociationAct → Bool
ended s g [] = false
ended s g (Ended t h ∷ acts) = ((t == s) && (h == g)) || ended s g acts
ended s g (_ ∷ acts) = ended s g acts

-- the reported events, in order
abbrev pub told : List AssociationAct → List AssocEvent
told [] = []
told (Told e ∷ acts) = e ∷ told acts
told (_ ∷ acts) = told acts

-- how many of some events are completed resets of a stream
abbrev pub completions : ℕ → List AssocEvent → ℕ
completions s [] = 0
completions s (ResetComplete t ∷ events) = (if t == s then 1 else 0) + completions s events
completions s (_ ∷ events) = completions s events
