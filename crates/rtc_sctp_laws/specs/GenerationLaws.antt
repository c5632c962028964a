-- How the generations of the streams of an association change: by packets of the other end alone, and not otherwise than to another one.
use Rattle.std.specs.Prelude.{ℕ, ◌≡◌, ◌||◌, Bool, true, false, List, [], ◌∷◌, Ok, Err}
use Rattle.rtc_parts.specs.declared.assoc_error.AssocError.TheVariants.{Fault}
use Rattle.rtc_parts.specs.AssociationMeaning.{AssociationMeaning}
use Rattle.rtc_parts.specs.AssociationActs.{AssociationAct, Opened, Given, Read, Acted}

-- whether an act gives a packet
abbrev pub gives_packet : AssociationAct → Bool
gives_packet (Given packet) = true
gives_packet _ = false

-- whether an act opens a stream, or reads of one
abbrev pub opens_or_reads : AssociationAct → Bool
opens_or_reads (Opened stream generation) = true
opens_or_reads (Read stream generation identifier bytes) = true
opens_or_reads _ = false

-- acts that open and read no stream
abbrev pub OpenAndReadNone : List AssociationAct → Type 0
OpenAndReadNone [] = Unit {0}
OpenAndReadNone (act ∷ acts) = (opens_or_reads act ≡ false) × OpenAndReadNone acts

-- A stream has the generation it had. If it was there, it still is; if this end closed it, it is still closed; and an association that is
-- closing or closed stays so.
pub record KeepsGeneration {S : Type 0} (m : AssociationMeaning S) (s : ℕ) (a b : S) : Type 0 where
  pub generation_is : m.generation b s ≡ m.generation a s
  pub there : m.has_stream a s ≡ true → m.has_stream b s ≡ true
  pub closed : m.closed_here a s ≡ true → m.closed_here b s ≡ true
  pub ending : (m.closing a || m.closed a) ≡ true → (m.closing b || m.closed b) ≡ true

-- What further holds of an association whose streams get another generation only by packets.
pub record GenerationLaws {S : Type 0} (m : AssociationMeaning S) : Type 0 where
  -- no other act changes a generation
  pub acts_keep : (s : ℕ) (a b : S) (act : AssociationAct) → gives_packet act ≡ false → Acted m a act b → KeepsGeneration m s a b
  -- and within a generation a packet changes nothing of that either
  pub packets_keep : (s now : ℕ) (bytes : List ℕ) (a b : S) (r : _) → m.given a now bytes r b → m.generation b s ≡ m.generation a s
      → KeepsGeneration m s a b
  -- a stream that is opened is there, and one that is ended is closed by this end; ending a stream meets no fault of the device
  pub opens : (s : ℕ) (a b : S) → m.opened a s (Ok tt) b → m.has_stream b s ≡ true
  pub ends : (s : ℕ) (a b : S) → m.ended a s (Ok tt) b → m.closed_here b s ≡ true
  pub sound : (s : ℕ) (a b : S) → m.ended a s (Err Fault) b → ⊥
