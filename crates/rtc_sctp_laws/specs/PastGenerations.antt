-- Generations that a stream is past: nothing is written to them any more.
use Rattle.std.specs.Prelude.{ℕ, ◌≡◌, ◌<◌, ◌⊎◌, true, List, []}
use Rattle.rtc_parts.specs.AssociationMeaning.{AssociationMeaning}
use Rattle.rtc_parts.specs.AssociationActs.{AssociationAct}
use Rattle.rtc_parts.specs.AssociationWords.{written}
use Rattle.rtc_sctp_laws.specs.StreamUses.{is_spent_stream}

-- the stream has a later generation, or it has this one and takes no message any more
abbrev pub IsPast : {S : Type 0} → AssociationMeaning S → (stream generation : ℕ) → S → Type 0
IsPast m s g a = (g < m.generation a s) ⊎ ((m.generation a s ≡ g) × (is_spent_stream m s a ≡ true))

-- acts leave it past the generation, and wrote nothing to this
pub record StaysPast {S : Type 0} (m : AssociationMeaning S) (s g : ℕ) (acts : List AssociationAct) (b : S) : Type 0 where
  pub past : IsPast m s g b
  pub none : written s g acts ≡ []
