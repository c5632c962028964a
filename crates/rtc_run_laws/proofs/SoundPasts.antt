-- Pasts whose entries are sound, one after another.
use Rattle.std.specs.Prelude.{List, [], ◌∷◌}
use Rattle.rtc_run_history.specs.Past.{Entry}
use Rattle.rtc_run_history.specs.SoundEntry.{IsSoundEntry}
use Rattle.rtc_run_history.specs.Views.{Stances}

-- an entry is sound after a past, for what the sides are before and after it
pub record IsSoundIn {E : Type 0} (fresh : Stances) (past : List (Entry E)) (entry : Entry E) : Type 0 where
  pub between : Stances
  pub after : Stances
  pub sound : IsSoundEntry fresh past between entry after

abbrev pub Sound : {E : Type 0} → Stances → List (Entry E) → Type 0
Sound fresh [] = Unit {0}
Sound fresh (entry ∷ past) = IsSoundIn fresh past entry × Sound fresh past
