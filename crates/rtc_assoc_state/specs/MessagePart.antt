-- A message whose last piece is still missing.
use Rattle.std.specs.Prelude.{ℕ, List}

pub record MessagePart : Type 0 where
  pub stream : ℕ
  pub generation : ℕ
  pub bytes : List ℕ
