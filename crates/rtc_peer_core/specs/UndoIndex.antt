-- What is kept beside the rows that staged changes set or stopped, so that one is found by its mid.
use Rattle.std.specs.Prelude.{◌≡◌, ℕ, List}
use Rattle.std.specs.BTreeSet as set
use Rattle.std.specs.BTreeSet.{BTreeSet}
use Rattle.std.specs.Cmp.Lexicographic.{slice_cmp}
use Rattle.std.specs.Ordering.{nat_cmp}
use Rattle.rtc_sdp_values.specs.Mids.{is_among, AreDistinct}
use Rattle.rtc_peer_core.specs.Undo.{RowBefore, undo_mids}

-- the set has the mids of the rows, each of which is noted once
pub record IsNoted (undo : List RowBefore) (mids : BTreeSet (List ℕ)) : Type 0 where
  pub held : (mid : List ℕ) → set.contains (slice_cmp nat_cmp) mids mid ≡ is_among (undo_mids undo) mid
  pub once : AreDistinct (undo_mids undo)
