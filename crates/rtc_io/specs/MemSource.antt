-- A source in memory.
use Rattle.std.specs.Prelude.{◌<◌, ◌≤◌, length, drop}
use Rattle.rtc_io.specs.declared.mem_source.MemSource.TheInside.{Inside}
use Rattle.rtc_io.specs.Feed.{Feed}

-- what a source in memory is to its callers
abbrev pub feed_of : Inside → Feed
feed_of inside = record {
  left = drop inside.taken inside.bytes;
  piece = inside.piece;
  failing = inside.failing;
  calls = inside.calls;
  faults = inside.faults;
}

-- no more was taken than there is, and each call that does not fail gives something
pub record IsFeeding (inside : Inside) : Type 0 where
  pub within : inside.taken ≤ length inside.bytes
  pub some : 0 < inside.piece
