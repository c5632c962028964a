use Rattle.std.proofs.Common.{◌≤◌, ◌+◌, ◌-◌, length}
use Rattle.std.specs.Io.KnownBytes.{Consumes}
use Rattle.rtc_io.proofs.reading.read_all.Given as goal

-- what was read is the front of what was left
abbrev pub invariant-loop-piece : goal.invariant-loop-piece
invariant-loop-piece g l = record {
  bytes : Consumes (g.R.Source.left l.fn.input) (g.R.Source.left l.input) l.bytes.items;
  most : length l.bytes.items ≤ l.limit + 1;
  later : g.R.Source.faults l.fn.input ≤ g.R.Source.faults l.input;
}

-- each turn takes a byte at least
abbrev pub decreases-loop-piece : goal.decreases-loop-piece
decreases-loop-piece g l = l.limit + 1 - length l.bytes.items
