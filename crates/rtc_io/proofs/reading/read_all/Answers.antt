use Rattle.std.proofs.Common.{◌≤◌, ◌+◌, ℕ, List, ◌++◌, length, take, length-append, length-take, arith, rules}
use Rattle.std.specs.Io.KnownBytes.{Consumes}
use Rattle.rtc_io.proofs.Pieces.{consumes_more}
use Rattle.rtc_io.proofs.reading.read_all.Goals as goal

pub returns-in_err-extend_from_slice-in-Ok-clause-taken : goal.returns-in_err-extend_from_slice-in-Ok-clause-taken
returns-in_err-extend_from_slice-in-Ok-clause-taken g c =
    let taken = c.loop-piece.bytes.items ++ take c.in-Ok.count c.read.new.buf in
    let h : (taken : List ℕ) × Consumes (g.R.Source.left c.args.input.now) (g.R.Source.left c.read.new.self) taken × (length taken ≤ c.args.limit + 1) =
    (taken, consumes_more _ _ _ _ _ c.loop-piece.invariant.bytes c.in-Ok.ensures.bytes.0, simp (length-append, length-take) (omega (arith, c.in-Ok.ensures.bound, c.loop-piece.invariant.most, c.read.auto.buf, length-take {A = ℕ}))) in
    search rules
