use Rattle.std.proofs.Common.{◌≡◌, ◌-◌, not, drop, length}
use Rattle.std.specs.Prelude.{is_some}
use Rattle.std.specs.List.{list_any}
use Rattle.rtc_channels.proofs.allocating.any_bare.Given as goal

abbrev pub invariant-places : goal.invariant-places
invariant-places l = list_any (λ row. not (is_some row.1)) (drop l.place l.rows) ≡ list_any (λ row. not (is_some row.1)) (drop l.from l.rows)

abbrev pub decreases-places : goal.decreases-places
decreases-places l = length l.rows - l.place
