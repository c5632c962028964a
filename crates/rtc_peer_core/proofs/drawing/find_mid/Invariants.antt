use Rattle.std.proofs.Common.{◌≡◌, ◌-◌, ◌||◌}
use Rattle.rtc_peer_rows.specs.Table.{has_mid}
use Rattle.rtc_peer_core.specs.Names.{free_mid}
use Rattle.rtc_peer_core.specs.StagedIndex.{is_indexed_mid}
use Rattle.rtc_peer_core.proofs.drawing.find_mid.Given as goal

abbrev pub invariant-loop : goal.invariant-loop
invariant-loop l = free_mid (λ mid. has_mid mid l.lines || is_indexed_mid l.mids l.app mid) (l.tries - l.counter) l.n ≡ free_mid (λ mid. has_mid mid l.lines || is_indexed_mid l.mids l.app mid) l.tries l.first
