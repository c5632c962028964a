use Rattle.std.proofs.Common.{◌≡◌, ◌≤◌, ◌+◌, ◌++◌, filter, length}
use Rattle.std.specs.Vec.{vec_len, vec_capacity}
use Rattle.rtc_peer_core.specs.Staging.{is_kept_by_restart}
use Rattle.rtc_peer_core.proofs.staged.move_kept.Given as goal

abbrev pub invariant-loop-change : goal.invariant-loop-change
invariant-loop-change l = record {
  items : l.all.items ≡ l.initial.all.items ++ filter is_kept_by_restart l.yielded;
  len : vec_len l.all ≤ vec_len l.initial.all + length l.yielded;
  capacity : vec_capacity l.all ≡ vec_capacity l.initial.all;
}
