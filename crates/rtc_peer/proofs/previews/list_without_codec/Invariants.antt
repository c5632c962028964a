use Rattle.std.proofs.Common.{◌≡◌, ◌++◌, drop}
use Rattle.rtc_peer.specs.Previews as spec
use Rattle.rtc_peer.proofs.previews.list_without_codec.Given as goal

abbrev pub invariant-loop-change : goal.invariant-loop-change
invariant-loop-change l = l.mids.items ++ spec.added_without_codec l.rows (drop l.change-index l.changes) ≡ spec.added_without_codec l.rows l.changes
