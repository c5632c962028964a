use Rattle.std.proofs.Common.{◌≡◌, ◌++◌, drop}
use Rattle.rtc_peer_rows.specs.NamedMids.{named_mids}
use Rattle.rtc_peer_rows.proofs.bundled.list_named.Given as goal

abbrev pub invariant-loop-group : goal.invariant-loop-group
invariant-loop-group l = l.mids.items ++ named_mids (drop l.group-index l.groups) ≡ named_mids l.groups
