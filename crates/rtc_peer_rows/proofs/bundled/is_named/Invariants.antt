use Rattle.std.proofs.Common.{◌≡◌, drop}
use Rattle.rtc_sdp_values.specs.Mids.{is_bundled}
use Rattle.rtc_peer_rows.proofs.bundled.is_named.Given as goal

abbrev pub invariant-loop-group : goal.invariant-loop-group
invariant-loop-group l = is_bundled (drop l.group-index l.groups) l.mid ≡ is_bundled l.groups l.mid
