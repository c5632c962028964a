use Rattle.std.proofs.Common.{◌≡◌, ◌++◌, drop, map}
use Rattle.rtc_peer_core.specs.MadeSdp.{live_mids, row_told}
use Rattle.rtc_peer_sdp.proofs.describing.list_live_mids.Given as goal

abbrev pub invariant-loop-told : goal.invariant-loop-told
invariant-loop-told l = l.mids.items ++ live_mids (map row_told (drop l.told-index l.rows)) ≡ live_mids (map row_told l.rows)
