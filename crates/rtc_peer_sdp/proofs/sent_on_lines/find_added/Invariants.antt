use Rattle.std.proofs.Common.{◌≡◌, drop}
use Rattle.rtc_peer_core.specs.LineUpdates.{added_media}
use Rattle.rtc_peer_sdp.proofs.sent_on_lines.find_added.Given as goal

abbrev pub invariant-loop-change : goal.invariant-loop-change
invariant-loop-change l = added_media (drop l.change-index l.changes) l.mid ≡ added_media l.changes l.mid
