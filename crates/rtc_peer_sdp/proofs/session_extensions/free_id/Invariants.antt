use Rattle.std.proofs.Common.{◌≡◌, drop}
use Rattle.rtc_peer_core.specs.SessionExtensions as spec
use Rattle.rtc_peer_sdp.proofs.session_extensions.free_id.Given as goal

abbrev pub invariant-loop-id : goal.invariant-loop-id
invariant-loop-id l = spec.free_id l.used l.made (drop l.id-index l.ids) ≡ spec.free_id l.used l.made l.ids
