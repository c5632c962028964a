use Rattle.std.proofs.Common.{◌≡◌, drop}
use Rattle.rtc_peer_core.specs.SessionExtensions as spec
use Rattle.rtc_peer_sdp.proofs.session_extensions.session_id.Given as goal

abbrev pub invariant-loop-row : goal.invariant-loop-row
invariant-loop-row l = spec.session_id (drop l.row-index l.used) l.made l.extension ≡ spec.session_id l.used l.made l.extension
