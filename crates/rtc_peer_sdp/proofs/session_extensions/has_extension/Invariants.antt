use Rattle.std.proofs.Common.{◌≡◌, drop}
use Rattle.rtc_peer_core.specs.SessionExtensions as spec
use Rattle.rtc_peer_sdp.proofs.session_extensions.has_extension.Given as goal

abbrev pub invariant-loop-row : goal.invariant-loop-row
invariant-loop-row l = spec.has_extension (drop l.row-index l.rows) l.extension ≡ spec.has_extension l.rows l.extension
