use Rattle.std.proofs.Common.{◌≡◌, drop}
use Rattle.rtc_peer_core.specs.SessionExtensions as spec
use Rattle.rtc_peer_sdp.proofs.session_extensions.is_taken.Given as goal

abbrev pub invariant-loop-row : goal.invariant-loop-row
invariant-loop-row l = spec.is_number_taken (drop l.row-index l.rows) l.id ≡ spec.is_number_taken l.rows l.id
