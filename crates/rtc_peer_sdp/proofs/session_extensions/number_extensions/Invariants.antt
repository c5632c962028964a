use Rattle.std.proofs.Common.{◌≡◌, [], drop}
use Rattle.rtc_peer_core.specs.SessionExtensions as spec
use Rattle.rtc_peer_sdp.proofs.session_extensions.number_extensions.Given as goal

abbrev pub invariant-loop-row : goal.invariant-loop-row
invariant-loop-row l = spec.numbered_extensions l.used l.made.items (drop l.row-index l.rows) ≡ spec.numbered_extensions l.used [] l.rows
