use Rattle.std.proofs.Common.{◌≡◌, drop}
use Rattle.rtc_peer.specs.Previews as spec
use Rattle.rtc_peer.proofs.previews.has_codec.Given as goal

abbrev pub invariant-loop-row : goal.invariant-loop-row
invariant-loop-row l = spec.has_codec (drop l.row-index l.rows) l.kind ≡ spec.has_codec l.rows l.kind
