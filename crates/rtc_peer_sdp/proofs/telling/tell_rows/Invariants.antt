use Rattle.std.proofs.Common.{◌≡◌, ◌++◌, drop}
use Rattle.rtc_peer_core.specs.MadeSdp.{told_rows}
use Rattle.rtc_peer_sdp.proofs.telling.tell_rows.Given as goal

abbrev pub invariant-loop-row : goal.invariant-loop-row
invariant-loop-row g l =
    l.told.items ++ told_rows l.formats (g.M.MediaSession.media.line l.media) l.rest (drop l.row-index l.rows)
    ≡ told_rows l.formats (g.M.MediaSession.media.line l.media) l.updates l.rows
