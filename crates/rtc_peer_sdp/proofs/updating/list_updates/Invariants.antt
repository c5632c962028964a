use Rattle.std.proofs.Common.{◌≡◌, ◌++◌, drop, []}
use Rattle.rtc_parts.specs.Draws.{Later}
use Rattle.rtc_peer_core.specs.Sources.{has_source}
use Rattle.rtc_peer_core.specs.LineUpdates.{added_media, sending_of, row_updates, after_updates}
use Rattle.rtc_peer_sdp.proofs.updating.list_updates.Given as goal

abbrev pub invariant-loop-row : goal.invariant-loop-row
invariant-loop-row g l = record {
  place : l.place ≡ l.row-index;
  updates : l.updates.items ++ row_updates g.N.Ids.ids (has_source g.M.MediaSession.media l.media)
      (λ mid. sending_of (g.M.MediaSession.media.line l.media mid) (added_media l.changes mid) mid) l.formats l.offer
      (drop l.row-index l.before) (drop l.row-index l.rows) (drop l.row-index l.lines) l.drawn l.ids
      ≡ row_updates g.N.Ids.ids (has_source g.M.MediaSession.media l.media)
      (λ mid. sending_of (g.M.MediaSession.media.line l.media mid) (added_media l.changes mid) mid) l.formats l.offer l.before l.rows l.lines [] l.fn.ids;
  after : after_updates g.N.Ids.ids (has_source g.M.MediaSession.media l.media)
      (λ mid. sending_of (g.M.MediaSession.media.line l.media mid) (added_media l.changes mid) mid)
      (drop l.row-index l.rows) (drop l.row-index l.lines) l.ids
      ≡ after_updates g.N.Ids.ids (has_source g.M.MediaSession.media l.media)
      (λ mid. sending_of (g.M.MediaSession.media.line l.media mid) (added_media l.changes mid) mid) l.rows l.lines l.fn.ids;
  later : Later g.N.Ids.ids l.fn.ids l.ids;
}
