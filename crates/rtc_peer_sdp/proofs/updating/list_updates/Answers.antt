use Rattle.std.proofs.Common.{◌≡◌, ◌+◌, suc, drop, refl, arith}
use Rattle.rtc_parts.proofs.LaterLemmas.{later_none, later_join}
use Rattle.rtc_peer_core.specs.Sources.{has_source}
use Rattle.rtc_peer_core.specs.LineUpdates.{added_media, sending_of}
use Rattle.rtc_peer_sdp.proofs.UpdateLemmas.{from_place, from_index, none_from, none_behind, one_update, one_update_after}
use Rattle.rtc_peer_sdp.proofs.UpdateLemmas.{no_updates, after_no_updates, no_rows, after_no_rows, most_updates, most_with_row}
use Rattle.rtc_peer_sdp.proofs.updating.list_updates.Goals as goal

pub loop-row-preserved : goal.loop-row-preserved
loop-row-preserved g c =
    let rows_are = from_index c.loop-row.row-index c.args.rows.now c.row-item.result c.row-item.result c.loop-row-test.true c.row-item.is in
    let lines_are = from_place c.loop-row.row-index c.loop-row.place c.args.lines.now c.in-Some.line.now c.loop-row.invariant.place c.in-Some.ensures in
    let next : c.loop-row.row-index + 1 ≡ suc c.loop-row.row-index = omega arith in
    let sent = rw c.mid.ensures at c.in_ok-sending.ensures in
    record {
      place = omega (arith, c.loop-row.invariant.place);
      updates = one_update g.N.Ids.ids (has_source g.M.MediaSession.media c.args.media.now) (λ mid. sending_of (g.M.MediaSession.media.line c.args.media.now mid) (added_media c.args.changes.now mid) mid) c.args.formats.now c.args.offer c.loop-row.row-index _ c.loop-row.place c.args.before.now c.args.rows.now c.args.lines.now _ _ c.loop-row.ids _ c.loop-row.updates.items _ _ _
          c.row-item.result c.in-Some.line.now c.in_ok-sending.sending next rows_are lines_are c.loop-row.invariant.place c.row_at.ensures sent
          c.in_ok-push_update.ensures.updates c.in_ok-push_update.ensures.earlier c.in_ok-push_update.ensures.after c.loop-row.invariant.updates;
      after = one_update_after g.N.Ids.ids (has_source g.M.MediaSession.media c.args.media.now) (λ mid. sending_of (g.M.MediaSession.media.line c.args.media.now mid) (added_media c.args.changes.now mid) mid) c.loop-row.row-index _ c.args.rows.now c.args.lines.now c.loop-row.ids _ _
          c.row-item.result c.in-Some.line.now c.in_ok-sending.sending next rows_are lines_are sent c.in_ok-push_update.ensures.after c.loop-row.invariant.after;
      later = later_join g.N.Ids.ids c.args.ids.now c.loop-row.ids _ c.loop-row.invariant.later c.in_ok-push_update.ensures.later;
    }

pub returns-in_default-clause-updates : goal.returns-in_default-clause-updates
returns-in_default-clause-updates g c =
    no_updates g.N.Ids.ids (has_source g.M.MediaSession.media c.args.media.now) (λ mid. sending_of (g.M.MediaSession.media.line c.args.media.now mid) (added_media c.args.changes.now mid) mid) c.args.formats.now c.args.offer
    (drop c.loop-row.row-index c.args.before.now) (drop c.loop-row.row-index c.args.rows.now) (drop c.loop-row.row-index c.args.lines.now) c.loop-row.drawn c.loop-row.ids c.loop-row.updates.items _
    (none_from c.loop-row.row-index c.loop-row.place c.args.lines.now c.loop-row.invariant.place c.in_default.ensures) c.loop-row.invariant.updates

pub returns-in_default-clause-after : goal.returns-in_default-clause-after
returns-in_default-clause-after g c =
    after_no_updates g.N.Ids.ids (has_source g.M.MediaSession.media c.args.media.now) (λ mid. sending_of (g.M.MediaSession.media.line c.args.media.now mid) (added_media c.args.changes.now mid) mid)
    (drop c.loop-row.row-index c.args.rows.now) (drop c.loop-row.row-index c.args.lines.now) c.loop-row.ids _
    (none_from c.loop-row.row-index c.loop-row.place c.args.lines.now c.loop-row.invariant.place c.in_default.ensures) c.loop-row.invariant.after

pub returns-in_default-clause-most : goal.returns-in_default-clause-most
returns-in_default-clause-most g c =
    most_updates g.N.Ids.ids (has_source g.M.MediaSession.media c.args.media.now) (λ mid. sending_of (g.M.MediaSession.media.line c.args.media.now mid) (added_media c.args.changes.now mid) mid)
    (drop c.loop-row.row-index c.args.rows.now) (drop c.loop-row.row-index c.args.lines.now) c.loop-row.ids _ c.loop-row.invariant.after

pub returns-in_err-sending-clause-most : goal.returns-in_err-sending-clause-most
returns-in_err-sending-clause-most g c =
    most_updates g.N.Ids.ids (has_source g.M.MediaSession.media c.args.media.now) (λ mid. sending_of (g.M.MediaSession.media.line c.args.media.now mid) (added_media c.args.changes.now mid) mid)
    (drop c.loop-row.row-index c.args.rows.now) (drop c.loop-row.row-index c.args.lines.now) c.loop-row.ids _ c.loop-row.invariant.after

pub returns-in_err-push_update-clause-most : goal.returns-in_err-push_update-clause-most
returns-in_err-push_update-clause-most g c =
    let rows_are = from_index c.loop-row.row-index c.args.rows.now c.row-item.result c.row-item.result c.loop-row-test.true c.row-item.is in
    let lines_are = from_place c.loop-row.row-index c.loop-row.place c.args.lines.now c.in-Some.line.now c.loop-row.invariant.place c.in-Some.ensures in
    let sent = rw c.mid.ensures at c.in_ok-sending.ensures in
    most_with_row g.N.Ids.ids (has_source g.M.MediaSession.media c.args.media.now) (λ mid. sending_of (g.M.MediaSession.media.line c.args.media.now mid) (added_media c.args.changes.now mid) mid)
    c.loop-row.row-index c.args.rows.now c.args.lines.now c.loop-row.ids _ _ c.row-item.result c.in-Some.line.now c.in_ok-sending.sending rows_are lines_are sent
    c.in_err-push_update.ensures.most c.loop-row.invariant.after

pub returns-clause-most : goal.returns-clause-most
returns-clause-most g c =
    most_updates g.N.Ids.ids (has_source g.M.MediaSession.media c.args.media.now) (λ mid. sending_of (g.M.MediaSession.media.line c.args.media.now mid) (added_media c.args.changes.now mid) mid)
    (drop c.loop-row.row-index c.args.rows.now) (drop c.loop-row.row-index c.args.lines.now) c.loop-row.ids _ c.loop-row.invariant.after

pub returns-in_default-clause-later : goal.returns-in_default-clause-later
returns-in_default-clause-later g c = c.loop-row.invariant.later

pub returns-in_err-sending-clause-later : goal.returns-in_err-sending-clause-later
returns-in_err-sending-clause-later g c = c.loop-row.invariant.later

pub returns-in_err-push_update-clause-later : goal.returns-in_err-push_update-clause-later
returns-in_err-push_update-clause-later g c =
    later_join g.N.Ids.ids c.args.ids.now c.loop-row.ids _ c.loop-row.invariant.later c.in_err-push_update.ensures.later

pub returns-clause-later : goal.returns-clause-later
returns-clause-later g c = c.loop-row.invariant.later

pub returns-clause-updates : goal.returns-clause-updates
returns-clause-updates g c =
    no_rows g.N.Ids.ids (has_source g.M.MediaSession.media c.args.media.now) (λ mid. sending_of (g.M.MediaSession.media.line c.args.media.now mid) (added_media c.args.changes.now mid) mid) c.args.formats.now c.args.offer
    (drop c.loop-row.row-index c.args.before.now) (drop c.loop-row.row-index c.args.rows.now) (drop c.loop-row.row-index c.args.lines.now) c.loop-row.drawn c.loop-row.ids c.loop-row.updates.items _
    (none_behind c.loop-row.row-index c.args.rows.now (omega (arith, c.loop-row-test.false))) c.loop-row.invariant.updates

pub returns-clause-after : goal.returns-clause-after
returns-clause-after g c =
    after_no_rows g.N.Ids.ids (has_source g.M.MediaSession.media c.args.media.now) (λ mid. sending_of (g.M.MediaSession.media.line c.args.media.now mid) (added_media c.args.changes.now mid) mid)
    (drop c.loop-row.row-index c.args.rows.now) (drop c.loop-row.row-index c.args.lines.now) c.loop-row.ids _
    (none_behind c.loop-row.row-index c.args.rows.now (omega (arith, c.loop-row-test.false))) c.loop-row.invariant.after

pub loop-row-init : goal.loop-row-init
loop-row-init g c = record {
  place = refl;
  updates = rw (c.new-updates.ensures.items, c.new-drawn.ensures) refl;
  after = refl;
  later = later_none g.N.Ids.ids c.args.ids.now;
}
