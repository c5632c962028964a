use Rattle.rtc_peer_sdp.proofs.ToldLemmas.{here_next, one_told}
use Rattle.rtc_peer_sdp.proofs.telling.tell_rows.Goals as goal

pub loop-row-preserved : goal.loop-row-preserved
loop-row-preserved g c =
    let here = here_next c.loop-row.row-index c.args.rows.now c.row-item.result c.row-item.result c.loop-row-test.true c.row-item.is in
    rw c.updates_behind-rest.ensures
    (one_told c.args.formats.now (g.M.MediaSession.media.line c.args.media.now) c.loop-row.rest.now c.row-item.result _ _ c.in_ok-media.media c.loop-row.told.items _ _ here
    c.in_ok-media.ensures c.in_ok-push.ensures.items c.loop-row.invariant)
