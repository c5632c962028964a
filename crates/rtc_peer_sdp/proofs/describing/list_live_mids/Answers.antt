use Rattle.std.proofs.Common.{◌∙◌, sym}
use Rattle.rtc_peer_sdp.proofs.ToldLemmas.{here_next, stopped_row, live_row}
use Rattle.rtc_peer_sdp.proofs.describing.list_live_mids.Goals as goal

pub loop-told-preserved-then-is_stopped_row : goal.loop-told-preserved-then-is_stopped_row
loop-told-preserved-then-is_stopped_row c =
    stopped_row c.told-item.result _ _ c.loop-told.mids.items _
    (here_next c.loop-told.told-index c.args.rows.now c.told-item.result c.told-item.result c.loop-told-test.true c.told-item.is)
    (sym c.is_stopped_row.ensures ∙ c.if-is_stopped_row.true) c.loop-told.invariant

pub loop-told-preserved : goal.loop-told-preserved
loop-told-preserved c =
    live_row c.told-item.result _ _ c.loop-told.mids.items _ _
    (here_next c.loop-told.told-index c.args.rows.now c.told-item.result c.told-item.result c.loop-told-test.true c.told-item.is)
    (sym c.is_stopped_row.ensures ∙ c.if-is_stopped_row.false) (rw c.mid.ensures at c.in_ok-push.ensures.items) c.loop-told.invariant
