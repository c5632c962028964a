use Rattle.rtc_peer_staging.specs.ShownChannels.{numbered_row}
use Rattle.rtc_peer_staging.proofs.ShownLemmas.{one_shown}
use Rattle.rtc_peer_staging.proofs.showing.list_rows.Goals as goal

pub loop-row-preserved : goal.loop-row-preserved
loop-row-preserved g c =
    one_shown (numbered_row g.S.Association.association c.args.sctp.now) c.loop-row.row-index c.args.rows.now c.row-item.result c.row-item.result
    c.loop-row.shown.items _ _ c.loop-row-test.true c.row-item.is (rw c.make_row.ensures at c.in_ok-push.ensures.items) c.loop-row.invariant
