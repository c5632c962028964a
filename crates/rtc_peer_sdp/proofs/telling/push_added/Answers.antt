use Rattle.std.proofs.Common.{◌∙◌, sym}
use Rattle.rtc_peer_sdp.proofs.ToldLemmas.{here_next, no_row_more, one_row_more, no_mid_more, one_mid_more}
use Rattle.rtc_peer_sdp.proofs.telling.push_added.Goals as goal

pub loop-change-preserved-in_default : goal.loop-change-preserved-in_default
loop-change-preserved-in_default c =
    let here = here_next c.loop-change.change-index c.args.staged.now c.change-item.result c.change-item.result c.loop-change-test.true c.change-item.is in
    let none = sym c.in_default.is ∙ c.in_ok-added.ensures in
    record {
      rows = no_row_more c.args.formats.now c.loop-change.place c.change-item.result _ _ c.loop-change.told.items _ here none c.loop-change.invariant.rows;
      count = no_mid_more c.args.formats.now c.loop-change.place _ c.change-item.result _ _ here none c.loop-change.invariant.count;
    }

pub loop-change-preserved : goal.loop-change-preserved
loop-change-preserved c =
    let here = here_next c.loop-change.change-index c.args.staged.now c.change-item.result c.change-item.result c.loop-change-test.true c.change-item.is in
    let one = sym c.in-Some.is ∙ c.in_ok-added.ensures in
    record {
      rows = one_row_more c.args.formats.now c.loop-change.place c.change-item.result _ _ c.in-Some.row c.loop-change.told.items _ _ here one
          c.in_ok-push.ensures.items c.loop-change.invariant.rows;
      count = one_mid_more c.args.formats.now c.loop-change.place _ c.change-item.result _ _ c.in-Some.row here one c.loop-change.invariant.count;
    }
