use Rattle.std.proofs.Common.{◌≡◌, ◌+◌, ◌-◌, arith}
use Rattle.rtc_sdp_values.proofs.MidSetLemmas.{no_mids, is_put}
use Rattle.rtc_sdp_values.proofs.mid_sets.collect_mids.Goals as goal

pub loop-at-init : goal.loop-at-init
loop-at-init c = record { held = no_mids c.new-found.result c.args.mids.now c.new-found.ensures.empty; within = omega arith }

pub loop-at-preserved : goal.loop-at-preserved
loop-at-preserved c =
    let next : c.loop-at.at - 1 + 1 ≡ c.loop-at.at = omega (arith, c.loop-at-test.true) in
    let put = is_put c.loop-at.found c.insert.new.self c.args.mids.now c.loop-at.at (c.loop-at.at - 1) c.index-mids-at.result next c.loop-at.invariant.within c.index-mids-at.is
    c.loop-at.invariant.held c.in_ok-insert.ensures.updates.0 in
    record { held = put.holds; within = omega (arith, c.loop-at.invariant.within) }
