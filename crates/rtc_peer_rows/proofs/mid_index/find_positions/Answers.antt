use Rattle.std.proofs.Common.{◌≡◌, ◌+◌, ◌-◌, arith}
use Rattle.rtc_peer_rows.proofs.MidIndexLemmas.{no_positions, position_step}
use Rattle.rtc_peer_rows.proofs.mid_index.find_positions.Goals as goal

pub loop-at-init : goal.loop-at-init
loop-at-init c = record { held = no_positions c.new-positions.result c.args.rows.now c.new-positions.ensures.empty; within = omega arith }

pub loop-at-preserved : goal.loop-at-preserved
loop-at-preserved c =
    let next : c.loop-at.at - 1 + 1 ≡ c.loop-at.at = omega (arith, c.loop-at-test.true) in
    record {
      held = position_step c.loop-at.positions c.insert.new.self c.loop-at.at (c.loop-at.at - 1) c.args.rows.now c.index-rows-at.result c.mid.result
          next c.loop-at.invariant.within c.index-rows-at.is c.mid.ensures c.loop-at.invariant.held c.in_ok-insert.ensures.updates.0;
      within = omega (arith, c.loop-at.invariant.within);
    }
