use Rattle.std.proofs.Common.{◌∙◌, rules}
use Rattle.rtc_c_handle.proofs.Staged.{staged_one, staged_last, staged_all}
use Rattle.rtc_c_handle.proofs.staging.stage_changes.Goals as goal

pub loop-change-preserved : goal.loop-change-preserved
loop-change-preserved c =
    record {
      same = search rules;
      connection = c.stage_change.ensures.connection ∙ c.loop-change.invariant.connection;
      left = staged_one c.args.changes.now c.args.api.now.rtc.now.core c.loop-change.api.rtc.now.core c.stage_change.new.api.rtc.now.core c.loop-change.change-index c.change-item.result c.loop-change-test.true c.change-item.is c.in-Ok.ensures.stages c.loop-change.invariant.left;
    }

pub returns-in-Err-clause-stages : goal.returns-in-Err-clause-stages
returns-in-Err-clause-stages c = staged_last c.args.changes.now c.args.api.now.rtc.now.core c.loop-change.api.rtc.now.core c.stage_change.new.api.rtc.now.core c.loop-change.change-index c.change-item.result c.in-Err.error c.loop-change-test.true c.change-item.is c.in-Err.ensures.stages c.loop-change.invariant.left

pub returns-clause-stages : goal.returns-clause-stages
returns-clause-stages c = staged_all c.args.changes.now c.args.api.now.rtc.now.core c.loop-change.api.rtc.now.core c.loop-change.change-index c.loop-change-test.false c.loop-change.invariant.left
