use Rattle.std.proofs.Common.{rules}
use Rattle.rtc_run_steps.proofs.RolledBack.{rolled_lent, rows_of_rollback, channels_of_rollback}
use Rattle.rtc_run_steps.proofs.rolling_back.rollback.Goals as goal

pub returns-clause-rolls_back : goal.returns-clause-rolls_back
returns-clause-rolls_back g c = rolled_lent c.args.rtc.now.core c.sdp_api.result.rtc.now.core c.rollback.new.self.0.core _ c.args.pending c.rollback.result c.sdp_api.ensures.peer c.rollback.ensures.rolls_back (search rules)

pub returns-clause-rows : goal.returns-clause-rows
returns-clause-rows g c = rows_of_rollback c.args.rtc.now.core c.sdp_api.result.rtc.now.core c.rollback.new.self.0.core c.args.pending c.rollback.result _ c.sdp_api.ensures.peer c.rollback.ensures.rolls_back (search rules)

pub returns-clause-channels : goal.returns-clause-channels
returns-clause-channels g c = channels_of_rollback c.args.rtc.now.core c.sdp_api.result.rtc.now.core c.rollback.new.self.0.core c.args.pending c.rollback.result _ c.sdp_api.ensures.peer c.rollback.ensures.rolls_back (search rules)
