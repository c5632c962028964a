use Rattle.rtc_channels.proofs.GrantLemmas.{unheld_owner, unheld_holds}
use Rattle.rtc_channels.proofs.grants.drop_holds.Goals as goal

pub returns-clause-owner : goal.returns-clause-owner
returns-clause-owner c = λ q. unheld_owner c.args.grants.now c.clear_holds.new.grants c.drop_unowned.new.grants q c.clear_holds.ensures c.drop_unowned.ensures.ordered c.drop_unowned.ensures.entries

pub returns-clause-holds : goal.returns-clause-holds
returns-clause-holds c = λ q. unheld_holds c.args.grants.now c.clear_holds.new.grants c.drop_unowned.new.grants q c.clear_holds.ensures c.drop_unowned.ensures.ordered c.drop_unowned.ensures.entries
