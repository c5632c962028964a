use Rattle.std.proofs.Common.{rules}
use Rattle.rtc_c_handle.proofs.Offered.{not_staged, offered, unsaid, not_applied}
use Rattle.rtc_c_handle.proofs.staging.make_offer.Goals as goal

pub returns-in-Err-clause-makes : goal.returns-in-Err-clause-makes
returns-in-Err-clause-makes c = not_staged c.args.rtc.now.core c.sdp_api-api.result.rtc.now.core c.stage_changes.new.api.rtc.now.core _ c.args.changes.now c.in-Err.error c.sdp_api-api.ensures.peer c.in-Err.ensures.stages (search rules)

pub returns-in-Ok-Some-clause-makes : goal.returns-in-Ok-Some-clause-makes
returns-in-Ok-Some-clause-makes c = offered c.args.rtc.now.core c.sdp_api-api.result.rtc.now.core c.stage_changes.new.api.rtc.now.core c.apply.new.self.0.core _ c.args.changes.now _ _ _ _ c.sdp_api-api.ensures.peer c.in-Ok.ensures.stages c.in-Ok-Some.is c.in-Ok-Some.field-0-is c.apply.ensures.applies (search rules)

pub returns-in-Ok-None-clause-makes : goal.returns-in-Ok-None-clause-makes
returns-in-Ok-None-clause-makes c = unsaid c.args.rtc.now.core c.sdp_api-api.result.rtc.now.core c.stage_changes.new.api.rtc.now.core c.apply.new.self.0.core _ c.args.changes.now _ _ c.sdp_api-api.ensures.peer c.in-Ok.ensures.stages c.in-Ok-None.is c.in-Ok-None.field-0-is c.apply.ensures.applies (search rules)

pub returns-in-Err-apply-clause-makes : goal.returns-in-Err-apply-clause-makes
returns-in-Err-apply-clause-makes c = not_applied c.args.rtc.now.core c.sdp_api-api.result.rtc.now.core c.stage_changes.new.api.rtc.now.core c.apply.new.self.0.core _ c.args.changes.now _ _ c.sdp_api-api.ensures.peer c.in-Ok.ensures.stages c.in-Err-apply.is c.apply.ensures.applies (search rules)
