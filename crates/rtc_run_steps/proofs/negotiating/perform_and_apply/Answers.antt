use Rattle.std.proofs.Common.{rules}
use Rattle.rtc_run_steps.proofs.Staged.{stages_not, stages_offer, stages_nothing, stages_alloc}
use Rattle.rtc_peer_core.specs.Meanings.{meanings}
use Rattle.rtc_run_steps.proofs.negotiating.perform_and_apply.Goals as goal

pub returns-then-not-is_asked-clause-stages : goal.returns-then-not-is_asked-clause-stages
returns-then-not-is_asked-clause-stages g c = stages_not (meanings g.I.IceAgent.ice g.D.DtlsInstance.dtls g.S.Association.association g.M.MediaSession.media g.N.Ids.ids) c.args.rtc.now.core c.sdp_api-api.result.rtc.now.core c.perform_ops-answers.new.api.rtc.now.core _ c.args.ops.now c.args.apply c.perform_ops-answers.result c.as_slice.result.now c.sdp_api-api.ensures.peer c.perform_ops-answers.ensures.performs c.as_slice.ensures c.if-not-is_asked.ensures (search rules)

pub returns-in-Ok-Some-clause-stages : goal.returns-in-Ok-Some-clause-stages
returns-in-Ok-Some-clause-stages g c = stages_offer (meanings g.I.IceAgent.ice g.D.DtlsInstance.dtls g.S.Association.association g.M.MediaSession.media g.N.Ids.ids) c.args.rtc.now.core c.sdp_api-api.result.rtc.now.core c.perform_ops-answers.new.api.rtc.now.core c.apply.new.self.0.core _ c.args.ops.now c.args.apply c.perform_ops-answers.result c.as_slice.result.now _ _ _ _ c.sdp_api-api.ensures.peer c.perform_ops-answers.ensures.performs c.as_slice.ensures c.if-not-is_asked.ensures c.in-Ok-Some.is c.in-Ok-Some.field-0-is c.apply.ensures.applies (search rules)

pub returns-in-Ok-None-clause-stages : goal.returns-in-Ok-None-clause-stages
returns-in-Ok-None-clause-stages g c = stages_nothing (meanings g.I.IceAgent.ice g.D.DtlsInstance.dtls g.S.Association.association g.M.MediaSession.media g.N.Ids.ids) c.args.rtc.now.core c.sdp_api-api.result.rtc.now.core c.perform_ops-answers.new.api.rtc.now.core c.apply.new.self.0.core _ c.args.ops.now c.args.apply c.perform_ops-answers.result c.as_slice.result.now _ _ c.sdp_api-api.ensures.peer c.perform_ops-answers.ensures.performs c.as_slice.ensures c.if-not-is_asked.ensures c.in-Ok-None.is c.in-Ok-None.field-0-is c.apply.ensures.applies (search rules)

pub returns-in-Err-clause-stages : goal.returns-in-Err-clause-stages
returns-in-Err-clause-stages g c = stages_alloc (meanings g.I.IceAgent.ice g.D.DtlsInstance.dtls g.S.Association.association g.M.MediaSession.media g.N.Ids.ids) c.args.rtc.now.core c.sdp_api-api.result.rtc.now.core c.perform_ops-answers.new.api.rtc.now.core c.apply.new.self.0.core _ c.args.ops.now c.args.apply c.perform_ops-answers.result c.as_slice.result.now _ _ c.sdp_api-api.ensures.peer c.perform_ops-answers.ensures.performs c.as_slice.ensures c.if-not-is_asked.ensures c.in-Err.is c.apply.ensures.applies (search rules)
