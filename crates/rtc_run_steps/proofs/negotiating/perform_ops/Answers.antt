use Rattle.std.proofs.Common.{sym, ◌∙◌, rules, subst}
use Rattle.rtc_run_history.specs.Performs.{PerformsOps}
use Rattle.rtc_run_steps.proofs.Ops.{ops_go_on, ops_end, ops_all}
use Rattle.rtc_peer_core.specs.Meanings.{meanings}
use Rattle.rtc_run_steps.proofs.negotiating.perform_ops.Goals as goal

pub loop-op-preserved : goal.loop-op-preserved
loop-op-preserved g c =
    record {
      same = search rules;
      connection = c.perform_op-answer.ensures.connection ∙ c.loop-op.invariant.connection;
      done = ops_go_on (meanings g.I.IceAgent.ice g.D.DtlsInstance.dtls g.S.Association.association g.M.MediaSession.media g.N.Ids.ids) c.args.api.now.rtc.now.core c.loop-op.api.rtc.now.core c.perform_op-answer.new.api.rtc.now.core c.args.ops.now c.loop-op.op-index c.op-item.result c.perform_op-answer.result c.loop-op.room.items c.push_reserved-in-loop-op.new.self.items c.loop-op-test.true c.op-item.is (sym c.is_out_of_memory.ensures ∙ c.if-is_out_of_memory.false) c.push_reserved-in-loop-op.ensures.items c.perform_op-answer.ensures.performs c.loop-op.invariant.done;
      count = search rules;
      room = search rules;
    }

pub returns-then-is_out_of_memory-clause-performs : goal.returns-then-is_out_of_memory-clause-performs
returns-then-is_out_of_memory-clause-performs g c = ops_end (meanings g.I.IceAgent.ice g.D.DtlsInstance.dtls g.S.Association.association g.M.MediaSession.media g.N.Ids.ids) c.args.api.now.rtc.now.core c.loop-op.api.rtc.now.core c.perform_op-answer.new.api.rtc.now.core c.args.ops.now c.loop-op.op-index c.op-item.result c.perform_op-answer.result c.loop-op.room.items _ c.loop-op-test.true c.op-item.is (sym c.is_out_of_memory.ensures ∙ c.if-is_out_of_memory.true) (c.new.ensures ∙ c.push_reserved.ensures.items) c.perform_op-answer.ensures.performs c.loop-op.invariant.done

pub returns-clause-performs : goal.returns-clause-performs
returns-clause-performs g c = subst (λ room. PerformsOps (meanings g.I.IceAgent.ice g.D.DtlsInstance.dtls g.S.Association.association g.M.MediaSession.media g.N.Ids.ids) c.args.api.now.rtc.now.core c.args.ops.now room c.loop-op.api.rtc.now.core) (sym c.new-2.ensures) (ops_all (meanings g.I.IceAgent.ice g.D.DtlsInstance.dtls g.S.Association.association g.M.MediaSession.media g.N.Ids.ids) c.args.api.now.rtc.now.core c.loop-op.api.rtc.now.core c.args.ops.now c.loop-op.op-index c.loop-op.room.items c.loop-op-test.false c.loop-op.invariant.done)
