use Rattle.std.proofs.Common.{◌≡◌, ◌≤◌, ◌++◌, List, length, drop, vec_capacity}
use Rattle.rtc_peer_core.specs.declared.peer.Peer.{Peer}
use Rattle.rtc_run_history.specs.declared.op_answer.OpAnswer.{OpAnswer}
use Rattle.rtc_run_history.specs.Performs.{PerformsOps}
use Rattle.rtc_peer_core.specs.Meanings.{meanings}
use Rattle.rtc_run_steps.proofs.negotiating.perform_ops.Given as goal

-- how the ops that are left go on, all of them do
abbrev pub invariant-loop-op : goal.invariant-loop-op
invariant-loop-op g l =
    record {
      same : l.api.rtc.ghost_name ≡ l.fn.api.rtc.ghost_name;
      connection : l.api.rtc.now.transport ≡ l.fn.api.rtc.now.transport;
      done : (more : List OpAnswer) (q : Peer g.row.I.Denot g.row.D.Denot g.row.S.Denot g.row.M.Denot g.row.N.Denot) → PerformsOps (meanings g.I.IceAgent.ice g.D.DtlsInstance.dtls g.S.Association.association g.M.MediaSession.media g.N.Ids.ids) l.api.rtc.now.core (drop l.op-index l.ops) more q → PerformsOps (meanings g.I.IceAgent.ice g.D.DtlsInstance.dtls g.S.Association.association g.M.MediaSession.media g.N.Ids.ids) l.fn.api.rtc.now.core l.ops (l.room.items ++ more) q;
      count : length l.room.items ≡ l.op-index;
      room : length l.ops ≤ vec_capacity l.room;
    }
