use Rattle.std.proofs.Common.{◌≡◌, ◌≤◌, drop, take, length, vec_capacity}
use Rattle.rtc_run_history.specs.Runs.{Runs}
use Rattle.rtc_run_laws.specs.Drains.{HaveMoments}
use Rattle.rtc_peer_core.specs.Meanings.{meanings}
use Rattle.rtc_run.proofs.running.run_pair.Given as goal

-- The steps so far are a run. The moments of all steps are of 64 bits if those of the steps to come are.
abbrev pub invariant-loop-step : goal.invariant-loop-step
invariant-loop-step g l =
    record {
      runs : Runs (meanings g.I.IceAgent.ice g.D.DtlsInstance.dtls g.S.Association.association g.M.MediaSession.media g.N.Ids.ids) g.I.StunReader.stun l.fn.pair (take l.step-index l.steps) l.replies.items l.pair;
      count : length l.replies.items ≡ l.step-index;
      room : length l.steps ≤ vec_capacity l.replies;
      moments : HaveMoments (drop l.step-index l.steps) → HaveMoments l.steps;
    }
