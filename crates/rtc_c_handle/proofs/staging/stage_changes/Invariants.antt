use Rattle.std.proofs.Common.{◌≡◌}
use Rattle.rtc_c_handle.proofs.Staged.{GoesOn}
use Rattle.rtc_c_handle.proofs.staging.stage_changes.Given as goal

-- how the changes that are left go on, all of them do
abbrev pub invariant-loop-change : goal.invariant-loop-change
invariant-loop-change l =
    record {
      same : l.api.rtc.ghost_name ≡ l.fn.api.rtc.ghost_name;
      connection : l.api.rtc.now.transport ≡ l.fn.api.rtc.now.transport;
      left : GoesOn l.changes l.fn.api.rtc.now.core l.change-index l.api.rtc.now.core;
    }
