use Rattle.std.proofs.Common.{◌≡◌, ◌≤◌, ◌+◌, ◌++◌, reverse, vec_len, vec_capacity}
use Rattle.rtc_change.specs.PendingOffer.{new_channels, without_channels}
use Rattle.rtc_change.proofs.changes.Changes.take_new_channels.Given as goal

-- what is left and what was taken apart are all of them
abbrev pub invariant-loop-change : goal.invariant-loop-change
invariant-loop-change l =
    record {
      channels : l.channels.items ++ reverse (new_channels l.staged.items) ≡ reverse (new_channels l.fn.self.0);
      others : without_channels l.staged.items ++ reverse l.others.items ≡ without_channels l.fn.self.0;
      channels_room : vec_len l.staged + (vec_len l.channels + vec_len l.others) ≤ vec_capacity l.channels;
      others_room : vec_len l.staged + (vec_len l.channels + vec_len l.others) ≤ vec_capacity l.others;
    }

abbrev pub decreases-loop-change : goal.decreases-loop-change
decreases-loop-change l = goal.left-loop-change l
