use Rattle.std.proofs.Common.{◌≡◌, drop}
use Rattle.rtc_channels.specs.Kept.{channels_of}
use Rattle.rtc_channels.specs.Channels.{is_claimed}
use Rattle.rtc_channels.proofs.kept.is_claimed.Given as goal

abbrev pub invariant-loop-place : goal.invariant-loop-place
invariant-loop-place l = is_claimed l.stream (channels_of (drop l.place l.rows) (drop l.place l.kept)) ≡ is_claimed l.stream (channels_of l.rows l.kept)
