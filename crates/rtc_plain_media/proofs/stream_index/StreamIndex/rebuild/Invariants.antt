use Rattle.std.proofs.Common.{◌≡◌, ◌+◌, ℕ, take, length}
use Rattle.rtc_plain_media.specs.StreamIndex.{FindsStreams, FitsStreams, HasSpare}
use Rattle.rtc_plain_media.proofs.stream_index.StreamIndex.rebuild.Given as goal

abbrev pub invariant-loop-at : goal.invariant-loop-at
invariant-loop-at l = record {
  found : FindsStreams l.self (take l.at l.rows);
  spare : (left : ℕ) → l.at + left ≡ length l.rows → HasSpare l.self left;
  fits : FitsStreams l.self (length l.rows);
}
