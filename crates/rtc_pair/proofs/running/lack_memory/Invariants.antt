use Rattle.std.proofs.Common.{◌≡◌, drop}
use Rattle.rtc_pair.specs.Performed.{lack_memory}
use Rattle.rtc_pair.proofs.running.lack_memory.Given as goal

abbrev pub invariant-loop-reply : goal.invariant-loop-reply
invariant-loop-reply l = lack_memory (drop l.reply-index l.replies) ≡ lack_memory l.replies
