use Rattle.std.proofs.Common.{◌≡◌, ◌++◌, drop, string_bytes}
use Rattle.rtc_gate.specs.ReplyLines.{reply_lines}
use Rattle.rtc_gate.proofs.replying.write_replies.Given as goal

-- the lines so far, and those of the replies to come, are all lines
abbrev pub invariant-loop-reply : goal.invariant-loop-reply
invariant-loop-reply l = string_bytes l.out ++ reply_lines (drop l.reply-index l.replies) ≡ reply_lines l.replies
