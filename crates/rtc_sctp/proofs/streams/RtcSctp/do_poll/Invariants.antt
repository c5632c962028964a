use Rattle.std.proofs.Common.{ℕ}
use Rattle.rtc_sctp.specs.Polls.{Over, streams_work}
use Rattle.rtc_sctp.proofs.streams.RtcSctp.do_poll.Given as goal

abbrev pub invariant-passes : goal.invariant-passes
invariant-passes g l = (n : ℕ) × Over g.S.Association.association n l.fn.self l.self

abbrev pub decreases-passes : goal.decreases-passes
decreases-passes g l = streams_work g.S.Association.association l.self
