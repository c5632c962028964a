use Rattle.std.proofs.Common.{◌≡◌, true, subst}
use Rattle.rtc_sctp.specs.Streams.{SctpStreams}
use Rattle.rtc_sctp.specs.Polls.{AreResting}
use Rattle.rtc_sctp.proofs.streams.RtcSctp.is_resting.Goals as goal

pub returns-clause-left : goal.returns-clause-left
returns-clause-left g c =
    subst (λ (x : SctpStreams _). x.rests ≡ true → AreResting g.S.Association.association x.association x.state x.last x.entries) c.self.view_is
    c.self.invariant.1
