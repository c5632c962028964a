use Rattle.std.proofs.Common.{refl}
use Rattle.rtc_sctp_laws.proofs.NarrowedPolls.{narrowed_polls, narrowed_deadline}
use Rattle.rtc_sctp_laws.proofs.DrainedPolls.{drained_polls}
use Rattle.rtc_sctp_laws.proofs.timeouts.narrowed_timeouts_leave.Goals as goal

pub returns-clause-polls : goal.returns-clause-polls
returns-clause-polls g c = λ p q now wake wake' r h set cleared. narrowed_polls g.S.Association.association p.state now p wake r q wake' h set cleared

pub returns-clause-nothing : goal.returns-clause-nothing
returns-clause-nothing g c = λ before p q after now wake wake' r answer e polled h set cleared polls.
    drained_polls g.S.Association.association g.met.S.Association.laws p.state now before p wake r q wake' refl e polled h set cleared answer after polls

pub returns-clause-deadline : goal.returns-clause-deadline
returns-clause-deadline g c = λ p q now wake wake' r h set cleared. narrowed_deadline g.S.Association.association p.state now p wake r q wake' h set cleared
