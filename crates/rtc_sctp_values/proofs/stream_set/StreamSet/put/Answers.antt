use Rattle.rtc_sctp_values.specs.StreamIds.{has_id}
use Rattle.rtc_sctp_values.proofs.stream_set.StreamSet.put.Goals as goal

pub returns-clause-here : goal.returns-clause-here
unfolding has_id
returns-clause-here c = c.put_bit.ensures.here

pub returns-clause-others : goal.returns-clause-others
unfolding has_id
returns-clause-others c = λ other differs. rw (← c.self.view_is) (c.put_bit.ensures.others other differs)
