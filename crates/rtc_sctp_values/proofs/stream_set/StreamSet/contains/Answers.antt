use Rattle.rtc_sctp_values.specs.StreamIds.{has_id}
use Rattle.rtc_sctp_values.proofs.stream_set.StreamSet.contains.Goals as goal

pub returns : goal.returns
unfolding has_id
returns c = rw (← c.self.view_is) c.has_bit.ensures
