use Rattle.rtc_plain_ice.proofs.DatagramLemmas.{taken_begins}
use Rattle.rtc_plain_ice.proofs.datagrams.datagrams_begin_below_two.Goals as goal

pub returns : goal.returns
returns c = taken_begins
