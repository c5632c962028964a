use Rattle.rtc_peer_laws.proofs.JoinedLemmas.{none_carries, begun_carries}
use Rattle.rtc_peer_laws.proofs.joined.calls_without_datagrams_carry_no_data.Goals as goal

pub returns-clause-none : goal.returns-clause-none
returns-clause-none c = none_carries

pub returns-clause-begun : goal.returns-clause-begun
returns-clause-begun c = begun_carries
