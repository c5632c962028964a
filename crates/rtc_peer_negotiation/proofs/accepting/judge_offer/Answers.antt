use Rattle.std.proofs.Common.{None}
use Rattle.rtc_peer_negotiation.proofs.Counts.{planned_count}
use Rattle.rtc_peer_negotiation.proofs.accepting.judge_offer.Goals as goal

pub returns-clause-count : goal.returns-clause-count
returns-clause-count g c = planned_count _ None _ _ c.plan_offer.ensures.plans
