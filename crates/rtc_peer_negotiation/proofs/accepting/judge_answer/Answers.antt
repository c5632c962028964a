use Rattle.rtc_peer_negotiation.proofs.Counts.{planned_count}
use Rattle.rtc_peer_negotiation.proofs.accepting.judge_answer.Goals as goal

pub returns-clause-count : goal.returns-clause-count
returns-clause-count g c = planned_count _ _ _ _ c.plan_answer.ensures.plans
