use Rattle.std.proofs.Common.{arith}
use Rattle.rtc_peer_negotiation.proofs.FollowLemmas.{takes_one_more, takes_no_more, takes_all}
use Rattle.rtc_peer_negotiation.proofs.following.take_candidates.Goals as goal

pub loop-candidate-preserved : goal.loop-candidate-preserved
loop-candidate-preserved g c =
    takes_one_more g.I.IceAgent.ice _ _ _ _ _ _ _ _ c.in-Some.ensures.steps.0 c.loop-candidate.invariant c.in-Ok.ensures

pub returns-in-Err : goal.returns-in-Err
returns-in-Err g c =
    takes_no_more g.I.IceAgent.ice _ _ _ _ _ _ _ _ c.in-Some.ensures.steps.0 c.loop-candidate.invariant c.in-Err.ensures

pub returns : goal.returns
returns g c = takes_all g.I.IceAgent.ice _ _ _ _ (omega (arith, c.loop-candidate.candidate-iterator.rest.ok, c.in-None.ensures.steps.0)) c.loop-candidate.invariant
