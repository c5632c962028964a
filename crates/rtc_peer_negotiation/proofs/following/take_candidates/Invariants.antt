use Rattle.rtc_peer_negotiation.proofs.FollowLemmas.{TakesLast}
use Rattle.rtc_peer_negotiation.proofs.following.take_candidates.Given as goal

abbrev pub invariant-loop-candidate : goal.invariant-loop-candidate
invariant-loop-candidate g l = TakesLast g.I.IceAgent.ice l.fn.ice l.fn.candidates.items l.ice l.candidate-iterator.rest.items
