use Rattle.rtc_peer_core.specs.PartMoves.{AtRestart, AtCandidate}
use Rattle.rtc_peer_negotiation.proofs.following.follow.Goals as goal

pub returns-in-Err-clause-err : goal.returns-in-Err-clause-err
returns-in-Err-clause-err g c = AtRestart c.in-Err.error c.in-Err.ensures

pub returns-in-Err-take_candidates-clause-err : goal.returns-in-Err-take_candidates-clause-err
returns-in-Err-take_candidates-clause-err g c =
    AtCandidate c.restart.new.ice c.take_creds.new.ice c.in-Err-take_candidates.error c.in-Ok.ensures c.take_creds.ensures (rw c.into_vec.ensures at c.in-Err-take_candidates.ensures)
