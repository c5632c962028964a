use Rattle.rtc_peer_laws.proofs.ClosedCalls.{call_closed, turns_closed}
use Rattle.rtc_run_faulty.specs.FaultyParts.{faulty_parts}
use Rattle.rtc_run_faulty.proofs.ListedCauses.{faulty_laws}
use Rattle.rtc_run_faulty.proofs.laws.faulty_peers_close_for_good.Goals as goal

pub returns-clause-calls : goal.returns-clause-calls
returns-clause-calls c = λ p q h. call_closed faulty_parts faulty_laws.association p q h

pub returns-clause-in_turn : goal.returns-clause-in_turn
returns-clause-in_turn c = λ p q between h. turns_closed faulty_parts faulty_laws.association p q between h
