use Rattle.rtc_sctp_laws.proofs.PollActs.{poll_did}
use Rattle.rtc_sctp_laws.proofs.CallActs.{inits_did, shuts_did, writes_did, input_did, timeout_did, opens_did, closes_did}
use Rattle.rtc_sctp_laws.proofs.acts.calls_did.Goals as goal

pub returns-clause-polls : goal.returns-clause-polls
returns-clause-polls g c = λ p q r h. poll_did g.S.Association.association g.met.S.Association.laws p r q h

pub returns-clause-writes : goal.returns-clause-writes
returns-clause-writes g c = λ p q id binary bytes r h. writes_did g.S.Association.association id binary bytes p r q h

pub returns-clause-input : goal.returns-clause-input
returns-clause-input g c = λ p q now bytes r h. input_did g.S.Association.association now bytes p r q h

pub returns-clause-timeout : goal.returns-clause-timeout
returns-clause-timeout g c = λ p q now wake wake' r h. timeout_did g.S.Association.association now p wake r q wake' h

pub returns-clause-opens : goal.returns-clause-opens
returns-clause-opens g c = λ p q id config r h. opens_did g.S.Association.association id config p r q h

pub returns-clause-closes : goal.returns-clause-closes
returns-clause-closes g c = λ p q id r h. closes_did g.S.Association.association id p r q h

pub returns-clause-starts : goal.returns-clause-starts
returns-clause-starts g c = λ p q client now max snap r h. inits_did g.S.Association.association client now max snap p r q h

pub returns-clause-shuts : goal.returns-clause-shuts
returns-clause-shuts g c = λ p q r h. shuts_did g.S.Association.association p r q h
