use Rattle.rtc_peer_laws.proofs.JoinedLemmas.{written_more, read_more}
use Rattle.rtc_peer_laws.proofs.joined.messages_are_those_of_calls.Goals as goal

pub returns-clause-written : goal.returns-clause-written
returns-clause-written g c = λ past p q came moments shown wrote heard s n did. written_more s n past.association did.acts.association wrote did.wrote_is

pub returns-clause-read : goal.returns-clause-read
returns-clause-read g c = λ past p q came moments shown wrote heard s n did. read_more s n past.association did.acts.association heard did.heard_is
