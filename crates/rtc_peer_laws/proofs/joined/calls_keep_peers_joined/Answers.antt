use Rattle.rtc_peer_laws.specs.JoinedPeers.{packet_parts}
use Rattle.rtc_peer_laws.proofs.JoinedLemmas.{unused_joined, left_stays, right_stays}
use Rattle.rtc_peer_laws.proofs.joined.calls_keep_peers_joined.Goals as goal

pub returns-clause-unused : goal.returns-clause-unused
returns-clause-unused g c = unused_joined

pub returns-clause-left : goal.returns-clause-left
returns-clause-left g c = λ a b p q right came moments shown wrote heard j more did.
    left_stays a b (packet_parts p) (packet_parts q) right did.acts came.dtls did.went.dtls did.went.association did.given_dtls more did.handed did.relayed j

pub returns-clause-right : goal.returns-clause-right
returns-clause-right g c = λ a b p q left came moments shown wrote heard j more did.
    right_stays a b left (packet_parts p) (packet_parts q) did.acts came.dtls did.went.dtls did.went.association did.given_dtls more did.handed did.relayed j
