use Rattle.rtc_peer_laws.proofs.ExchangeLemmas.{left_exchanges, right_exchanges, left_reads, right_reads}
use Rattle.rtc_peer_laws.proofs.exchanging.exchanges_keep_peers_joined.Goals as goal

pub returns-clause-left : goal.returns-clause-left
returns-clause-left g c = λ a b before after others p next q came moments wrote heard x more did.
    left_exchanges g.N.Ids.ids a b before after others p next q came moments wrote heard x more did

pub returns-clause-right : goal.returns-clause-right
returns-clause-right g c = λ a b before after others p q next came moments wrote heard x more did.
    right_exchanges g.N.Ids.ids a b before after others p q next came moments wrote heard x more did

pub returns-clause-right_reads : goal.returns-clause-right_reads
returns-clause-right_reads g c = λ a b left right p q s n x. right_reads a b left right p q s n x

pub returns-clause-left_reads : goal.returns-clause-left_reads
returns-clause-left_reads g c = λ a b left right p q s n x. left_reads a b left right p q s n x
