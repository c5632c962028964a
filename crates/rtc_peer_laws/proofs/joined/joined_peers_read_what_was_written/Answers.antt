use Rattle.rtc_assoc.proofs.DirectedLemmas.{directed_prefix, directed_all}
use Rattle.rtc_assoc.proofs.RunLemmas.{both_run}
use Rattle.rtc_peer_laws.specs.JoinedPeers.{ends_of}
use Rattle.rtc_peer_laws.proofs.joined.joined_peers_read_what_was_written.Goals as goal

pub returns-clause-right : goal.returns-clause-right
returns-clause-right c = λ a b left right s g j. let h = both_run j.moves (ends_of a left b right) j.run in
    directed_prefix h.there left.association right.association a.association b.association s g h.forth_is

pub returns-clause-left : goal.returns-clause-left
returns-clause-left c = λ a b left right s g j. let h = both_run j.moves (ends_of a left b right) j.run in
    directed_prefix h.back right.association left.association b.association a.association s g h.back_is

pub returns-clause-all_right : goal.returns-clause-all_right
returns-clause-all_right c = λ a b left right s g j x y n. let h = both_run j.moves (ends_of a left b right) j.run in
    directed_all h.there left.association right.association a.association b.association s g h.forth_is x y n

pub returns-clause-all_left : goal.returns-clause-all_left
returns-clause-all_left c = λ a b left right s g j x y n. let h = both_run j.moves (ends_of a left b right) j.run in
    directed_all h.back right.association left.association b.association a.association s g h.back_is y x n
