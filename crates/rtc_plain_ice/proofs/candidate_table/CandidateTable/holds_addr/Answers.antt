use Rattle.rtc_plain_ice.proofs.PlaceTableLemmas.{all_viable}
use Rattle.rtc_plain_ice.proofs.candidate_table.CandidateTable.holds_addr.Goals as goal

pub returns : goal.returns
returns c = all_viable c.args.a.now c.new-addr.result c.args.self.now _ _ _ _ _ c.new-addr.ensures c.holds_at-udp.ensures c.holds_at-tcp.ensures c.holds_at-ssl_tcp.ensures c.holds_at-tls.ensures c.is_any.ensures
