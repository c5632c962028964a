use Rattle.rtc_sctp_entries.proofs.PartLemmas.{started_ended}
use Rattle.rtc_sctp_entries.proofs.part.end.Goals as goal

pub returns-clause-started : goal.returns-clause-started
returns-clause-started g c = started_ended _ g.met.S.Association.laws _ _ _ _ c.requires c.stream_close.ensures
