use Rattle.rtc_sctp_entries.proofs.PartLemmas.{started_wrote}
use Rattle.rtc_sctp_entries.proofs.part.write.Goals as goal

pub returns-clause-started : goal.returns-clause-started
returns-clause-started g c = started_wrote _ g.met.S.Association.laws _ _ _ _ _ _ c.requires c.stream_write.ensures
