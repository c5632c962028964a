use Rattle.rtc_sctp_entries.proofs.PartLemmas.{started_read}
use Rattle.rtc_sctp_entries.proofs.part.read.Goals as goal

pub returns-clause-started : goal.returns-clause-started
returns-clause-started g c = started_read _ g.met.S.Association.laws _ _ _ _ c.requires c.stream_read.ensures
