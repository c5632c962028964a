use Rattle.rtc_sctp_entries.proofs.PartLemmas.{started_opened}
use Rattle.rtc_sctp_entries.proofs.part.open.Goals as goal

pub returns-clause-started : goal.returns-clause-started
returns-clause-started g c = started_opened _ g.met.S.Association.laws _ _ _ _ c.requires c.open_stream.ensures
