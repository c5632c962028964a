use Rattle.rtc_sctp_entries.proofs.PartLemmas.{started_reliability}
use Rattle.rtc_sctp_entries.proofs.part.set_reliability.Goals as goal

pub returns-clause-started : goal.returns-clause-started
returns-clause-started g c = started_reliability _ g.met.S.Association.laws _ _ _ _ _ _ _ c.requires c.set_reliability.ensures
