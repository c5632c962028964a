use Rattle.rtc_sctp_entries.proofs.PartLemmas.{started_threshold}
use Rattle.rtc_sctp_entries.proofs.part.hand_threshold.Goals as goal

pub returns-clause-started : goal.returns-clause-started
returns-clause-started g c = started_threshold _ g.met.S.Association.laws _ _ _ _ _ c.requires c.set_threshold.ensures
