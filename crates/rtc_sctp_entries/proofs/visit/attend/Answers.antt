use Rattle.std.proofs.Common.{◌∙◌, sym}
use Rattle.rtc_sctp_entries.proofs.VisitLemmas.{attends_marked}
use Rattle.rtc_sctp_entries.proofs.visit.attend.Goals as goal

pub returns-then-is_marked : goal.returns-then-is_marked
returns-then-is_marked g c =
    attends_marked _ _ _ _ _ _ (sym c.is_marked.ensures ∙ c.if-is_marked.true) c.close_entry.ensures
