use Rattle.std.proofs.Common.{◌∙◌, sym, true}
use Rattle.rtc_sctp_entries.proofs.VisitLemmas.{retried_end}
use Rattle.rtc_sctp_entries.proofs.opens.retry.Goals as goal

pub returns-then-is_timed_out : goal.returns-then-is_timed_out
returns-then-is_timed_out g c =
    retried_end _ _ c.in-Some.first _ true _ _ _ c.in-Some.is (sym c.is_timed_out.ensures ∙ c.if-is_timed_out.true) c.close_entry.ensures
