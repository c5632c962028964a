use Rattle.std.proofs.Common.{◌∙◌, sym, true}
use Rattle.rtc_sctp_entries.proofs.VisitLemmas.{begun_in_band}
use Rattle.rtc_sctp_entries.proofs.opens.begin_by_band.Goals as goal

pub returns : goal.returns
returns g c = begun_in_band _ _ true _ _ _ (sym c.is_out_of_band.ensures ∙ c.if-is_out_of_band.false) c.announce_short.ensures
