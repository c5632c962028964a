use Rattle.std.proofs.Common.{◌∙◌, sym}
use Rattle.rtc_sctp_entries.proofs.VisitLemmas.{announces_short, announces_long}
use Rattle.rtc_sctp_entries.proofs.opens.announce_short.Goals as goal

pub returns-then-has_short_texts : goal.returns-then-has_short_texts
returns-then-has_short_texts g c = announces_short _ _ _ _ _ (sym c.has_short_texts.ensures ∙ c.if-has_short_texts.true) c.announce.ensures

pub returns : goal.returns
returns g c = announces_long _ _ _ _ _ (sym c.has_short_texts.ensures ∙ c.if-has_short_texts.false) c.close_entry.ensures
