use Rattle.std.proofs.Common.{◌∙◌, sym}
use Rattle.rtc_sctp.proofs.RetryLemmas.{none_retried, one_retried}
use Rattle.rtc_sctp.proofs.timing.is_retried.Goals as goal

pub returns-in-None : goal.returns-in-None
returns-in-None c = sym (none_retried c.args.id c.args.entries.now (sym c.place_of.ensures ∙ c.in-None.is))

pub returns-in-Some : goal.returns-in-Some
returns-in-Some c =
    c.is_retrying.ensures
    ∙ sym (one_retried c.args.id c.in-Some.place c.args.entries.now _ c.requires (sym c.place_of.ensures ∙ c.in-Some.is) c.index-entries-place.is)
