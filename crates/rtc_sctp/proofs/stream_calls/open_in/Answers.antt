use Rattle.std.proofs.Common.{◌∙◌, sym, ap}
use Rattle.rtc_sctp_entries.specs.Entries.{entry_place}
use Rattle.rtc_sctp.proofs.CallLemmas.{opens_none}
use Rattle.rtc_sctp.proofs.stream_calls.open_in.Goals as goal

pub returns-in-None : goal.returns-in-None
returns-in-None g c =
    opens_none _ _ c.args.id c.args.config _ _ _ _
    (sym (c.place_of.ensures ∙ ap (entry_place c.args.id) c.as_slice.ensures.value) ∙ c.in-None.is)
    (rw c.opened_here.ensures at c.put_entry.ensures.ok) c.put_entry.ensures.err
