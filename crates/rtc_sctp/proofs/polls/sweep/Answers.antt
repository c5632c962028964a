use Rattle.std.proofs.Common.{sym}
use Rattle.rtc_sctp.proofs.TendedLemmas.{unclosed_same}
use Rattle.rtc_sctp.proofs.polls.sweep.Goals as goal

pub returns-else-agenda-clause-entries : goal.returns-else-agenda-clause-entries
returns-else-agenda-clause-entries c = sym (unclosed_same c.args.entries.now.items (c.requires c.if-agenda.false))
