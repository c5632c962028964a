use Rattle.rtc_parts.proofs.LaterLemmas.{later_none}
use Rattle.rtc_peer_sdp.proofs.updating.draw_row.Goals as goal

pub returns-then-not-wants_sources-clause-later : goal.returns-then-not-wants_sources-clause-later
returns-then-not-wants_sources-clause-later g c = later_none g.N.Ids.ids c.args.ids.now

pub returns-in_err-pairs-clause-later : goal.returns-in_err-pairs-clause-later
returns-in_err-pairs-clause-later g c = c.in_err-pairs.ensures.later

pub returns-clause-later : goal.returns-clause-later
returns-clause-later g c = c.in_ok-pairs.ensures.later
