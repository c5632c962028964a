use Rattle.rtc_parts.proofs.LaterLemmas.{later_none, later_once}
use Rattle.rtc_peer_sdp.proofs.naming.draw_name.Goals as goal

pub returns-in-Some-clause-later : goal.returns-in-Some-clause-later
returns-in-Some-clause-later g c = later_none g.N.Ids.ids c.args.ids.now

pub returns-in_err-name-in-None-clause-later : goal.returns-in_err-name-in-None-clause-later
returns-in_err-name-in-None-clause-later g c = rw c.draw-n.ensures.after (later_once g.N.Ids.ids c.args.ids.now)

pub returns-in_ok-name-in-None-clause-later : goal.returns-in_ok-name-in-None-clause-later
returns-in_ok-name-in-None-clause-later g c = rw c.draw-n.ensures.after (later_once g.N.Ids.ids c.args.ids.now)
