use Rattle.rtc_parts.proofs.LaterLemmas.{later_once, later_twice}
use Rattle.rtc_peer_sdp.proofs.sourcing.draw_pair.Goals as goal

pub returns-in_err-push-in-Audio-clause-later : goal.returns-in_err-push-in-Audio-clause-later
returns-in_err-push-in-Audio-clause-later g c = rw c.draw_source-ssrc.ensures.after (later_once g.N.Ids.ids c.args.ids.now)

pub returns-in_ok-push-in-Audio-clause-later : goal.returns-in_ok-push-in-Audio-clause-later
returns-in_ok-push-in-Audio-clause-later g c = rw c.draw_source-ssrc.ensures.after (later_once g.N.Ids.ids c.args.ids.now)

pub returns-in_err-push-in-Video-clause-later : goal.returns-in_err-push-in-Video-clause-later
returns-in_err-push-in-Video-clause-later g c = rw c.draw_source-rtx.ensures.after (later_once g.N.Ids.ids c.args.ids.now)

pub returns-in_err-push-in-Video-2-clause-later : goal.returns-in_err-push-in-Video-2-clause-later
returns-in_err-push-in-Video-2-clause-later g c = rw (c.draw_source-ssrc-in-Video.ensures.after, c.draw_source-rtx.ensures.after) (later_twice g.N.Ids.ids c.args.ids.now)

pub returns-in_ok-push-in-Video-2-clause-later : goal.returns-in_ok-push-in-Video-2-clause-later
returns-in_ok-push-in-Video-2-clause-later g c = rw (c.draw_source-ssrc-in-Video.ensures.after, c.draw_source-rtx.ensures.after) (later_twice g.N.Ids.ids c.args.ids.now)
