use Rattle.rtc_parts.proofs.LaterLemmas.{later_none, later_join}
use Rattle.rtc_peer_staging.proofs.staging.draw_msid.Goals as goal

pub returns-in_err-stream-clause-later : goal.returns-in_err-stream-clause-later
returns-in_err-stream-clause-later g c = later_none g.N.Ids.ids c.args.ids.now

pub returns-in_err-stream_id-clause-later : goal.returns-in_err-stream_id-clause-later
returns-in_err-stream_id-clause-later g c = c.in_err-stream_id.ensures.later

pub returns-in_err-track-clause-later : goal.returns-in_err-track-clause-later
returns-in_err-track-clause-later g c = c.in_ok-stream_id.ensures.later

pub returns-in_err-track_id-clause-later : goal.returns-in_err-track_id-clause-later
returns-in_err-track_id-clause-later g c =
    later_join g.N.Ids.ids c.args.ids.now _ _ c.in_ok-stream_id.ensures.later c.in_err-track_id.ensures.later

pub returns-clause-later : goal.returns-clause-later
returns-clause-later g c =
    later_join g.N.Ids.ids c.args.ids.now _ _ c.in_ok-stream_id.ensures.later c.in_ok-track_id.ensures.later
