use Rattle.rtc_peer_sdp.proofs.updating.push_update.Goals as goal

pub returns-in-Err-clause-later : goal.returns-in-Err-clause-later
returns-in-Err-clause-later g c = c.in-Err.ensures.later

pub returns-in-Err-clause-most : goal.returns-in-Err-clause-most
returns-in-Err-clause-most g c = c.in-Err.ensures.most

pub returns-in_err-update-clause-later : goal.returns-in_err-update-clause-later
returns-in_err-update-clause-later g c = c.in-Ok.ensures.later

pub returns-in_err-update-clause-most : goal.returns-in_err-update-clause-most
returns-in_err-update-clause-most g c = c.in-Ok.ensures.most

pub returns-in_err-push_if_media-clause-later : goal.returns-in_err-push_if_media-clause-later
returns-in_err-push_if_media-clause-later g c = c.in-Ok.ensures.later

pub returns-in_err-push_if_media-clause-most : goal.returns-in_err-push_if_media-clause-most
returns-in_err-push_if_media-clause-most g c = c.in-Ok.ensures.most

pub returns-clause-updates : goal.returns-clause-updates
returns-clause-updates g c = rw (c.in_ok-update.ensures, c.in-Ok.ensures.pairs) at c.in_ok-push_if_media.ensures

pub returns-clause-earlier : goal.returns-clause-earlier
returns-clause-earlier g c = rw c.in-Ok.ensures.pairs at c.in-Ok.ensures.earlier

pub returns-clause-after : goal.returns-clause-after
returns-clause-after g c = c.in-Ok.ensures.after

pub returns-clause-later : goal.returns-clause-later
returns-clause-later g c = c.in-Ok.ensures.later

pub returns-clause-most : goal.returns-clause-most
returns-clause-most g c = c.in-Ok.ensures.most
