use Rattle.rtc_parts.proofs.LaterLemmas.{later_join}
use Rattle.rtc_peer_staging.proofs.staging.make_media.Goals as goal

pub returns-in_err-msid-clause-later : goal.returns-in_err-msid-clause-later
returns-in_err-msid-clause-later g c = c.in_err-msid.ensures.later

pub returns-in_err-cname-clause-later : goal.returns-in_err-cname-clause-later
returns-in_err-cname-clause-later g c = c.in_ok-msid.ensures.later

pub returns-in_err-ssrcs-clause-later : goal.returns-in_err-ssrcs-clause-later
returns-in_err-ssrcs-clause-later g c =
    later_join g.N.Ids.ids c.args.ids.now _ _ c.in_ok-msid.ensures.later c.in_err-ssrcs.ensures.later

pub returns-clause-later : goal.returns-clause-later
returns-clause-later g c =
    later_join g.N.Ids.ids c.args.ids.now _ _ c.in_ok-msid.ensures.later c.in_ok-ssrcs.ensures.later
