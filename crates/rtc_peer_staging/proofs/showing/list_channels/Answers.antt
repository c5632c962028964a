use Rattle.rtc_peer_staging.proofs.ShownLemmas.{shown_all}
use Rattle.rtc_peer_staging.proofs.showing.list_channels.Goals as goal

pub returns : goal.returns
returns g c =
    shown_all g.S.Association.association c.args.peer.now.sctp c.args.peer.now.channels.rows c.rows.result.now c.in_ok-rows.rows.items
    c.rows.ensures c.in_ok-rows.ensures
