use Rattle.rtc_peer_staging.proofs.BuildLemmas.{allowed, allowed_limits}
use Rattle.rtc_peer_staging.proofs.building.make_streams.Goals as goal

pub returns-clause-limits : goal.returns-clause-limits
returns-clause-limits g c =
    allowed_limits g.S.Association.association c.args.association _ c.args.config.now.sctp.max_message_size _ c.limit_streams-sctp.result
    c.allow_snap.new.sctp c.allow_snap.ensures c.limit_streams-sctp.ensures.limits

pub returns-clause-made : goal.returns-clause-made
returns-clause-made g c =
    allowed c.args.config.now c.args.start c.snap_enabled.result c.limit_streams-sctp.result c.allow_snap.new.sctp c.snap_enabled.ensures
    c.limit_streams-sctp.ensures.made c.allow_snap.ensures
