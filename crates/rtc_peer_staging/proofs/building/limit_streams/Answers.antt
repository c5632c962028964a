use Rattle.std.proofs.Common.{ap, ◌∙◌}
use Rattle.rtc_peer_staging.proofs.BuildLemmas.{limited, limits_kept, unstarted}
use Rattle.rtc_peer_staging.proofs.building.limit_streams.Goals as goal

pub returns-clause-limits : goal.returns-clause-limits
returns-clause-limits g c =
    limits_kept g.S.Association.association c.args.config.now c.args.association c.args.start c.mtu-mtu.result c.sctp_max_message_size-size.result
    c.sctp_max_buffered_amount.result c.new-sctp.result c.set_max_buffered_amount.new.self c.mtu-mtu.ensures.size c.sctp_max_message_size-size.ensures
    c.new-sctp.ensures.made c.set_max_buffered_amount.ensures c.new-sctp.ensures.limits

pub returns-clause-made : goal.returns-clause-made
returns-clause-made g c =
    limited c.args.config.now c.args.start c.mtu-mtu.result c.sctp_max_message_size-size.result c.new-sctp.result c.set_max_buffered_amount.new.self
    c.mtu-mtu.ensures.size c.sctp_max_message_size-size.ensures c.new-sctp.ensures.made
    (c.set_max_buffered_amount.ensures ∙ ap (λ n. record c.new-sctp.result { max_buffered = n }) c.sctp_max_buffered_amount.ensures)

pub returns-clause-unstarted : goal.returns-clause-unstarted
returns-clause-unstarted g c =
    unstarted g.S.Association.association g.met.S.Association.laws c.args.association c.sctp_max_message_size-size.result
    c.sctp_max_buffered_amount.result c.new-sctp.result c.set_max_buffered_amount.new.self c.requires c.set_max_buffered_amount.ensures
    c.new-sctp.ensures.limits
