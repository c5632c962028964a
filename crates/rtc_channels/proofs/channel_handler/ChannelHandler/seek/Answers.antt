use Rattle.std.proofs.Common.{◌∙◌, sym, ap, not, arith, None, false}
use Rattle.std.specs.List.{filter}
use Rattle.rtc_channels.specs.Ids.{parity_of, all_ids}
use Rattle.rtc_channels.specs.Channels.{Channels}
use Rattle.rtc_channels.specs.Granted.{is_granted}
use Rattle.rtc_channels.specs.Allocation.{free_streams}
use Rattle.rtc_channels.proofs.AllocationLemmas.{free_granted, side_parity}
use Rattle.std.proofs.lemmas.Grind.{common_steps}
use Rattle.rtc_channels.proofs.GivingLemmas.{place_within, seek_has, seek_bare}
use Rattle.rtc_channels.proofs.channel_handler.ChannelHandler.seek.Goals as goal

pub index-requires : goal.index-requires
index-requires c =
    let within = place_within c.self.inside.given (parity_of c.args.client) c.self.inside.rows.items c.self.inside.kept.items c.self.inside.grants c.self.invariant.handled c.args.self.now c.self.view_is c.args.place c.requires in
    grind (arith, common_steps, within)

pub index-requires-2 : goal.index-requires-2
index-requires-2 c =
    let within = place_within c.self.inside.given (parity_of c.args.client) c.self.inside.rows.items c.self.inside.kept.items c.self.inside.grants c.self.invariant.handled c.args.self.now c.self.view_is c.args.place c.requires in
    grind (arith, common_steps, within, c.self.invariant.handled.paired.same)

pub returns-then-is_some : goal.returns-then-is_some
returns-then-is_some c =
    seek_has c.self.inside.given (parity_of c.args.client) c.self.inside.rows.items c.self.inside.kept.items c.self.inside.grants c.self.invariant.handled c.args.self.now c.self.view_is
    c.args.place c.index.result.now (record { negotiated = None; config = None; confirmed = false })
    (place_within c.self.inside.given (parity_of c.args.client) c.self.inside.rows.items c.self.inside.kept.items c.self.inside.grants c.self.invariant.handled c.args.self.now c.self.view_is c.args.place c.requires)
    c.index.ensures (sym c.is_some.ensures ∙ c.if-is_some.true)

pub stream_for-requires : goal.stream_for-requires
stream_for-requires c = c.self.invariant.pools_are

pub returns : goal.returns
returns c =
    c.stream_for.ensures.sought
    ∙ seek_bare c.self.inside.given (parity_of c.args.client) c.self.inside.rows.items c.self.inside.kept.items c.self.inside.grants c.self.invariant.handled c.args.self.now c.self.view_is
    c.args.place c.index.result.now c.index-2.result.now (filter (λ id. not (is_granted c.self.inside.grants id)) (all_ids (parity_of c.args.client)))
    (place_within c.self.inside.given (parity_of c.args.client) c.self.inside.rows.items c.self.inside.kept.items c.self.inside.grants c.self.invariant.handled c.args.self.now c.self.view_is c.args.place c.requires)
    c.index.ensures c.index-2.ensures (sym c.is_some.ensures ∙ c.if-is_some.false)
    (free_granted c.self.inside.given (parity_of c.args.client) c.self.inside.rows.items c.self.inside.kept.items c.self.inside.grants c.self.invariant.handled (side_parity c.args.client)
    ∙ ap (λ (held : Channels). free_streams (parity_of c.args.client) held) c.self.view_is)
    c.stream_for.ensures.fits
