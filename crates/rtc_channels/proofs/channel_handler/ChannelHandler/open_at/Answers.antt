use Rattle.std.proofs.Common.{◌∙◌, ◌+◌, sym, ap, refl, arith, drop, ℕ, Option, None, false}
use Rattle.std.proofs.lemmas.Grind.{common_steps}
use Rattle.rtc_channels.specs.Channels.{Channels}
use Rattle.rtc_channels.specs.Kept.{config_taken}
use Rattle.rtc_channels.proofs.SettledLemmas.{settled_taken}
use Rattle.rtc_channels.proofs.GivingLemmas.{place_within}
use Rattle.rtc_channels.proofs.OpeningLemmas.{open_bare, open_unconfirmed, open_both, handled_taken, taken_count, kept_behind, short_config}
use Rattle.rtc_channels.proofs.channel_handler.ChannelHandler.open_at.Goals as goal

pub index-requires : goal.index-requires
index-requires g c =
    let within = place_within c.self.inside.given 0 c.self.inside.rows.items c.self.inside.kept.items c.self.inside.grants c.self.invariant.handled c.args.self.now c.self.view_is c.args.place c.requires in
    grind (arith, common_steps, within)

pub index_mut-requires : goal.index_mut-requires
index_mut-requires g c =
    let within = place_within c.self.inside.given 0 c.self.inside.rows.items c.self.inside.kept.items c.self.inside.grants c.self.invariant.handled c.args.self.now c.self.view_is c.args.place c.requires in
    grind (arith, common_steps, within, c.self.invariant.handled.paired.same)

pub returns-in_default-clause-opened : goal.returns-in_default-clause-opened
returns-in_default-clause-opened g c =
    open_bare c.self.inside.given c.self.inside.rows.items c.self.inside.kept.items c.self.inside.grants c.self.invariant.handled c.args.self.now c.self.view_is c.args.place c.index.result.now (record { negotiated = None; config = None; confirmed = false }) (place_within c.self.inside.given 0 c.self.inside.rows.items c.self.inside.kept.items c.self.inside.grants c.self.invariant.handled c.args.self.now c.self.view_is c.args.place c.requires)
    g.S.Association.association c.args.sctp.now (ap (λ (row : ℕ × Option ℕ). row.1) (sym c.index.ensures) ∙ c.in_default.is)

pub returns-in_default-take_config-clause-opened : goal.returns-in_default-take_config-clause-opened
returns-in_default-take_config-clause-opened g c =
    rw c.take_config.ensures.taken
    (open_unconfirmed c.self.inside.given c.self.inside.rows.items c.self.inside.kept.items c.self.inside.grants c.self.invariant.handled c.args.self.now c.self.view_is c.args.place c.index.result.now c.index_mut.result.now (place_within c.self.inside.given 0 c.self.inside.rows.items c.self.inside.kept.items c.self.inside.grants c.self.invariant.handled c.args.self.now c.self.view_is c.args.place c.requires) c.index_mut.ensures.value g.S.Association.association c.args.sctp.now (sym c.take_config.ensures.config ∙ c.in_default-take_config.is))

pub open_stream-requires-clause-label : goal.open_stream-requires-clause-label
open_stream-requires-clause-label g c =
    let within = place_within c.self.inside.given 0 c.self.inside.rows.items c.self.inside.kept.items c.self.inside.grants c.self.invariant.handled c.args.self.now c.self.view_is c.args.place c.requires in
    (short_config c.self.inside.kept.items c.args.place c.index_mut.result.now c.in-Some-take_config.config c.index_mut.ensures.value (omega (arith, within, c.self.invariant.handled.paired.same)) c.self.invariant.handled.short
    (sym c.take_config.ensures.config ∙ c.in-Some-take_config.is)).0

pub open_stream-requires-clause-protocol : goal.open_stream-requires-clause-protocol
open_stream-requires-clause-protocol g c =
    let within = place_within c.self.inside.given 0 c.self.inside.rows.items c.self.inside.kept.items c.self.inside.grants c.self.invariant.handled c.args.self.now c.self.view_is c.args.place c.requires in
    (short_config c.self.inside.kept.items c.args.place c.index_mut.result.now c.in-Some-take_config.config c.index_mut.ensures.value (omega (arith, within, c.self.invariant.handled.paired.same)) c.self.invariant.handled.short
    (sym c.take_config.ensures.config ∙ c.in-Some-take_config.is)).1

pub invariant_of-self-2 : goal.invariant_of-self-2
invariant_of-self-2 g c =
    rw c.take_config.ensures.taken
    (record {
      handled = handled_taken c.self.inside.given c.self.inside.rows.items c.self.inside.kept.items c.self.inside.grants c.self.invariant.handled c.args.self.now c.self.view_is c.args.place c.index.result.now c.index_mut.result.now (place_within c.self.inside.given 0 c.self.inside.rows.items c.self.inside.kept.items c.self.inside.grants c.self.invariant.handled c.args.self.now c.self.view_is c.args.place c.requires) c.index_mut.ensures.value;
      settled_first = settled_taken c.self.inside.settled c.self.inside.rows.items c.self.inside.kept.items c.args.place (config_taken c.index_mut.result.now) refl c.self.invariant.settled_first;
      pools_are = c.self.invariant.pools_are;
    })

pub returns-clause-opened : goal.returns-clause-opened
returns-clause-opened g c =
    rw c.take_config.ensures.taken
    (open_both c.self.inside.given c.self.inside.rows.items c.self.inside.kept.items c.self.inside.grants c.self.invariant.handled c.args.self.now c.self.view_is c.args.place c.index.result.now c.index_mut.result.now (place_within c.self.inside.given 0 c.self.inside.rows.items c.self.inside.kept.items c.self.inside.grants c.self.invariant.handled c.args.self.now c.self.view_is c.args.place c.requires) c.index_mut.ensures.value g.S.Association.association c.args.sctp.now c.open_stream.new.self c.in-Some.stream c.in-Some-take_config.config c.open_stream.result
    (ap (λ (row : ℕ × Option ℕ). row.1) (sym c.index.ensures) ∙ c.in-Some.is) (sym c.take_config.ensures.config ∙ c.in-Some-take_config.is) c.open_stream.ensures)

pub returns-clause-behind : goal.returns-clause-behind
returns-clause-behind g c =
    kept_behind c.self.inside.rows.items c.self.inside.kept.items c.args.place c.take_config.new.self ∙ ap (λ (held : Channels). drop (c.args.place + 1) held.rows) c.self.view_is

pub returns-clause-count : goal.returns-clause-count
returns-clause-count g c = rw c.take_config.ensures.taken (taken_count c.self.inside.given c.self.inside.rows.items c.self.inside.kept.items c.self.inside.grants c.self.invariant.handled c.args.self.now c.self.view_is c.args.place c.index.result.now c.index_mut.result.now (place_within c.self.inside.given 0 c.self.inside.rows.items c.self.inside.kept.items c.self.inside.grants c.self.invariant.handled c.args.self.now c.self.view_is c.args.place c.requires) c.index_mut.ensures.value)
