use Rattle.std.proofs.Common.{◌≡◌, ◌∙◌, ◌+◌, ◌++◌, [], ◌∷◌, List, Some, Ok, true, sym, refl, subst}
use Rattle.std.specs.Prelude.{is_some}
use Rattle.rtc_change.specs.declared.change.Change.{Change}
use Rattle.rtc_change.specs.declared.change.Change.TheVariants.{AddApp, AddChannel}
use Rattle.rtc_peer_rows.specs.Table.{app_of}
use Rattle.rtc_peer_core.specs.Names.{next_mid}
use Rattle.rtc_peer_core.specs.Staging.{StagesChannel, lacks_app}
use Rattle.rtc_peer_core.proofs.StagedLemmas.{channel_indexed, app_indexed, lacking_by, none_staged, staged_with_app, drawn_is_next, next_is_free}
use Rattle.rtc_peer_core.proofs.staged.Staged.push_channel.Goals as goal

pub invariant_of-self-then-not-lacks_app : goal.invariant_of-self-then-not-lacks_app
invariant_of-self-then-not-lacks_app g c =
    rw (c.push_reserved.ensures.items, c.reserve.ensures.items)
    (channel_indexed c.self.inside.changes.items c.self.inside.mids c.self.inside.app c.self.inside.count c.in_ok-id.id c.args.config c.self.invariant)

pub invariant_of-self-2 : goal.invariant_of-self-2
invariant_of-self-2 g c =
    rw (c.push_reserved-3.ensures.items, c.push_reserved-2.ensures.items, c.reserve.ensures.items)
    (channel_indexed (c.self.inside.changes.items ++ AddApp c.draw_mid-mid.result ∷ []) c.self.inside.mids (Some c.draw_mid-mid.result) (c.self.inside.count + 1) c.in_ok-id.id c.args.config
    (app_indexed c.self.inside.changes.items c.self.inside.mids c.self.inside.count c.self.inside.app c.draw_mid-mid.result c.self.invariant
    (none_staged (is_some (app_of c.args.lines.now)) (is_some c.self.inside.app) (sym c.lacks_app.ensures ∙ c.if-not-lacks_app.false))))

pub returns : goal.returns
returns g c =
    let lacks : lacks_app c.args.lines.now c.self.inside.changes.items ≡ true =
    sym (lacking_by c.args.lines.now c.self.inside.changes.items c.self.inside.mids c.self.inside.app c.self.inside.count c.self.invariant)
    ∙ (sym c.lacks_app.ensures ∙ c.if-not-lacks_app.false) in
    let next : c.draw_mid-mid.result ≡ next_mid g.N.Ids.ids c.args.lines.now c.self.inside.changes.items c.args.ids.now =
    c.draw_mid-mid.ensures.mid
    ∙ drawn_is_next g.N.Ids.ids c.args.lines.now c.self.inside.changes.items c.self.inside.mids c.self.inside.app c.self.inside.count c.in_ok-count.count c.args.ids.now
    c.self.invariant c.in_ok-count.ensures.count in
    let items : c.push_reserved-3.new.self.items ≡ (c.self.inside.changes.items ++ AddApp c.draw_mid-mid.result ∷ []) ++ AddChannel c.in_ok-id.id c.args.config ∷ [] =
    rw (c.push_reserved-3.ensures.items, c.push_reserved-2.ensures.items, c.reserve.ensures.items) refl in
    let stages : StagesChannel g.N.Ids.ids c.args.lines.now c.args.ids.now c.self.inside.changes.items c.args.channels.now c.args.config (Ok c.in_ok-id.id)
    c.draw_mid-mid.new.ids c.push_reserved-3.new.self.items c.new_channel.new.self =
    staged_with_app g.N.Ids.ids c.args.lines.now c.args.ids.now c.draw_mid-mid.new.ids c.self.inside.changes.items c.push_reserved-3.new.self.items
    c.args.channels.now c.new_channel.new.self c.args.config c.in_ok-id.id c.draw_mid-mid.result lacks c.in_ok-id.ensures items next c.draw_mid-mid.ensures.after
    (next_is_free g.N.Ids.ids c.args.lines.now c.self.inside.changes.items c.self.inside.mids c.self.inside.app c.self.inside.count c.in_ok-count.count c.args.ids.now
    c.self.invariant c.in_ok-count.ensures.count c.in_ok-count.ensures.few) in
    subst (λ (staged : List Change). StagesChannel g.N.Ids.ids c.args.lines.now c.args.ids.now staged c.args.channels.now c.args.config (Ok c.in_ok-id.id)
    c.draw_mid-mid.new.ids c.push_reserved-3.new.self.items c.new_channel.new.self) c.self.view_is stages
