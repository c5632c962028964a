use Rattle.std.proofs.Common.{◌≡◌, ◌∙◌, ℕ, List, false, ap, subst}
use Rattle.rtc_change.specs.declared.change.Change.{Change}
use Rattle.rtc_peer_core.specs.Names.{is_held, next_mid}
use Rattle.rtc_peer_core.proofs.StagedLemmas.{drawn_is_next, next_is_free}
use Rattle.rtc_peer_core.proofs.staged.Staged.draw_mid.Goals as goal

pub returns-clause-free : goal.returns-clause-free
returns-clause-free g c =
    let next : c.draw_mid.result ≡ next_mid g.N.Ids.ids c.args.lines.now c.self.inside.changes.items c.args.ids.now =
    c.draw_mid.ensures.mid
    ∙ drawn_is_next g.N.Ids.ids c.args.lines.now c.self.inside.changes.items c.self.inside.mids c.self.inside.app c.self.inside.count c.in_ok-count.count c.args.ids.now
    c.self.invariant c.in_ok-count.ensures.count in
    let free : is_held c.args.lines.now c.self.inside.changes.items c.draw_mid.result ≡ false =
    ap (λ (mid : List ℕ). is_held c.args.lines.now c.self.inside.changes.items mid) next
    ∙ next_is_free g.N.Ids.ids c.args.lines.now c.self.inside.changes.items c.self.inside.mids c.self.inside.app c.self.inside.count c.in_ok-count.count c.args.ids.now
    c.self.invariant c.in_ok-count.ensures.count c.in_ok-count.ensures.few in
    subst (λ (staged : List Change). is_held c.args.lines.now staged c.draw_mid.result ≡ false) c.self.view_is free
