use Rattle.std.proofs.Common.{◌≡◌, ◌∙◌, ◌++◌, ◌∷◌, [], List, Option, sym, ap, subst}
use Rattle.std.specs.Option.{option_to_list}
use Rattle.rtc_peer_core.specs.Undo.{RowBefore, without_last}
use Rattle.rtc_peer_core.specs.UndoIndex.{IsNoted}
use Rattle.rtc_peer_core.proofs.UndoLemmas.{last_forgotten, without_last-append}
use Rattle.rtc_peer_core.proofs.undo.Undo.forget_last.Goals as goal

pub invariant_of-self : goal.invariant_of-self
invariant_of-self c =
    let items : c.self.inside.rows.items ≡ c.pop.new.self.items ++ c.in-Some.was ∷ [] =
    c.pop.ensures.items ∙ ap (λ (found : Option RowBefore). c.pop.new.self.items ++ option_to_list found) c.in-Some.is in
    last_forgotten c.pop.new.self.items c.self.inside.mids c.forget_mid.new.mids c.in-Some.was
    (subst (λ (undo : List RowBefore). IsNoted undo c.self.inside.mids) items c.self.invariant) c.forget_mid.ensures

pub returns-in-Some : goal.returns-in-Some
returns-in-Some c =
    let items : c.self.inside.rows.items ≡ c.pop.new.self.items ++ c.in-Some.was ∷ [] =
    c.pop.ensures.items ∙ ap (λ (found : Option RowBefore). c.pop.new.self.items ++ option_to_list found) c.in-Some.is in
    sym (ap (λ (undo : List RowBefore). without_last undo) (sym c.self.view_is ∙ items)
    ∙ without_last-append c.pop.new.self.items c.in-Some.was)
