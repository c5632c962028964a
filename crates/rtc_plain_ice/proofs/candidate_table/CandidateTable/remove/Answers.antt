use Rattle.std.proofs.Common.{◌≡◌, ap, ◌∙◌, rules}
use Rattle.std.proofs.lemmas.Fn.{filter_same}
use Rattle.rtc_plain_ice.specs.Places.{without_place}
use Rattle.rtc_plain_ice.proofs.PlaceTableLemmas.{found_without}
use Rattle.rtc_plain_ice.proofs.candidate_table.CandidateTable.remove.Goals as goal

pub returns : goal.returns
returns c =
    let kept : c.retain.new.self.items ≡ without_place c.args.c.now c.self.inside.rows.items = filter_same _ _ _ (λ x b f' k. search rules) _ _ c.retain.ensures.filtered in
    kept ∙ ap (without_place c.args.c.now) c.self.view_is

pub invariant_of-self : goal.invariant_of-self
invariant_of-self c = λ key.
    let kept : c.retain.new.self.items ≡ without_place c.args.c.now c.self.inside.rows.items = filter_same _ _ _ (λ x b f' k. search rules) _ _ c.retain.ensures.filtered in
    found_without key c.self.inside.rows.items c.retain.new.self.items c.args.c.now c.of_candidate-key.result _ _ c.of_candidate-key.ensures (c.self.invariant key) kept (c.swap_remove.ensures.updates.0 key)
