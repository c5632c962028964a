use Rattle.std.proofs.Common.{◌≡◌, true, false, refl, ap, ◌∙◌, is_some, rules}
use Rattle.std.specs.List.{list_any}
use Rattle.rtc_plain_media.specs.Streams.{has_ssrc, marked, held_mark}
use Rattle.rtc_plain_media.proofs.PlaceLemmas.{indexes_marked}
use Rattle.rtc_plain_media.proofs.StreamLemmas.{change_first-at, held_mark-at, any-position}
use Rattle.rtc_plain_media.proofs.stream_table.StreamTable.mark.Goals as goal

pub returns-in-Some : goal.returns-in-Some
returns-in-Some c =
    let fits = has_ssrc c.args.ssrc in
    let found : true ≡ list_any fits c.args.self.now = ap is_some c.in-Some.ensures ∙ any-position fits _ ∙ ap (list_any fits) c.self.view_is in
    let held = held_mark-at fits _ _ _ c.in-Some.ensures c.index_mut.ensures.value ∙ ap (held_mark fits) c.self.view_is in
    ((refl, (λ w. (held, change_first-at fits _ _ _ _ c.in-Some.ensures c.index_mut.ensures.value ∙ ap (marked fits w) c.self.view_is)), refl), search (rules, found))

pub returns-in-None : goal.returns-in-None
returns-in-None c =
    let fits = has_ssrc c.args.ssrc in
    let found : false ≡ list_any fits c.args.self.now = ap is_some c.in-None.ensures ∙ any-position fits _ ∙ ap (list_any fits) c.self.view_is in
    ((refl, (λ _. tt), c.self.view_is), search (rules, found))

pub invariant_of-self-lent : goal.invariant_of-self-lent
invariant_of-self-lent c = λ w. indexes_marked c.self.inside.index c.self.inside.rows.items c.in-Some.at c.index_mut.result.now w c.index_mut.ensures.value c.self.invariant
