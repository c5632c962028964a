use Rattle.std.proofs.Common.{◌≡◌, true, false, slice_set, length, refl, sym, ap, subst, ◌∙◌, is_some, rules}
use Rattle.std.specs.List.{list_any}
use Rattle.rtc_plain_media.specs.StreamIndex.{FitsStreams, IndexesStreams}
use Rattle.rtc_plain_media.specs.Streams.{Streams, has_name, renumbered, row_can_renumber, can_renumber}
use Rattle.rtc_plain_media.proofs.PlaceLemmas.{indexes_marked, fits_set}
use Rattle.rtc_plain_media.proofs.StreamLemmas.{renumbered-at, renumbered-mark, any-position, first_passes-at, first_passes-none}
use Rattle.rtc_plain_media.proofs.stream_table.StreamTable.reset.Goals as goal

pub returns-then-can_renumber : goal.returns-then-can_renumber
returns-then-can_renumber c =
    let a = c.args in
    let fits = has_name a.mid a.rid in
    let found : true ≡ can_renumber a.mid a.rid a.ssrc a.rtx a.self.now =
    c.if-can_renumber.ensures ∙ first_passes-at fits (row_can_renumber a.ssrc a.rtx) _ _ _ c.in-Some.ensures c.index-row.ensures ∙ ap (can_renumber a.mid a.rid a.ssrc a.rtx) c.self.view_is in
    let new = renumbered-mark fits a.ssrc a.rtx _ _ _ _ _ c.in-Some.ensures c.index-row.ensures c.numbered-row.ensures c.index_mut-then-can_renumber.ensures.value in
    ((refl, (λ w. (new, renumbered-at a.mid a.rid a.ssrc a.rtx w _ _ _ _ _ c.in-Some.ensures c.index-row.ensures c.numbered-row.ensures c.index_mut-then-can_renumber.ensures.value ∙ ap (renumbered a.mid a.rid a.ssrc a.rtx w) c.self.view_is)), refl), search (rules, found))

pub returns-else-can_renumber : goal.returns-else-can_renumber
returns-else-can_renumber c =
    let a = c.args in
    let fits = has_name a.mid a.rid in
    let found : false ≡ can_renumber a.mid a.rid a.ssrc a.rtx a.self.now =
    c.if-can_renumber.ensures ∙ first_passes-at fits (row_can_renumber a.ssrc a.rtx) _ _ _ c.in-Some.ensures c.index-row.ensures ∙ ap (can_renumber a.mid a.rid a.ssrc a.rtx) c.self.view_is in
    ((refl, (λ _. tt), c.self.view_is), search (rules, found))

pub returns-in-None : goal.returns-in-None
returns-in-None c =
    let a = c.args in
    let fits = has_name a.mid a.rid in
    let none : list_any fits a.self.now ≡ false = sym (ap (list_any fits) c.self.view_is) ∙ sym (any-position fits _) ∙ sym (ap is_some c.in-None.ensures) in
    let found : false ≡ can_renumber a.mid a.rid a.ssrc a.rtx a.self.now = first_passes-none fits (row_can_renumber a.ssrc a.rtx) a.self.now none in
    ((refl, (λ _. tt), c.self.view_is), search (rules, found))

pub rebuild-requires : goal.rebuild-requires
rebuild-requires c =
    subst (λ (l : Streams). FitsStreams c.self.inside.index (length l)) (sym c.as_slice.ensures.value)
    (fits_set c.self.inside.index c.self.inside.rows.items c.in-Some.at c.numbered-row.result c.self.invariant)

pub invariant_of-self-lent : goal.invariant_of-self-lent
invariant_of-self-lent c = λ w.
    let made = slice_set c.self.inside.rows.items c.in-Some.at c.numbered-row.result in
    let held = subst (λ (l : Streams). IndexesStreams c.rebuild.new.self l) c.as_slice.ensures.value c.rebuild.ensures in
    indexes_marked c.rebuild.new.self made c.in-Some.at c.index_mut-then-can_renumber.result.now w c.index_mut-then-can_renumber.ensures.value held
