use Rattle.std.proofs.Common.{◌≡◌, Bool, not, filter, ap, ◌∙◌, length, sym, subst, arith, ℕ, rules}
use Rattle.rtc_parts.specs.MediaUpdates.{removed_by}
use Rattle.rtc_plain_media.specs.declared.stream_row.StreamRow.{StreamRow}
use Rattle.rtc_plain_media.specs.StreamIndex.{FitsStreams, IndexesStreams}
use Rattle.rtc_plain_media.specs.Streams.{Streams}
use Rattle.rtc_plain_media.proofs.RemovalLemmas.{all_streams_stay}
use Rattle.rtc_plain_media.proofs.PlaceLemmas.{rows_fewer}
use Rattle.rtc_plain_media.proofs.stream_table.StreamTable.drop_removed.Goals as goal

pub returns-then-not-any_removal : goal.returns-then-not-any_removal
returns-then-not-any_removal c = all_streams_stay c.args.updates.now.items c.args.self.now (search rules)

pub returns : goal.returns
returns c = c.drop_removed.ensures ∙ ap (filter (λ (row : StreamRow). not (removed_by c.args.updates.now.items row.mid))) c.self.view_is

pub refresh-requires-clause-fits : goal.refresh-requires-clause-fits
refresh-requires-clause-fits c =
    let count : c.len-count.result ≡ length c.self.inside.rows.items = omega (arith, c.len-count.ensures) in
    subst (λ (n : ℕ). FitsStreams c.self.inside.index n) (sym count) c.self.invariant.1

pub refresh-requires-clause-fewer : goal.refresh-requires-clause-fewer
refresh-requires-clause-fewer c =
    rows_fewer (λ (row : StreamRow). not (removed_by c.args.updates.now.items row.mid)) c.self.inside.rows.items _ _ (c.as_slice.ensures.value ∙ c.drop_removed.ensures) (omega (arith, c.len-count.ensures))

pub invariant_of-self : goal.invariant_of-self
invariant_of-self c =
    let keeps : StreamRow → Bool = λ row. not (removed_by c.args.updates.now.items row.mid) in
    let count : c.len-count.result ≡ length c.self.inside.rows.items = omega (arith, c.len-count.ensures) in
    subst (λ (l : Streams). IndexesStreams c.refresh.new.self l) c.as_slice.ensures.value
    (c.refresh.ensures c.self.inside.rows.items keeps (c.as_slice.ensures.value ∙ c.drop_removed.ensures) count c.self.invariant.0)
