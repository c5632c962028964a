use Rattle.std.proofs.Common.{◌≡◌, Bool, not, filter, ap, ◌∙◌, length, sym, subst, arith, ℕ}
use Rattle.rtc_plain_media.specs.declared.stream_row.StreamRow.{StreamRow}
use Rattle.rtc_plain_media.specs.StreamIndex.{FitsStreams, IndexesStreams}
use Rattle.rtc_plain_media.specs.Streams.{Streams, is_of_line}
use Rattle.rtc_plain_media.proofs.PlaceLemmas.{rows_fewer}
use Rattle.rtc_plain_media.proofs.stream_table.StreamTable.drop_line.Goals as goal

pub returns : goal.returns
returns c = c.drop_mid.ensures ∙ ap (filter (λ (row : StreamRow). not (is_of_line c.args.mid row))) c.self.view_is

pub refresh-requires-clause-fits : goal.refresh-requires-clause-fits
refresh-requires-clause-fits c =
    let count : c.len-count.result ≡ length c.self.inside.rows.items = omega (arith, c.len-count.ensures) in
    subst (λ (n : ℕ). FitsStreams c.self.inside.index n) (sym count) c.self.invariant.1

pub refresh-requires-clause-fewer : goal.refresh-requires-clause-fewer
refresh-requires-clause-fewer c =
    rows_fewer (λ (row : StreamRow). not (is_of_line c.args.mid row)) c.self.inside.rows.items _ _ (c.as_slice.ensures.value ∙ c.drop_mid.ensures) (omega (arith, c.len-count.ensures))

pub invariant_of-self : goal.invariant_of-self
invariant_of-self c =
    let keeps : StreamRow → Bool = λ row. not (is_of_line c.args.mid row) in
    let count : c.len-count.result ≡ length c.self.inside.rows.items = omega (arith, c.len-count.ensures) in
    subst (λ (l : Streams). IndexesStreams c.refresh.new.self l) c.as_slice.ensures.value
    (c.refresh.ensures c.self.inside.rows.items keeps (c.as_slice.ensures.value ∙ c.drop_mid.ensures) count c.self.invariant.0)
