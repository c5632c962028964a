use Rattle.std.proofs.Common.{◌≡◌, Bool, not, filter, ap, ◌∙◌, length, sym, subst, arith, ℕ, is_some}
use Rattle.rtc_plain_media.specs.declared.stream_row.StreamRow.{StreamRow}
use Rattle.rtc_plain_media.specs.StreamIndex.{FitsStreams, IndexesStreams}
use Rattle.rtc_plain_media.specs.Streams.{Streams, has_ssrc}
use Rattle.rtc_plain_media.proofs.StreamLemmas.{any-position}
use Rattle.rtc_plain_media.proofs.PlaceLemmas.{rows_fewer}
use Rattle.rtc_plain_media.proofs.stream_table.StreamTable.remove.Goals as goal

pub returns-clause-answer : goal.returns-clause-answer
returns-clause-answer c = c.is_some-there.ensures ∙ ap is_some c.place_of.ensures ∙ any-position (has_ssrc c.args.ssrc) _

pub returns-clause-rest : goal.returns-clause-rest
returns-clause-rest c = c.drop_ssrc.ensures ∙ ap (filter (λ (row : StreamRow). not (has_ssrc c.args.ssrc row))) c.self.view_is

pub refresh-requires-clause-fits : goal.refresh-requires-clause-fits
refresh-requires-clause-fits c =
    let count : c.len-count.result ≡ length c.self.inside.rows.items = omega (arith, c.len-count.ensures) in
    subst (λ (n : ℕ). FitsStreams c.self.inside.index n) (sym count) c.self.invariant.1

pub refresh-requires-clause-fewer : goal.refresh-requires-clause-fewer
refresh-requires-clause-fewer c =
    rows_fewer (λ (row : StreamRow). not (has_ssrc c.args.ssrc row)) c.self.inside.rows.items _ _ (c.as_slice.ensures.value ∙ c.drop_ssrc.ensures) (omega (arith, c.len-count.ensures))

pub invariant_of-self : goal.invariant_of-self
invariant_of-self c =
    let keeps : StreamRow → Bool = λ row. not (has_ssrc c.args.ssrc row) in
    let count : c.len-count.result ≡ length c.self.inside.rows.items = omega (arith, c.len-count.ensures) in
    subst (λ (l : Streams). IndexesStreams c.refresh.new.self l) c.as_slice.ensures.value
    (c.refresh.ensures c.self.inside.rows.items keeps (c.as_slice.ensures.value ∙ c.drop_ssrc.ensures) count c.self.invariant.0)
