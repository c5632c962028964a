use Rattle.std.proofs.Common.{List, slice_set, sym, ap, subst, ◌∙◌, length}
use Rattle.rtc_plain_media.specs.declared.stream_row.StreamRow.{StreamRow}
use Rattle.rtc_plain_media.specs.StreamIndex.{FitsStreams, IndexesStreams}
use Rattle.rtc_plain_media.specs.Streams.{Streams, made_stream_row}
use Rattle.rtc_plain_media.proofs.PlaceLemmas.{fits_set}
use Rattle.rtc_plain_media.proofs.StreamLemmas.{put_row-found, put_row-none, place-none}
use Rattle.rtc_plain_media.proofs.stream_table.StreamTable.put.Goals as goal

pub returns-in-Some-clause-ok : goal.returns-in-Some-clause-ok
returns-in-Some-clause-ok c = let row = made_stream_row c.args.ssrc c.args.rtx c.args.mid c.args.rid in ap (λ (rows : List StreamRow). slice_set rows c.in-Some.at row) c.self.view_is ∙ put_row-found row _ _ c.in-Some.ensures

pub returns-in_ok-at-in-None-clause-place : goal.returns-in_ok-at-in-None-clause-place
returns-in_ok-at-in-None-clause-place c = c.in_ok-at-in-None.ensures.place ∙ place-none (made_stream_row c.args.ssrc c.args.rtx c.args.mid c.args.rid) _ c.in-None.ensures

pub returns-in_ok-at-in-None-clause-ok : goal.returns-in_ok-at-in-None-clause-ok
returns-in_ok-at-in-None-clause-ok c = c.in_ok-at-in-None.ensures.ok ∙ put_row-none (made_stream_row c.args.ssrc c.args.rtx c.args.mid c.args.rid) _ c.in-None.ensures

pub rebuild-requires : goal.rebuild-requires
rebuild-requires c =
    let row = made_stream_row c.args.ssrc c.args.rtx c.args.mid c.args.rid in
    subst (λ (l : Streams). FitsStreams c.self.inside.index (length l)) (sym c.as_slice.ensures.value)
    (fits_set c.self.inside.index c.self.inside.rows.items c.in-Some.at row c.self.invariant)

pub invariant_of-self : goal.invariant_of-self
invariant_of-self c = subst (λ (l : Streams). IndexesStreams c.rebuild.new.self l) c.as_slice.ensures.value c.rebuild.ensures
