use Rattle.std.proofs.Common.{refl, ◌∙◌, rules}
use Rattle.rtc_plain_media.specs.Streams.{made_stream_row}
use Rattle.rtc_plain_media.proofs.PlaceLemmas.{indexes_marked}
use Rattle.rtc_plain_media.proofs.StreamLemmas.{put_row-mark, put_row-marked}
use Rattle.rtc_plain_media.proofs.stream_table.StreamTable.make.Goals as goal

pub returns : goal.returns
returns c =
    let row = made_stream_row c.args.ssrc c.args.rtx c.args.mid c.args.rid in
    let put = c.self.view_is ∙ c.in_ok-at.ensures.ok in
    let new = put_row-mark row _ c.args.self.now c.self.inside.rows.items _ c.in_ok-at.ensures.place put c.index_mut.ensures.value in
    ((refl, (λ w _. (new, put_row-marked row _ w c.args.self.now c.self.inside.rows.items _ c.in_ok-at.ensures.place put c.index_mut.ensures.value)), tt), search rules)

pub invariant_of-self-lent : goal.invariant_of-self-lent
invariant_of-self-lent c = λ w. indexes_marked c.self.inside.index c.self.inside.rows.items c.in_ok-at.at c.index_mut.result.now w c.index_mut.ensures.value c.self.invariant
