use Rattle.std.proofs.Common.{ap, sym, ◌∙◌}
use Rattle.rtc_assoc_state.specs.Streams.{is_unclosed, stream_of}
use Rattle.rtc_assoc_state.proofs.RaiseLemmas.{stream_of-stream}
use Rattle.rtc_assoc_state.proofs.settling.settle_close.Goals as goal

pub settle_queued-requires-clause-queued : goal.settle_queued-requires-clause-queued
settle_queued-requires-clause-queued c =
    let row_is = c.row_of-row.ensures in
    let same = ap (λ r. r.stream) row_is ∙ stream_of-stream c.args.stream c.args.streams.now.rows.items in
    ap (λ s. is_unclosed (stream_of s c.args.streams.now.rows.items).close) same ∙ ap (λ r. is_unclosed r.close) (sym row_is) ∙ ap is_unclosed c.in-Queued.is
