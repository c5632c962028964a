use Rattle.std.proofs.Common.{◌∙◌, sym, ap, arith, Some}
use Rattle.rtc_channels.proofs.PlaceLemmas.{stream_at, stream_missed}
use Rattle.rtc_channels.proofs.kept.find_stream.Goals as goal

pub returns-in-Some : goal.returns-in-Some
returns-in-Some c =
    sym (stream_at 0 c.args.id c.args.rows.now c.in-Some.place c.index-rows-place.result (sym c.find_place.ensures.place ∙ (c.in-Some.is ∙ ap (λ n. Some n) (omega arith))))

pub returns-in-None : goal.returns-in-None
returns-in-None c = sym (stream_missed 0 c.args.id c.args.rows.now (sym c.find_place.ensures.place ∙ c.in-None.is))
