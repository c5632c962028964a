use Rattle.std.proofs.Common.{◌∙◌}
use Rattle.rtc_plain_media.proofs.stream_index.StreamIndex.uses.Goals as goal

pub returns : goal.returns
returns c = λ rows found. c.contains.ensures ∙ found.numbers c.args.ssrc.0
