use Rattle.std.proofs.Common.{◌∙◌}
use Rattle.rtc_plain_media.specs.Streams.{has_ssrc}
use Rattle.rtc_plain_media.proofs.PlaceLemmas.{first_from}
use Rattle.rtc_plain_media.proofs.stream_index.StreamIndex.place_of.Goals as goal

pub returns : goal.returns
returns c = λ rows found. c.copied.ensures ∙ c.get.ensures.value ∙ found.places c.args.ssrc.0 ∙ first_from (has_ssrc c.args.ssrc) rows
