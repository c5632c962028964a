use Rattle.std.proofs.Common.{ap, ◌∙◌}
use Rattle.std.specs.List.{position_from}
use Rattle.rtc_plain_media.specs.declared.stream_name.StreamName.{StreamName}
use Rattle.rtc_plain_media.specs.StreamIndex.{has_stream_name}
use Rattle.rtc_plain_media.proofs.PlaceLemmas.{named_from}
use Rattle.rtc_plain_media.proofs.stream_index.StreamIndex.place_of_name.Goals as goal

pub returns : goal.returns
returns c = λ rows found.
    c.copied.ensures ∙ c.get.ensures.value ∙ found.names c.new-name.result
    ∙ ap (λ (n : StreamName). position_from (has_stream_name n) 0 rows) c.new-name.ensures ∙ named_from c.args.mid c.args.rid rows
