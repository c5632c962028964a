use Rattle.std.proofs.Common.{position, ap, ◌∙◌}
use Rattle.rtc_plain_media.specs.Streams.{Streams, has_ssrc}
use Rattle.rtc_plain_media.proofs.stream_table.StreamTable.place_of.Goals as goal

pub returns : goal.returns
returns c = c.place_of.ensures c.self.inside.rows.items c.self.invariant.0 ∙ ap (λ (l : Streams). position (has_ssrc c.args.ssrc) l) c.self.view_is
