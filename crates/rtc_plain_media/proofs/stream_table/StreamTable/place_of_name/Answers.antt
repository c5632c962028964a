use Rattle.std.proofs.Common.{position, ap, ◌∙◌}
use Rattle.rtc_plain_media.specs.Streams.{Streams, has_name}
use Rattle.rtc_plain_media.proofs.stream_table.StreamTable.place_of_name.Goals as goal

pub returns : goal.returns
returns c = c.place_of_name.ensures c.self.inside.rows.items c.self.invariant.0 ∙ ap (λ (l : Streams). position (has_name c.args.mid c.args.rid) l) c.self.view_is
