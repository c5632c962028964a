use Rattle.std.proofs.Common.{ap, ◌∙◌}
use Rattle.std.specs.List.{list_any}
use Rattle.rtc_plain_media.specs.Streams.{Streams, row_uses}
use Rattle.rtc_plain_media.proofs.stream_table.StreamTable.uses.Goals as goal

pub returns : goal.returns
returns c = c.uses.ensures c.self.inside.rows.items c.self.invariant.0 ∙ ap (λ (l : Streams). list_any (row_uses c.args.ssrc) l) c.self.view_is
