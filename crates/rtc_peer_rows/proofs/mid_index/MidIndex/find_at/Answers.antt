use Rattle.std.proofs.Common.{◌∙◌, sym, ap, subst, List}
use Rattle.std.specs.Option.{option_copied}
use Rattle.std.proofs.lemmas.Slice.Eq.{bytes_eq-Decides}
use Rattle.rtc_sdp_values.specs.declared.line_row.LineRow.{LineRow}
use Rattle.rtc_peer_rows.specs.Table.{Distinct}
use Rattle.rtc_peer_rows.proofs.MidIndexLemmas.{found_at_place}
use Rattle.rtc_peer_rows.proofs.mid_index.MidIndex.find_at.Goals as goal

pub returns-in-Some : goal.returns-in-Some
returns-in-Some c =
    rw (sym c.self.view_is) (found_at_place c.self.inside.rows.now c.args.place c.in-Some.row.now c.args.mid
    (subst (λ (rows : List LineRow). Distinct rows) (sym c.self.view_is) c.requires) (sym c.row_at.ensures ∙ ap option_copied c.in-Some.is)
    (sym c.mid.ensures ∙ (bytes_eq-Decides c.mid.result c.args.mid).0 (sym c.eq.ensures ∙ c.if-eq.true)))
