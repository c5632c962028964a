use Rattle.std.proofs.Common.{◌∙◌, sym, ap, arith, List}
use Rattle.std.specs.Prelude.{length}
use Rattle.rtc_sdp_values.specs.declared.line_row.LineRow.{LineRow}
use Rattle.rtc_peer_rows.specs.RowChanges.{restored_row}
use Rattle.rtc_peer_rows.proofs.RowChangeLemmas.{IsReplaced, is_replaced, row_found, row_missed, changed_of_none, changed_of_same, restored_row_keeps}
use Rattle.rtc_peer_rows.proofs.MidIndexLemmas.{served_alike}
use Rattle.rtc_peer_rows.proofs.lines.Lines.restore.Goals as goal

pub returns-in_default-clause-rows : goal.returns-in_default-clause-rows
returns-in_default-clause-rows c =
    rw (sym c.self.view_is) (sym (changed_of_none (restored_row c.args.dir c.args.stopped) c.args.mid c.self.inside.rows.items
    (row_missed c.as_slice.result.now c.self.inside.rows.items c.args.mid c.find_served.result c.as_slice.ensures.value c.find_served.ensures c.in_default.is)))

pub returns-in_default-restore_row-clause-rows : goal.returns-in_default-restore_row-clause-rows
returns-in_default-restore_row-clause-rows c =
    rw (sym c.self.view_is) (sym (changed_of_same (restored_row c.args.dir c.args.stopped) c.args.mid c.self.inside.rows.items c.in-Some.row.now
    (row_found c.as_slice.result.now c.self.inside.rows.items c.args.mid c.find_served.result c.in-Some.row c.as_slice.ensures.value c.find_served.ensures c.in-Some.is)
    (sym c.restore_row.ensures ∙ c.in_default-restore_row.is)))

-- the row that is found, changed, at its place
replaced : (c : goal.After-place) → IsReplaced (restored_row c.args.dir c.args.stopped) c.args.mid c.self.inside.rows.items c.in-Some-restore_row.restored_row
replaced c =
    is_replaced (restored_row c.args.dir c.args.stopped) (restored_row_keeps c.args.dir c.args.stopped) c.args.mid c.self.inside.rows.items c.in-Some.row.now c.in-Some-restore_row.restored_row c.self.invariant.table
    (row_found c.as_slice.result.now c.self.inside.rows.items c.args.mid c.find_served.result c.in-Some.row c.as_slice.ensures.value c.find_served.ensures c.in-Some.is)
    (sym c.restore_row.ensures ∙ c.in-Some-restore_row.is)

replaced_then : (c : goal.After-self-1) → IsReplaced (restored_row c.args.dir c.args.stopped) c.args.mid c.self.inside.rows.items c.in-Some-restore_row.restored_row
replaced_then c =
    is_replaced (restored_row c.args.dir c.args.stopped) (restored_row_keeps c.args.dir c.args.stopped) c.args.mid c.self.inside.rows.items c.in-Some.row.now c.in-Some-restore_row.restored_row c.self.invariant.table
    (row_found c.as_slice.result.now c.self.inside.rows.items c.args.mid c.find_served.result c.in-Some.row c.as_slice.ensures.value c.find_served.ensures c.in-Some.is)
    (sym c.restore_row.ensures ∙ c.in-Some-restore_row.is)

pub index_mut-requires : goal.index_mut-requires
index_mut-requires c = omega (arith, c.place.ensures, (replaced c).within, c.as_slice.ensures.len, ap (λ (rows : List LineRow). length rows) c.as_slice.ensures.value)

pub invariant_of-self : goal.invariant_of-self
invariant_of-self c = rw c.place.ensures (record {
  table = (replaced_then c).table;
  served = served_alike c.self.inside.positions c.self.inside.rows.items _ (replaced_then c).alike c.self.invariant.served;
})

pub returns-clause-rows : goal.returns-clause-rows
returns-clause-rows c = rw (c.place.ensures, sym c.self.view_is) (replaced_then c).set
