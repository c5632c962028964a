use Rattle.std.proofs.Common.{◌≡◌, ◌∙◌, sym, ap, arith, List, length}
use Rattle.rtc_sdp_values.specs.declared.line_row.LineRow.{LineRow}
use Rattle.rtc_peer_rows.specs.Table.{has_mid}
use Rattle.rtc_peer_rows.proofs.DeclaredLemmas.{table_declared}
use Rattle.rtc_peer_rows.proofs.lines.Lines.declare.Goals as goal

pub invariant_of-self-2 : goal.invariant_of-self-2
invariant_of-self-2 c =
    let missed = ap (λ (rows : List LineRow). has_mid c.args.mid rows) (sym c.as_slice.ensures.value) ∙ (sym c.has_row.ensures ∙ c.if-has_row.false) in
    let place : c.len.result ≡ length c.self.inside.rows.items = omega (arith, c.len.ensures, c.as_slice.ensures.len, ap (λ (rows : List LineRow). length rows) c.as_slice.ensures.value) in
    rw (rw c.in_ok-push.was at c.push.ensures.items) (record { table = (table_declared c.len.result c.args.mid c.args.kind c.self.inside.rows.items c.self.invariant.table missed place); served = tt })
