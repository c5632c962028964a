use Rattle.std.proofs.Common.{◌∙◌, List, sym, ap}
use Rattle.rtc_peer_rows.specs.Table.{row_of}
use Rattle.rtc_peer_core.specs.Undo.{RowBefore, without_last}
use Rattle.rtc_peer_core.proofs.UndoLemmas.{forgotten_again}
use Rattle.rtc_peer_staging.proofs.changing.stage_direction.Goals as goal

pub returns-then-is_new-clause-unnoted : goal.returns-then-is_new-clause-unnoted
returns-then-is_new-clause-unnoted c =
    c.forget_last.ensures
    ∙ (ap (λ (undo : List RowBefore). without_last undo) c.in_ok-is_new.ensures.ok
    ∙ forgotten_again (row_of c.args.lines.now c.args.mid) c.args.undo.now (sym c.in_ok-is_new.ensures.added ∙ c.if-is_new.true))
