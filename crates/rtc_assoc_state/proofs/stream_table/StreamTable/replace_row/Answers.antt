use Rattle.std.proofs.Common.{sym, ◌≡◌, true, false}
use Rattle.rtc_assoc_state.proofs.RowLemmas.{stream_of-none}
use Rattle.rtc_assoc_state.proofs.stream_table.StreamTable.replace_row.Goals as goal

pub unreachable-requires : goal.unreachable-requires
unreachable-requires c =
    let broken : true ≡ false = rw (stream_of-none c.args.row.stream c.args.self.now.rows.items (sym c.in-None.ensures)) at c.requires.closed in
    cc
