use Rattle.std.proofs.Common.{sym, arith}
use Rattle.std.proofs.lemmas.Grind.{common_steps}
use Rattle.rtc_assoc_state.proofs.RowLemmas.{stream_of-found, stream_of-none}
use Rattle.rtc_assoc_state.proofs.TableLemmas.{row_within}
use Rattle.rtc_assoc_state.proofs.stream_table.StreamTable.row_of.Goals as goal

pub index-requires : goal.index-requires
index-requires c =
    let within = row_within c.args.id c.in-Some.place c.args.self.now.rows.items (sym c.in-Some.ensures) in
    grind (arith, common_steps, within)

pub returns-in-Some : goal.returns-in-Some
returns-in-Some c = stream_of-found c.args.id c.args.self.now.rows.items c.in-Some.place c.index.result.now c.index.result.now (sym c.in-Some.ensures) c.index.ensures

pub returns-in-None : goal.returns-in-None
returns-in-None c = sym (stream_of-none c.args.id c.args.self.now.rows.items (sym c.in-None.ensures))
