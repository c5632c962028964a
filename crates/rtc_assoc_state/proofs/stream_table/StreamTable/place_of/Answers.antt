use Rattle.std.proofs.Common.{sym, ◌∙◌, arith}
use Rattle.rtc_assoc_state.proofs.TableLemmas.{placed-none, placed-here, placed-other, placed-beyond, same_id, other_id}
use Rattle.rtc_assoc_state.proofs.stream_table.StreamTable.place_of.Goals as goal

pub returns-in_default : goal.returns-in_default
returns-in_default c = placed-none c.args.id c.args.self.now.rows.items c.args.self.now.places c.args.self.now.at_last c.requires (sym c.find.ensures ∙ c.in_default.is)

pub returns-then-index-id : goal.returns-then-index-id
returns-then-index-id c =
    placed-here c.args.id c.in-Some.place c.args.self.now.rows.items c.args.self.now.places c.args.self.now.at_last c.index.result.now c.index.result.now c.requires
    (sym c.find.ensures ∙ c.in-Some.is) (omega (arith, c.if-place-len.true, c.len.ensures)) c.index.ensures
    (same_id c.index.result.now.stream c.args.id c.if-index-id.true)

pub returns-else-index-id : goal.returns-else-index-id
returns-else-index-id c =
    placed-other c.args.id c.in-Some.place c.args.self.now.rows.items c.args.self.now.places c.args.self.now.at_last c.index.result.now c.index.result.now c.requires
    (sym c.find.ensures ∙ c.in-Some.is) c.index.ensures
    (other_id c.index.result.now.stream c.args.id c.if-index-id.false)

pub returns-else-place-len : goal.returns-else-place-len
returns-else-place-len c =
    placed-beyond c.args.id c.in-Some.place c.args.self.now.rows.items c.args.self.now.places c.args.self.now.at_last c.requires
    (sym c.find.ensures ∙ c.in-Some.is) (λ l. omega (arith, l, c.if-place-len.false, c.len.ensures))
