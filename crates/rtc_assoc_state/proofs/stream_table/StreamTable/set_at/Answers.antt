use Rattle.std.proofs.Common.{List, sym, ap, subst, true, ◌∙◌, arith}
use Rattle.std.proofs.lemmas.Grind.{common_steps}
use Rattle.rtc_assoc_state.specs.declared.stream_row.StreamRow.{StreamRow}
use Rattle.rtc_assoc_state.specs.Streams.{is_at_last_generation, any_at_last_generation}
use Rattle.rtc_assoc_state.specs.StreamTable.{SoundTable}
use Rattle.rtc_assoc_state.proofs.RowLemmas.{stream_of-found}
use Rattle.rtc_assoc_state.proofs.TableLemmas.{row_within, row_put, sound-set, sound-set_last, sound-set_same}
use Rattle.rtc_assoc_state.proofs.stream_table.StreamTable.set_at.Goals as goal

pub index-requires : goal.index-requires
index-requires c =
    let within = row_within c.args.row.stream c.args.place c.args.self.now.rows.items c.requires.place in
    grind (arith, common_steps, within)

pub index_mut-requires : goal.index_mut-requires
index_mut-requires c =
    let within = row_within c.args.row.stream c.args.place c.args.self.now.rows.items c.requires.place in
    grind (arith, common_steps, within)

pub returns-then-is-clause-rows : goal.returns-then-is-clause-rows
returns-then-is-clause-rows c = row_put c.args.row c.args.self.now.rows.items c.args.place c.requires.place

pub returns-then-is-clause-sound : goal.returns-then-is-clause-sound
returns-then-is-clause-sound c =
    subst (λ (l : List StreamRow). SoundTable l c.args.self.now.places true) (sym (row_put c.args.row c.args.self.now.rows.items c.args.place c.requires.place))
    (sound-set_last c.args.row c.args.self.now.rows.items c.args.self.now.places c.args.place c.args.self.now.at_last c.requires.sound c.requires.place (sym c.is_at_last_generation-is.ensures ∙ c.if-is.true))

pub returns-then-was-clause-rows : goal.returns-then-was-clause-rows
returns-then-was-clause-rows c = row_put c.args.row c.args.self.now.rows.items c.args.place c.requires.place

pub returns-then-was-clause-sound : goal.returns-then-was-clause-sound
returns-then-was-clause-sound c =
    subst (λ (l : List StreamRow). SoundTable l c.args.self.now.places c.any_last_generation-self.result) (sym (row_put c.args.row c.args.self.now.rows.items c.args.place c.requires.place))
    (sound-set c.args.row c.args.self.now.rows.items c.args.self.now.places c.args.place c.args.self.now.at_last c.any_last_generation-self.result c.requires.sound c.requires.place
    (c.any_last_generation-self.ensures ∙ ap any_at_last_generation (c.as_slice.ensures.value ∙ row_put c.args.row c.args.self.now.rows.items c.args.place c.requires.place)))

pub returns-else-was-clause-rows : goal.returns-else-was-clause-rows
returns-else-was-clause-rows c = row_put c.args.row c.args.self.now.rows.items c.args.place c.requires.place

pub returns-else-was-clause-sound : goal.returns-else-was-clause-sound
returns-else-was-clause-sound c =
    let own = stream_of-found c.args.row.stream c.args.self.now.rows.items c.args.place c.index.result.now c.index.result.now c.requires.place c.index.ensures in
    subst (λ (l : List StreamRow). SoundTable l c.args.self.now.places c.args.self.now.at_last) (sym (row_put c.args.row c.args.self.now.rows.items c.args.place c.requires.place))
    (sound-set_same c.args.row c.args.self.now.rows.items c.args.self.now.places c.args.place c.args.self.now.at_last c.requires.sound c.requires.place
    (sym c.is_at_last_generation-is.ensures ∙ c.if-is.false)
    (ap is_at_last_generation (sym own) ∙ sym c.is_at_last_generation-was.ensures ∙ c.if-was.false))
