use Rattle.std.proofs.Common.{◌≡◌, true, List, length, sym, subst, ◌∙◌, arith}
use Rattle.rtc_assoc_state.specs.declared.stream_row.StreamRow.{StreamRow}
use Rattle.rtc_assoc_state.specs.StreamTable.{SoundTable}
use Rattle.rtc_assoc_state.proofs.RowLemmas.{put-none}
use Rattle.rtc_assoc_state.proofs.TableLemmas.{sound-add_last, sound-add_same}
use Rattle.rtc_assoc_state.proofs.stream_table.StreamTable.add.Goals as goal

pub keep-requires-clause-fits : goal.keep-requires-clause-fits
keep-requires-clause-fits c = omega (arith, c.len-place.ensures, c.requires.room)

pub returns-then-last-clause-rows : goal.returns-then-last-clause-rows
returns-then-last-clause-rows c = c.push_row.ensures ∙ put-none c.args.row c.args.self.now.rows.items c.requires.absent

pub returns-then-last-clause-sound : goal.returns-then-last-clause-sound
returns-then-last-clause-sound c =
    let end_is : c.len-place.result ≡ length c.args.self.now.rows.items = omega (arith, c.len-place.ensures) in
    subst (λ (l : List StreamRow). SoundTable l c.keep.new.self true) (sym (c.push_row.ensures ∙ put-none c.args.row c.args.self.now.rows.items c.requires.absent))
    (sound-add_last c.args.row c.args.self.now.rows.items c.args.self.now.places c.keep.new.self c.args.self.now.at_last c.requires.sound c.requires.absent
    (rw end_is at c.keep.ensures) (sym c.is_at_last_generation-last.ensures ∙ c.if-last.true))

pub returns-else-last-clause-rows : goal.returns-else-last-clause-rows
returns-else-last-clause-rows c = c.push_row.ensures ∙ put-none c.args.row c.args.self.now.rows.items c.requires.absent

pub returns-else-last-clause-sound : goal.returns-else-last-clause-sound
returns-else-last-clause-sound c =
    let end_is : c.len-place.result ≡ length c.args.self.now.rows.items = omega (arith, c.len-place.ensures) in
    subst (λ (l : List StreamRow). SoundTable l c.keep.new.self c.args.self.now.at_last) (sym (c.push_row.ensures ∙ put-none c.args.row c.args.self.now.rows.items c.requires.absent))
    (sound-add_same c.args.row c.args.self.now.rows.items c.args.self.now.places c.keep.new.self c.args.self.now.at_last c.requires.sound c.requires.absent
    (rw end_is at c.keep.ensures) (sym c.is_at_last_generation-last.ensures ∙ c.if-last.false))
