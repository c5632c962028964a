use Rattle.std.proofs.Common.{subst, sym, List}
use Rattle.rtc_assoc_state.specs.declared.stream_row.StreamRow.{StreamRow}
use Rattle.rtc_assoc_state.specs.StreamTable.{SoundTable}
use Rattle.rtc_assoc_state.proofs.TableLemmas.{sound-same}
use Rattle.rtc_assoc_state.proofs.stream_table.StreamTable.make_room.Goals as goal

pub returns-in_err-make_room-clause-sound : goal.returns-in_err-make_room-clause-sound
returns-in_err-make_room-clause-sound c = sound-same c.args.self.now.rows.items c.args.self.now.places c.make_room.new.self c.args.self.now.at_last c.requires c.make_room.ensures.same

pub returns-in_err-reserve-clause-sound : goal.returns-in_err-reserve-clause-sound
returns-in_err-reserve-clause-sound c =
    subst (λ (l : List StreamRow). SoundTable l c.make_room.new.self c.args.self.now.at_last) (sym c.reserve.ensures.items)
    (sound-same c.args.self.now.rows.items c.args.self.now.places c.make_room.new.self c.args.self.now.at_last c.requires c.make_room.ensures.same)

pub returns-clause-sound : goal.returns-clause-sound
returns-clause-sound c =
    subst (λ (l : List StreamRow). SoundTable l c.make_room.new.self c.args.self.now.at_last) (sym c.reserve.ensures.items)
    (sound-same c.args.self.now.rows.items c.args.self.now.places c.make_room.new.self c.args.self.now.at_last c.requires c.make_room.ensures.same)
