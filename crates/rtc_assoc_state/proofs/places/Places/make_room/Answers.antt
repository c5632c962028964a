use Rattle.std.proofs.Common.{◌∙◌, ◌/◌, ◌%◌, ap, arith}
use Rattle.std.proofs.lemmas.Grind.{common_steps}
use Rattle.rtc_assoc_state.specs.Places.{place_in_slot}
use Rattle.rtc_assoc_state.proofs.PlaceLemmas.{list_same, list_room}
use Rattle.rtc_assoc_state.proofs.places.Places.make_room.Goals as goal

pub returns-in_err-add_lists-clause-same : goal.returns-in_err-add_lists-clause-same
returns-in_err-add_lists-clause-same c q = ap place_in_slot (c.add_lists.ensures.same (q / 256) (q % 256))

pub index_mut-requires : goal.index_mut-requires
index_mut-requires c = grind (arith, common_steps, c.in_ok-add_lists.ensures.room)

pub returns-in_err-make_slot-clause-same : goal.returns-in_err-make_slot-clause-same
returns-in_err-make_slot-clause-same c q =
    ap place_in_slot
    (list_same c.add_lists.new.lists.items c.list_of-list.result c.index_mut.result.now c.make_slot.new.list c.index_mut.ensures.value c.make_slot.ensures.same (q / 256) (q % 256)
    ∙ c.add_lists.ensures.same (q / 256) (q % 256))

pub returns-clause-same : goal.returns-clause-same
returns-clause-same c q =
    ap place_in_slot
    (list_same c.add_lists.new.lists.items c.list_of-list.result c.index_mut.result.now c.make_slot.new.list c.index_mut.ensures.value c.make_slot.ensures.same (q / 256) (q % 256)
    ∙ c.add_lists.ensures.same (q / 256) (q % 256))

pub returns-clause-room : goal.returns-clause-room
returns-clause-room c =
    rw (← c.list_of-list.ensures, ← c.slot_of.ensures)
    (list_room c.add_lists.new.lists.items c.list_of-list.result c.slot_of.result c.make_slot.new.list c.in_ok-add_lists.ensures.room c.in_ok-make_slot.ensures.room)
