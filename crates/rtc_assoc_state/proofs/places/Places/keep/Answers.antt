use Rattle.std.proofs.Common.{◌≡◌, ◌<◌, ◌+◌, ◌/◌, ◌%◌, length, set, true, arith}
use Rattle.std.proofs.lemmas.Grind.{common_steps}
use Rattle.rtc_assoc_state.specs.Places.{has_slot}
use Rattle.rtc_assoc_state.proofs.PlaceLemmas.{room_list, room_slot, list_put, place_put}
use Rattle.rtc_assoc_state.proofs.places.Places.keep.Goals as goal

pub index_mut-requires : goal.index_mut-requires
index_mut-requires c =
    let within : c.list_of-list.result < length c.args.self.now.lists.items = rw c.list_of-list.ensures (room_list c.args.self.now.lists.items (c.args.id / 256) (c.args.id % 256) c.requires.room) in
    grind (arith, common_steps, within)

pub put_slot-requires : goal.put_slot-requires
put_slot-requires c =
    let room : has_slot c.args.self.now.lists.items c.list_of-list.result c.slot_of.result ≡ true = rw (c.list_of-list.ensures, c.slot_of.ensures) c.requires.room in
    room_slot c.args.self.now.lists.items c.list_of-list.result c.slot_of.result c.index_mut.result.now room c.index_mut.ensures.value

pub returns : goal.returns
returns c =
    let within : c.list_of-list.result < length c.args.self.now.lists.items = rw c.list_of-list.ensures (room_list c.args.self.now.lists.items (c.args.id / 256) (c.args.id % 256) c.requires.room) in
    let room : has_slot c.args.self.now.lists.items c.list_of-list.result c.slot_of.result ≡ true = rw (c.list_of-list.ensures, c.slot_of.ensures) c.requires.room in
    place_put c.args.self.now.lists.items (set c.args.self.now.lists.items c.list_of-list.result c.put_slot.new.list) c.args.id c.args.place
    (λ l k. rw (← c.list_of-list.ensures, ← c.slot_of.ensures)
    (list_put c.args.self.now.lists.items c.list_of-list.result c.slot_of.result (c.args.place + 1) c.index_mut.result.now c.put_slot.new.list within c.index_mut.ensures.value
    (room_slot c.args.self.now.lists.items c.list_of-list.result c.slot_of.result c.index_mut.result.now room c.index_mut.ensures.value) c.put_slot.ensures l k))
