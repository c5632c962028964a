use Rattle.std.proofs.Common.{◌≡◌, ◌+◌, ◌-◌, ◌≤◌, drop}
use Rattle.std.specs.VecDeque.{deque_len, deque_capacity}
use Rattle.rtc_assoc_state.specs.Amounts.{Agree}
use Rattle.rtc_assoc_state.specs.StreamTable.{SoundTable}
use Rattle.rtc_assoc_state.specs.Settling.{settled, told_of}
use Rattle.rtc_assoc_state.proofs.settling.settle.Given as goal

abbrev pub invariant-loop : goal.invariant-loop
invariant-loop l = record {
  told : settled (l.count - l.counter) l.items.items (told_of l.streams.rows.items l.events.items) ≡ settled l.count l.fn.items.items (told_of l.fn.streams.rows.items l.fn.events.items);
  items : l.items.items ≡ drop l.counter l.fn.items.items;
  left : deque_len l.items + l.counter ≡ deque_len l.fn.items;
  agree : Agree l.amounts l.items.items;
  sound : SoundTable l.streams.rows.items l.streams.places l.streams.at_last;
  room : deque_len l.events + (l.count - l.counter) ≤ deque_capacity l.events;
}
