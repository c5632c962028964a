-- The parts of a box and a handle that has one own what the box owns.
use Rattle.rtc_c_handle.proofs.Names.{Bx, Slot, plain, impl, [], tnil, dnil}
use Rattle.std.specs.contracts.alloc.Global as Heap
use Rattle.std.specs.contracts.impls.GlobalAllocator.TheImpl.{ghosts, dict}
use Rattle.std.proofs.alloc.Global.TheLaws as heap
use Rattle.rtc_c_handle.specs.contracts.held.Held as Held
use Rattle.rtc_c_handle.proofs.held.Held.TheLaws as held
use Rattle.rtc_c_handle.specs.contracts.parts.Parts as Parts
use Rattle.rtc_c_handle.specs.contracts.handle.Handle as Handle

-- the box of a value that C keeps
abbrev pub Kept : Bx
Kept = record {
  row = Held.the_row;
  laws = held.the_row_laws;
  al = record { row = Heap.the_row; laws = heap.the_row_laws; g = ghosts; d = dict; drops = impl [] tnil dnil };
}

abbrev pub parts_slot : Slot 0
parts_slot = plain (λ _. Parts.the_row Held.the_row Heap.the_row ghosts)

abbrev pub handle_slot : Slot 0
handle_slot = plain (λ _. Handle.the_row)

abbrev pub alloc_slot : Slot 0
alloc_slot = plain (λ _. Heap.the_row)
