-- What a handle owns: nothing, or what a box owns.
use base.Fml.{Fml, ftrue}
use denote.RawPtr.{Ptr}
use Rattle.std.specs.Prelude.{Option, Some, None}
use Rattle.std.specs.Box.Ownership.{box_owns}
use Rattle.std.specs.declared.alloc.Global.{Global}
use Rattle.std.specs.contracts.impls.GlobalAllocator.TheImpl.{ghosts}
use Rattle.rtc_c_handle.specs.contracts.held.Held.{the_row}

abbrev pub owns_or_none : Global → Ptr → Option the_row.Denot → Fml
owns_or_none alloc p None = ftrue
owns_or_none alloc p (Some held) = box_owns (ghosts.dealloc_token alloc) the_row p held
