-- The addresses that are remembered.
use Rattle.std.specs.Prelude.{List, [], ◌∷◌, ◌++◌}
use Rattle.circular_buffer.specs.Buffer.{keep_last}
use Rattle.rtc_wire.specs.declared.addr.Addr.{Addr}

-- addresses with one more, of which the last 20 are kept
abbrev pub with_recent : Addr → List Addr → List Addr
with_recent addr addrs = keep_last 20 (addrs ++ addr ∷ [])
