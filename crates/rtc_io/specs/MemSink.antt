-- A sink in memory.
use Rattle.rtc_io.specs.declared.mem_sink.MemSink.TheInside.{Inside}
use Rattle.rtc_io.specs.Tape.{Tape}

-- what a sink in memory is to its callers
abbrev pub tape_of : Inside → Tape
tape_of inside = record {
  written = inside.written.items;
  piece = inside.piece;
  failing = inside.failing;
  calls = inside.calls;
  faults = inside.faults;
}
