-- What a sink in memory takes.
use Rattle.std.specs.Prelude.{ℕ, ◌==◌, ◌&&◌, Bool, List, ◌++◌, length, take, nat_lt, Result, Ok, Err, if◌then◌else◌}
use Rattle.std.specs.List.{list_any}
use Rattle.rtc_io.specs.Faults.{counted}

pub record Tape : Type 0 where
  -- the bytes that were written
  pub written : List ℕ
  -- how many bytes a call takes at most
  pub piece : ℕ
  -- the numbers of the calls that fail, from 0
  pub failing : List ℕ
  -- how many calls there were
  pub calls : ℕ
  -- how many of them failed, or took none of a piece that is not empty
  pub faults : ℕ

-- whether the next call fails, memory aside
abbrev pub will_refuse : Tape → Bool
will_refuse tape = list_any (λ number. number == tape.calls) tape.failing

-- the sink after a call that took so many bytes from the front of a piece, or failed
abbrev pub after_write : {E : Type 0} → Tape → List ℕ → Result ℕ E → Tape
after_write tape bytes (Ok count) = record tape {
  written = tape.written ++ take count bytes;
  calls = counted tape.calls;
  faults = if count == 0 && nat_lt 0 (length bytes) then counted tape.faults else tape.faults;
}
after_write tape bytes (Err failed) = record tape { calls = counted tape.calls; faults = counted tape.faults }
