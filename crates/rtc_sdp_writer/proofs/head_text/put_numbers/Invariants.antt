use Rattle.std.proofs.Common.{◌≡◌, ◌++◌, drop, map}
use Rattle.std.specs.Prelude.{string_bytes}
use Rattle.std.specs.Fmt.{decimal}
use Rattle.rtc_wire_text.specs.Words.{spaced}
use Rattle.rtc_sdp_reader.specs.PlainPayloads.{formats_of}
use Rattle.rtc_sdp_writer.proofs.head_text.put_numbers.Given as goal

abbrev pub invariant-loop-row : goal.invariant-loop-row
invariant-loop-row l = string_bytes l.out ++ spaced (map decimal (formats_of (drop l.row-index l.rows))) ≡ string_bytes l.fn.out ++ spaced (map decimal (formats_of l.rows))
