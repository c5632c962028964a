use Rattle.std.proofs.Common.{◌≡◌, ◌++◌, drop}
use Rattle.rtc_sdp_reader.specs.Payloads as spec
use Rattle.std.specs.List.{filter_map}
use Rattle.rtc_sdp_reader.proofs.payloads.rows_of.Given as goal

abbrev pub invariant-loop-i : goal.invariant-loop-i
invariant-loop-i l = l.rows.items ++ filter_map (spec.payload_row_of l.links.items) (spec.entries (drop l.i l.formats) l.codecs.items l.fmtps.items) ≡ spec.payload_rows l.formats l.fn.codecs.items l.fn.fmtps.items
