use Rattle.std.proofs.Common.{◌≡◌, drop}
use Rattle.std.specs.List.{list_any}
use Rattle.rtc_sdp_values.specs.Extension.{same_extension}
use Rattle.rtc_sdp_codecs.proofs.line_extensions.has_extension.Given as goal

abbrev pub invariant-loop-row : goal.invariant-loop-row
invariant-loop-row l =
    list_any (λ row. same_extension row.1 l.extension) (drop l.row-index l.rows)
    ≡ list_any (λ row. same_extension row.1 l.extension) l.rows
