use Rattle.std.proofs.Common.{◌≡◌, ◌++◌, drop}
use Rattle.rtc_sdp_codecs.specs.LineFormats as spec
use Rattle.rtc_sdp_codecs.proofs.line_extensions.share_extensions.Given as goal

abbrev pub invariant-loop-theirs : goal.invariant-loop-theirs
invariant-loop-theirs l =
    l.found.items ++ spec.shared_extensions l.rows (drop l.theirs-index l.remote) ≡ spec.shared_extensions l.rows l.remote
