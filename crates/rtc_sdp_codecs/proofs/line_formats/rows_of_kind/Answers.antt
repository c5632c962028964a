use Rattle.std.proofs.Common.{◌≡◌, sym, subst, arith}
use Rattle.std.proofs.lemmas.Grind.{common_steps}
use Rattle.rtc_sdp_codecs.specs.FormedCodecs.{AreFormedRows}
use Rattle.rtc_sdp_codecs.specs.LineFormats as spec
use Rattle.rtc_sdp_codecs.proofs.FormedLemmas.{kind_formed}
use Rattle.rtc_sdp_codecs.proofs.line_formats.rows_of_kind.Goals as goal

pub returns-clause-formed : goal.returns-clause-formed
returns-clause-formed c = λ own.
    let same : c.loop-row.found.items ≡ spec.rows_of_kind c.args.kind c.args.rows.now = grind (arith, common_steps) in
    subst AreFormedRows (sym same) (kind_formed c.args.kind c.args.rows.now own)
