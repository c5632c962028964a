use Rattle.std.proofs.Common.{◌≡◌, sym, subst, arith}
use Rattle.std.proofs.lemmas.Grind.{common_steps}
use Rattle.rtc_sdp_codecs.specs.FormedCodecs.{AreFormedRows}
use Rattle.rtc_sdp_codecs.specs.LineFormats as spec
use Rattle.rtc_sdp_codecs.proofs.FormedLemmas.{matched_formed}
use Rattle.rtc_sdp_codecs.proofs.line_formats.match_rows.Goals as goal

pub returns-clause-formed : goal.returns-clause-formed
returns-clause-formed c = λ own theirs.
    let same : c.loop-row.found.items ≡ spec.matched_rows c.args.kind c.args.rows.now c.args.remote.now = grind (arith, common_steps) in
    subst AreFormedRows (sym same) (matched_formed c.args.kind c.args.rows.now c.args.remote.now own theirs)
