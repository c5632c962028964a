use Rattle.std.proofs.Common.{◌≡◌, sym, subst, arith}
use Rattle.std.proofs.lemmas.Grind.{common_steps}
use Rattle.rtc_sdp_codecs.specs.FormedCodecs.{AreFormedExtensions}
use Rattle.rtc_sdp_codecs.specs.LineFormats as spec
use Rattle.rtc_sdp_codecs.proofs.FormedLemmas.{shared_formed}
use Rattle.rtc_sdp_codecs.proofs.line_extensions.share_extensions.Goals as goal

pub returns-clause-formed : goal.returns-clause-formed
returns-clause-formed c = λ theirs.
    let same : c.loop-theirs.found.items ≡ spec.shared_extensions c.args.rows.now c.args.remote.now = grind (arith, common_steps) in
    subst AreFormedExtensions (sym same) (shared_formed c.args.rows.now c.args.remote.now theirs)
