use Rattle.std.proofs.Common.{ℕ, get_or, refl, sym}
use Rattle.rtc_sdp_reader.proofs.LinkLemmas.{no_link, one_link}
use Rattle.rtc_sdp_reader.proofs.payloads.links_of.Goals as goal

pub loop-format-preserved-in_default : goal.loop-format-preserved-in_default
loop-format-preserved-in_default c =
    let format : ℕ = get_or c.args.formats.now c.loop-format.format-index 0 in
    no_link c.args.codecs.now c.args.fmtps.now c.args.formats.now c.loop-format.format-index format c.loop-format.links.items _
    c.loop-format-test.true refl (sym c.in_default.ensures) c.loop-format.invariant

pub loop-format-preserved : goal.loop-format-preserved
loop-format-preserved c =
    let format : ℕ = get_or c.args.formats.now c.loop-format.format-index 0 in
    one_link c.args.codecs.now c.args.fmtps.now c.args.formats.now c.loop-format.format-index format c.in-Some.codec.now c.link_of.result
    c.loop-format.links.items _ _ c.loop-format-test.true refl (sym c.in-Some.ensures) c.link_of.ensures
    c.in_ok-push.ensures.items c.loop-format.invariant
