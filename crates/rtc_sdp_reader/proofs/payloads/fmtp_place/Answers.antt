use Rattle.std.proofs.Common.{◌∙◌, sym, refl, ap}
use Rattle.std.proofs.lemmas.Option.{slice_get_read}
use Rattle.rtc_sdp_reader.proofs.RowLemmas.{there}
use Rattle.rtc_sdp_reader.proofs.payloads.fmtp_place.Goals as goal

pub returns-then-fmtps-i-clause-fmtp : goal.returns-then-fmtps-i-clause-fmtp
returns-then-fmtps-i-clause-fmtp c =
    slice_get_read c.args.fmtps.now _ c.loop-i.i c.index-fmtps-i.result refl c.loop-i-test.true c.index-fmtps-i.is
    ∙ sym (there (λ row. row.pt.0) c.args.fmtps.now c.loop-i.i c.args.pt c.index-fmtps-i.result c.loop-i-test.true c.index-fmtps-i.is (ap (λ row. row.pt.0) c.index-fmtps-i.is ∙ c.if-fmtps-i.true))
    ∙ c.loop-i.invariant
