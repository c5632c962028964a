use Rattle.std.proofs.Common.{◌∙◌, sym, refl, ap}
use Rattle.std.proofs.lemmas.Option.{slice_get_read}
use Rattle.rtc_sdp_reader.proofs.RowLemmas.{there}
use Rattle.rtc_sdp_reader.proofs.payloads.codec_place.Goals as goal

pub returns-then-codecs-i-clause-codec : goal.returns-then-codecs-i-clause-codec
returns-then-codecs-i-clause-codec c =
    slice_get_read c.args.codecs.now _ c.loop-i.i c.index-codecs-i.result refl c.loop-i-test.true c.index-codecs-i.is
    ∙ sym (there (λ row. row.pt.0) c.args.codecs.now c.loop-i.i c.args.pt c.index-codecs-i.result c.loop-i-test.true c.index-codecs-i.is (ap (λ row. row.pt.0) c.index-codecs-i.is ∙ c.if-codecs-i.true))
    ∙ c.loop-i.invariant
