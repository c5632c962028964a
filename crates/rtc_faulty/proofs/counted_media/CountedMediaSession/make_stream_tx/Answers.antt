use Rattle.std.proofs.Common.{refl, subst}
use Rattle.rtc_parts.specs.NoStream.{StreamAnswers}
use Rattle.rtc_faulty.proofs.CountedLoans.{made_lent, nothing_made}
use Rattle.rtc_faulty.proofs.counted_media.CountedMediaSession.make_stream_tx.Goals as goal

pub returns : goal.returns
returns g c =
    let a = c.args in
    let media = g.M.MediaSession.media in
    let left = c.make_stream_tx.follows in
    let was = c.self.view_is in
    let answer = subst (λ i. StreamAnswers (media.declines_tx i a.ssrc a.rtx a.mid a.rid) c.make_stream_tx.result) was c.make_stream_tx.ensures.answer in
    ((refl, (λ w. made_lent c.make_stream_tx.result (λ i lent j. media.tx_declared i a.ssrc a.rtx a.mid a.rid lent.now w j) _ _ _ was (left.holds w)), nothing_made c.make_stream_tx.result _ _ _ was left.holds-at-none), record { leaves = tt; answer = answer })
