use Rattle.std.proofs.Common.{refl, ap, ◌∙◌}
use Rattle.rtc_faulty.proofs.CountedLoans.{some_lent}
use Rattle.rtc_faulty.proofs.counted_media.CountedMediaSession.reset_stream_tx.Goals as goal

pub returns : goal.returns
returns g c =
    let a = c.args in
    let media = g.M.MediaSession.media in
    let left = c.reset_stream_tx.follows in
    let was = c.self.view_is in
    let found = c.reset_stream_tx.ensures.found ∙ ap (λ i. media.resets_tx i a.mid a.rid a.new_ssrc a.new_rtx) was in
    ((refl, (λ w. some_lent c.reset_stream_tx.result (λ i lent j. media.tx_reset i a.mid a.rid a.new_ssrc a.new_rtx lent.now w j) _ _ _ was (left.holds w)), left.holds-at-none ∙ was), record { leaves = tt; found = found })
