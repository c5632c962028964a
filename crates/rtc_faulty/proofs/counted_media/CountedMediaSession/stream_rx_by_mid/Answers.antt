use Rattle.std.proofs.Common.{refl, ap, ◌∙◌}
use Rattle.rtc_faulty.proofs.CountedLoans.{some_lent}
use Rattle.rtc_faulty.proofs.counted_media.CountedMediaSession.stream_rx_by_mid.Goals as goal

pub returns : goal.returns
returns g c =
    let a = c.args in
    let media = g.M.MediaSession.media in
    let left = c.stream_rx_by_mid.follows in
    let was = c.self.view_is in
    let found = c.stream_rx_by_mid.ensures.found ∙ ap (λ i. media.has_rx_named i a.mid a.rid) was in
    ((refl, (λ w. some_lent c.stream_rx_by_mid.result (λ i lent j. media.rx_named_lent i a.mid a.rid lent.now w j) _ _ _ was (left.holds w)), left.holds-at-none ∙ was), record { leaves = tt; found = found })
