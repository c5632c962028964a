use Rattle.std.proofs.Common.{refl, ap, ◌∙◌}
use Rattle.rtc_faulty.proofs.CountedLoans.{some_lent}
use Rattle.rtc_faulty.proofs.counted_media.CountedMediaSession.writer.Goals as goal

pub returns : goal.returns
returns g c =
    let a = c.args in
    let media = g.M.MediaSession.media in
    let left = c.writer.follows in
    let was = c.self.view_is in
    let found = c.writer.ensures.found ∙ ap (λ i. media.has_writer i a.mid) was in
    ((refl, (λ w. some_lent c.writer.result (λ i lent j. media.writer_lent i a.mid lent.now w j) _ _ _ was (left.holds w)), left.holds-at-none ∙ was), record { leaves = tt; found = found })
