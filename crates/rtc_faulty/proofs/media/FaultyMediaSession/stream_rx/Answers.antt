use Rattle.std.proofs.Common.{refl}
use Rattle.rtc_faulty.proofs.LoanLemmas.{some_left, none_left}
use Rattle.rtc_faulty.proofs.media.FaultyMediaSession.stream_rx.Goals as goal

pub returns : goal.returns
returns g c =
    let a = c.args in
    let left = c.stream_rx.follows in
    let lends = g.M.MediaSession.media.rx_lent a.self.now.inner a.ssrc in
    ((refl, (λ w. some_left c.stream_rx.result (λ lent i. lends lent.now w i) _ a.self.now (left.holds w)), none_left _ a.self.now left.holds-at-none), record { leaves = tt; found = c.stream_rx.ensures.found })
