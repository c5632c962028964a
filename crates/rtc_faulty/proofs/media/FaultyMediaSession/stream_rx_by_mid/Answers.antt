use Rattle.std.proofs.Common.{refl}
use Rattle.rtc_faulty.proofs.LoanLemmas.{some_left, none_left}
use Rattle.rtc_faulty.proofs.media.FaultyMediaSession.stream_rx_by_mid.Goals as goal

pub returns : goal.returns
returns g c =
    let a = c.args in
    let left = c.stream_rx_by_mid.follows in
    let lends = g.M.MediaSession.media.rx_named_lent a.self.now.inner a.mid a.rid in
    ((refl, (λ w. some_left c.stream_rx_by_mid.result (λ lent i. lends lent.now w i) _ a.self.now (left.holds w)), none_left _ a.self.now left.holds-at-none), record { leaves = tt; found = c.stream_rx_by_mid.ensures.found })
