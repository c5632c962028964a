use Rattle.std.proofs.Common.{refl}
use Rattle.rtc_faulty.proofs.LoanLemmas.{some_left, none_left}
use Rattle.rtc_faulty.proofs.media.FaultyMediaSession.reset_stream_tx.Goals as goal

pub returns : goal.returns
returns g c =
    let a = c.args in
    let left = c.reset_stream_tx.follows in
    let lends = g.M.MediaSession.media.tx_reset a.self.now.inner a.mid a.rid a.new_ssrc a.new_rtx in
    ((refl, (λ w. some_left c.reset_stream_tx.result (λ lent i. lends lent.now w i) _ a.self.now (left.holds w)), none_left _ a.self.now left.holds-at-none), record { leaves = tt; found = c.reset_stream_tx.ensures.found })
