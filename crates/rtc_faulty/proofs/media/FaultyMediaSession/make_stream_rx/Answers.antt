use Rattle.std.proofs.Common.{refl}
use Rattle.rtc_faulty.proofs.LoanLemmas.{made_left, none_made}
use Rattle.rtc_faulty.proofs.media.FaultyMediaSession.make_stream_rx.Goals as goal

pub returns : goal.returns
returns g c =
    let a = c.args in
    let left = c.make_stream_rx.follows in
    let lends = g.M.MediaSession.media.rx_expected a.self.now.inner a.ssrc a.rtx a.mid a.rid in
    ((refl, (λ w. made_left c.make_stream_rx.result (λ lent i. lends lent.now w i) _ a.self.now (left.holds w)), none_made c.make_stream_rx.result _ a.self.now left.holds-at-none), record { leaves = tt; answer = c.make_stream_rx.ensures.answer })
