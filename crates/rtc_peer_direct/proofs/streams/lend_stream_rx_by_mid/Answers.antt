use Rattle.std.proofs.Common.{refl}
use Rattle.std.specs.Borrow.{MutBor}
use Rattle.rtc_peer_direct.proofs.LoanLemmas.{loan_ends, nothing_lent}
use Rattle.rtc_peer_direct.proofs.streams.lend_stream_rx_by_mid.Goals as goal

pub returns : goal.returns
returns g c = (
  (
    refl,
    (λ w. loan_ends c.args.peer.now c.stream_rx_by_mid.result (λ (lent : MutBor g.row.M-Rx.Denot) (m : g.row.M.Denot). g.M.MediaSession.media.rx_named_lent c.args.peer.now.core.media c.args.mid c.args.rid lent.now w m) (c.stream_rx_by_mid.follows.lender w) (c.stream_rx_by_mid.follows.holds w)),
    nothing_lent c.args.peer.now c.stream_rx_by_mid.follows.lender-at-none c.stream_rx_by_mid.follows.holds-at-none,
  ),
  record { leaves = tt; found = c.stream_rx_by_mid.ensures.found },
)
