use Rattle.std.proofs.Common.{refl}
use Rattle.std.specs.Borrow.{MutBor}
use Rattle.rtc_peer_direct.proofs.LoanLemmas.{loan_ends, nothing_lent}
use Rattle.rtc_peer_direct.proofs.streams.lend_stream_rx.Goals as goal

pub returns : goal.returns
returns g c = (
  (
    refl,
    (λ w. loan_ends c.args.peer.now c.stream_rx.result (λ (lent : MutBor g.row.M-Rx.Denot) (m : g.row.M.Denot). g.M.MediaSession.media.rx_lent c.args.peer.now.core.media c.args.ssrc lent.now w m) (c.stream_rx.follows.lender w) (c.stream_rx.follows.holds w)),
    nothing_lent c.args.peer.now c.stream_rx.follows.lender-at-none c.stream_rx.follows.holds-at-none,
  ),
  record { leaves = tt; found = c.stream_rx.ensures.found },
)
