use Rattle.std.proofs.Common.{refl}
use Rattle.std.specs.Borrow.{MutBor}
use Rattle.rtc_peer_direct.proofs.LoanLemmas.{loan_ends, nothing_lent}
use Rattle.rtc_peer_direct.proofs.streams.reset_stream_tx.Goals as goal

pub returns : goal.returns
returns g c = (
  (
    refl,
    (λ w. loan_ends c.args.peer.now c.reset_stream_tx.result (λ (lent : MutBor g.row.M-Tx.Denot) (m : g.row.M.Denot). g.M.MediaSession.media.tx_reset c.args.peer.now.core.media c.args.mid c.args.rid c.args.new_ssrc c.args.new_rtx lent.now w m) (c.reset_stream_tx.follows.lender w) (c.reset_stream_tx.follows.holds w)),
    nothing_lent c.args.peer.now c.reset_stream_tx.follows.lender-at-none c.reset_stream_tx.follows.holds-at-none,
  ),
  record { leaves = tt; found = c.reset_stream_tx.ensures.found },
)
