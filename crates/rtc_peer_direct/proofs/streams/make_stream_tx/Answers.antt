use Rattle.std.proofs.Common.{◌∙◌, refl, sym}
use Rattle.std.specs.Borrow.{MutBor}
use Rattle.rtc_peer_direct.proofs.LoanLemmas.{made_loan_ends, nothing_made, part_answers}
use Rattle.rtc_peer_direct.proofs.streams.make_stream_tx.Goals as goal

pub returns : goal.returns
returns g c = (
  (
    refl,
    (λ w. made_loan_ends c.args.peer.now c.make_stream_tx.result (λ (lent : MutBor g.row.M-Tx.Denot) (m : g.row.M.Denot). g.M.MediaSession.media.tx_declared c.args.peer.now.core.media c.args.ssrc c.args.rtx c.args.mid c.args.rid lent.now w m) (c.make_stream_tx.follows.lender w) (c.make_stream_tx.follows.holds w)),
    nothing_made c.args.peer.now c.make_stream_tx.result c.make_stream_tx.follows.lender-at-none c.make_stream_tx.follows.holds-at-none,
  ),
  record {
    leaves = tt;
    answer = part_answers _ _ c.make_stream_tx.result (sym c.has_media.ensures ∙ c.if-not-has_media.false) c.make_stream_tx.ensures.answer;
  },
)
