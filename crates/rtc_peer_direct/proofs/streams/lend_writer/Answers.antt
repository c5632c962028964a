use Rattle.std.proofs.Common.{◌∙◌, refl, sym}
use Rattle.std.specs.Borrow.{MutBor}
use Rattle.rtc_peer_direct.proofs.LoanLemmas.{loan_ends, nothing_lent, part_finds}
use Rattle.rtc_peer_direct.proofs.streams.lend_writer.Goals as goal

pub returns : goal.returns
returns g c = (
  (
    refl,
    (λ w. loan_ends c.args.peer.now c.writer.result (λ (lent : MutBor g.row.M-Writer.Denot) (m : g.row.M.Denot). g.M.MediaSession.media.writer_lent c.args.peer.now.core.media c.args.mid lent.now w m) (c.writer.follows.lender w) (c.writer.follows.holds w)),
    nothing_lent c.args.peer.now c.writer.follows.lender-at-none c.writer.follows.holds-at-none,
  ),
  record {
    leaves = tt;
    found = part_finds _ _ _ _ _ c.if-rtp_mode.false (sym c.is_open_phase.ensures ∙ c.if-not-is_open_phase.false) (sym c.has_media.ensures ∙ c.if-not-has_media.false) c.writer.ensures.found;
  },
)
