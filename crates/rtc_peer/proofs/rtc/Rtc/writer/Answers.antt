use Rattle.std.proofs.Common.{◌∙◌, refl, ap}
use Rattle.std.specs.Borrow.{MutBor}
use Rattle.rtc_peer_transport.specs.declared.polled_peer.PolledPeer.{PolledPeer}
use Rattle.rtc_peer_direct.specs.Streams.{LendsWriter, gives_writer}
use Rattle.rtc_peer.specs.CachedPeer.{CachedPeer, polled_of}
use Rattle.rtc_peer.proofs.HandleLoans.{lent_by}
use Rattle.rtc_peer.proofs.rtc.Rtc.writer.Goals as goal

pub returns : goal.returns
returns g c = (
  (
    refl,
    (λ w. lent_by c.lend_writer.result
        (λ (p : PolledPeer g.row.I.Denot g.row.D.Denot g.row.S.Denot g.row.M.Denot g.row.N.Denot) (lent : MutBor g.row.M-Writer.Denot). LendsWriter g.M.MediaSession.media c.args.mid p lent.now w (c.lend_writer.follows.lender w))
        _ _ (ap (λ (x : CachedPeer g.row.I.Denot g.row.D.Denot g.row.S.Denot g.row.M.Denot g.row.N.Denot). polled_of x) c.self.view_is) (c.lend_writer.follows.holds w)),
    c.lend_writer.follows.holds-at-none ∙ ap (λ (x : CachedPeer g.row.I.Denot g.row.D.Denot g.row.S.Denot g.row.M.Denot g.row.N.Denot). polled_of x) c.self.view_is,
  ),
  record {
    leaves = tt;
    found = c.lend_writer.ensures.found ∙ ap (λ (p : PolledPeer g.row.I.Denot g.row.D.Denot g.row.S.Denot g.row.M.Denot g.row.N.Denot). gives_writer g.M.MediaSession.media c.args.mid p) (ap (λ (x : CachedPeer g.row.I.Denot g.row.D.Denot g.row.S.Denot g.row.M.Denot g.row.N.Denot). polled_of x) c.self.view_is);
  },
)
