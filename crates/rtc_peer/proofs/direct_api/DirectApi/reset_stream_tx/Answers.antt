use Rattle.std.proofs.Common.{◌≡◌, ◌∙◌, refl, ap}
use Rattle.std.specs.Borrow.{MutBor}
use Rattle.rtc_peer_transport.specs.declared.polled_peer.PolledPeer.{PolledPeer}
use Rattle.rtc_peer.specs.CachedPeer.{CachedPeer, polled_of}
use Rattle.rtc_peer_direct.specs.Streams.{ResetsTx}
use Rattle.rtc_peer.proofs.HandleLoans.{lent_beside}
use Rattle.rtc_peer.proofs.direct_api.DirectApi.reset_stream_tx.Goals as goal

pub returns : goal.returns
returns g c = (
  (
    refl,
    (λ w. lent_beside c.reset_stream_tx.result
        (λ (p : PolledPeer g.row.I.Denot g.row.D.Denot g.row.S.Denot g.row.M.Denot g.row.N.Denot) (lent : MutBor g.row.M-Tx.Denot). ResetsTx g.M.MediaSession.media c.args.mid c.args.rid c.args.new_ssrc c.args.new_rtx p lent.now w (c.reset_stream_tx.follows.lender w))
        _ _ (c.args.self.now.rtc.ghost_name ≡ c.args.self.now.rtc.ghost_name) (ap (λ (x : CachedPeer g.row.I.Denot g.row.D.Denot g.row.S.Denot g.row.M.Denot g.row.N.Denot). polled_of x) c.rtc.view_is) refl (c.reset_stream_tx.follows.holds w)),
    (refl, c.reset_stream_tx.follows.holds-at-none ∙ (ap (λ (x : CachedPeer g.row.I.Denot g.row.D.Denot g.row.S.Denot g.row.M.Denot g.row.N.Denot). polled_of x) c.rtc.view_is)),
  ),
  record {
    leaves = tt;
    found = c.reset_stream_tx.ensures.found ∙ ap (λ (p : PolledPeer g.row.I.Denot g.row.D.Denot g.row.S.Denot g.row.M.Denot g.row.N.Denot). g.M.MediaSession.media.resets_tx p.core.media c.args.mid c.args.rid c.args.new_ssrc c.args.new_rtx) (ap (λ (x : CachedPeer g.row.I.Denot g.row.D.Denot g.row.S.Denot g.row.M.Denot g.row.N.Denot). polled_of x) c.rtc.view_is);
  },
)
