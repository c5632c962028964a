use Rattle.std.proofs.Common.{◌≡◌, refl, ap, subst}
use Rattle.std.specs.Borrow.{MutBor}
use Rattle.rtc_parts.specs.NoStream.{StreamAnswers}
use Rattle.rtc_peer_transport.specs.declared.polled_peer.PolledPeer.{PolledPeer}
use Rattle.rtc_peer.specs.CachedPeer.{CachedPeer, polled_of}
use Rattle.rtc_peer_direct.specs.Streams.{DeclaresTx, gives_no_tx}
use Rattle.rtc_peer.proofs.HandleLoans.{made_beside, refused_beside}
use Rattle.rtc_peer.proofs.direct_api.DirectApi.make_stream_tx.Goals as goal

pub returns : goal.returns
returns g c = (
  (
    refl,
    (λ w. made_beside c.make_stream_tx.result
        (λ (p : PolledPeer g.row.I.Denot g.row.D.Denot g.row.S.Denot g.row.M.Denot g.row.N.Denot) (lent : MutBor g.row.M-Tx.Denot). DeclaresTx g.M.MediaSession.media c.args.ssrc c.args.rtx c.args.mid c.args.rid p lent.now w (c.make_stream_tx.follows.lender w))
        _ _ (c.args.self.now.rtc.ghost_name ≡ c.args.self.now.rtc.ghost_name) (ap (λ (x : CachedPeer g.row.I.Denot g.row.D.Denot g.row.S.Denot g.row.M.Denot g.row.N.Denot). polled_of x) c.rtc.view_is) refl (c.make_stream_tx.follows.holds w)),
    refused_beside c.make_stream_tx.result (λ (p : PolledPeer g.row.I.Denot g.row.D.Denot g.row.S.Denot g.row.M.Denot g.row.N.Denot). c.make_stream_tx.follows.lender-at-none ≡ p) _ _ (c.args.self.now.rtc.ghost_name ≡ c.args.self.now.rtc.ghost_name) (ap (λ (x : CachedPeer g.row.I.Denot g.row.D.Denot g.row.S.Denot g.row.M.Denot g.row.N.Denot). polled_of x) c.rtc.view_is) refl c.make_stream_tx.follows.holds-at-none,
  ),
  record {
    leaves = tt;
    answer = subst (λ (p : PolledPeer g.row.I.Denot g.row.D.Denot g.row.S.Denot g.row.M.Denot g.row.N.Denot). StreamAnswers (gives_no_tx g.M.MediaSession.media c.args.ssrc c.args.rtx c.args.mid c.args.rid p) c.make_stream_tx.result) (ap (λ (x : CachedPeer g.row.I.Denot g.row.D.Denot g.row.S.Denot g.row.M.Denot g.row.N.Denot). polled_of x) c.rtc.view_is) c.make_stream_tx.ensures.answer;
  },
)
