use Rattle.std.proofs.Common.{◌∙◌, sym, ap}
use Rattle.rtc_peer_core.specs.Meanings.{meanings}
use Rattle.rtc_peer_core.specs.SdpHalves.{tells_half, draws_half}
use Rattle.rtc_peer_core.specs.Stance.{stance_of}
use Rattle.rtc_peer_negotiation.proofs.OfferLemmas.{lacks_undrawn, lacks_drawn}
use Rattle.rtc_peer_negotiation.proofs.applying.apply_staged.Goals as goal

pub returns-in-Err : goal.returns-in-Err
returns-in-Err g c =
    let m = meanings g.I.IceAgent.ice g.D.DtlsInstance.dtls g.S.Association.association g.M.MediaSession.media g.N.Ids.ids in
    lacks_undrawn m (draws_half (stance_of m c.args.peer.now)) c.args.peer.now c.draw_half.new.peer
    (c.in-Err.ensures.others ∙ ap (λ n. record c.args.peer.now { ids = n }) c.in-Err.ensures.err)

pub returns-in-Err-tell_offered_init : goal.returns-in-Err-tell_offered_init
returns-in-Err-tell_offered_init g c =
    let m = meanings g.I.IceAgent.ice g.D.DtlsInstance.dtls g.S.Association.association g.M.MediaSession.media g.N.Ids.ids in
    lacks_drawn m (tells_half (stance_of m c.args.peer.now)) c.args.peer.now c.draw_half.new.peer
    (c.in-Ok.ensures.others ∙ ap (λ n. record c.args.peer.now { ids = n }) c.in-Ok.ensures.after)

pub returns-in-Err-make_offer : goal.returns-in-Err-make_offer
returns-in-Err-make_offer g c =
    let m = meanings g.I.IceAgent.ice g.D.DtlsInstance.dtls g.S.Association.association g.M.MediaSession.media g.N.Ids.ids in
    lacks_drawn m (tells_half (stance_of m c.args.peer.now)) c.args.peer.now c.draw_half.new.peer
    (c.in-Ok.ensures.others ∙ ap (λ n. record c.args.peer.now { ids = n }) c.in-Ok.ensures.after)

pub returns-then-not-stages_offer : goal.returns-then-not-stages_offer
returns-then-not-stages_offer g c = (sym c.stages_offer.ensures ∙ c.if-not-stages_offer.true, c.apply_channels.ensures)
