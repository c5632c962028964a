use Rattle.std.proofs.Common.{◌∙◌, sym, arith}
use Rattle.rtc_channels.proofs.OpeningLemmas.{opens_more, opens_stop}
use Rattle.rtc_channels.proofs.SettledLemmas.{settled_within, settled_opens}
use Rattle.rtc_channels.proofs.channel_handler.ChannelHandler.open_channels.Goals as goal

pub places-init : goal.places-init
places-init g c = record {
  within = omega (arith, settled_within c.first_unsettled-place.result c.args.self.now.rows c.first_unsettled-place.ensures, c.count-count.ensures);
  size = sym c.count-count.ensures;
  left = λ r held' p' opens. settled_opens g.S.Association.association c.args.self.now c.args.sctp.now r held' p' c.first_unsettled-place.result c.args.self.now.rows c.first_unsettled-place.ensures opens;
}

pub returns-in-Err : goal.returns-in-Err
returns-in-Err g c =
    opens_stop g.S.Association.association c.args.self.now c.args.sctp.now c.places.place c.places.self c.open_at.new.self c.places.sctp c.open_at.new.sctp c.in-Err.error
    c.places.invariant.left (omega (arith, c.places-test.true, c.places.invariant.size)) c.in-Err.ensures.opened

pub places-preserved : goal.places-preserved
places-preserved g c = record {
  within = omega (arith, c.places-test.true);
  size = c.open_at.ensures.count ∙ c.places.invariant.size;
  left =
      opens_more g.S.Association.association c.args.self.now c.args.sctp.now c.places.place c.places.self c.open_at.new.self c.places.sctp c.open_at.new.sctp
      c.places.invariant.left (omega (arith, c.places-test.true, c.places.invariant.size)) c.in-Ok.ensures.opened c.open_at.ensures.behind;
}
