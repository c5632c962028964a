use Rattle.std.proofs.Common.{◌≡◌, ◌∷◌, ◌++◌, [], length, refl, rules}
use Rattle.rtc_run_history.specs.Performs.{kept_answer}
use Rattle.rtc_run_history.specs.Signalled.{Readable}
use Rattle.rtc_peer_core.specs.Meanings.{meanings}
use Rattle.rtc_run_steps.proofs.AnsweredOffers.{answered_offer}
use Rattle.rtc_run_steps.proofs.accepting.accept_delivered_offer.Goals as goal

pub returns-in-Ok-accept_offer-clause-accepts : goal.returns-in-Ok-accept_offer-clause-accepts
returns-in-Ok-accept_offer-clause-accepts g c =
    let sdps : c.push_reserved.new.self.items ≡ c.args.sdps.now.items ++ kept_answer c.args.at c.in-Ok-accept_offer.answer.0 ∷ [] = search rules in
    answered_offer (meanings g.I.IceAgent.ice g.D.DtlsInstance.dtls g.S.Association.association g.M.MediaSession.media g.N.Ids.ids) c.args.at (Readable c.args.delivered) c.args.delivered c.in-Ok-accept_offer.answer.0 c.args.rtc.now.core c.accept_offer.new.rtc.core c.args.sdps.now.items c.push_reserved.new.self.items (length c.args.sdps.now.items) c.reply_with.result.outcome c.reply_with.result.table refl c.in-Ok-accept_offer.ensures.accepts sdps refl (search rules) c.reply_with.ensures.table
