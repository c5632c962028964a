use Rattle.std.proofs.Common.{Ok, Err, true, refl, sym}
use Rattle.rtc_peer_core.specs.Acceptances.{AcceptsAnswer}
use Rattle.rtc.specs.PlainPeers.{memory_parts}
use Rattle.rtc_c_handle.proofs.Spent.{spent}
use Rattle.rtc_c_handle.proofs.held.Held.finish.Goals as goal

pub returns-in-Ok : goal.returns-in-Ok
returns-in-Ok c = record {
  spends = spent (λ p token returned q. AcceptsAnswer memory_parts p token c.args.answer.0 returned q) c.args.self.now c.give_answer.new.rtc c.take.new.self c.in-Some.token (Ok tt) (Ok true) (sym c.in-Some.ensures.value) c.take.ensures.after c.give_answer.ensures.connection c.in-Ok.ensures.accepts refl;
}

pub returns-in-Err : goal.returns-in-Err
returns-in-Err c = record {
  spends = spent (λ p token returned q. AcceptsAnswer memory_parts p token c.args.answer.0 returned q) c.args.self.now c.give_answer.new.rtc c.take.new.self c.in-Some.token (Err c.in-Err.error) (Err c.in-Err.error) (sym c.in-Some.ensures.value) c.take.ensures.after c.give_answer.ensures.connection c.in-Err.ensures.accepts refl;
}
