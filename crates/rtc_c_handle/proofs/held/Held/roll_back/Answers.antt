use Rattle.std.proofs.Common.{Ok, Err, true, refl, sym}
use Rattle.rtc_peer_core.specs.RollingBack.{RollsBack}
use Rattle.rtc_c_handle.proofs.Spent.{spent}
use Rattle.rtc_c_handle.proofs.held.Held.roll_back.Goals as goal

pub returns-in-Ok : goal.returns-in-Ok
returns-in-Ok c = record {
  takes_back = spent (λ p token returned q. RollsBack p token returned q) c.args.self.now c.take_back.new.rtc c.take.new.self c.in-Some.token (Ok tt) (Ok true) (sym c.in-Some.ensures.value) c.take.ensures.after c.take_back.ensures.connection c.in-Ok.ensures.rolls_back refl;
}

pub returns-in-Err : goal.returns-in-Err
returns-in-Err c = record {
  takes_back = spent (λ p token returned q. RollsBack p token returned q) c.args.self.now c.take_back.new.rtc c.take.new.self c.in-Some.token (Err c.in-Err.error) (Err c.in-Err.error) (sym c.in-Some.ensures.value) c.take.ensures.after c.take_back.ensures.connection c.in-Err.ensures.rolls_back refl;
}
