use Rattle.std.proofs.Common.{Some, ap, sym, ◌∙◌}
use Rattle.rtc_c_handle.specs.Calls.{IsCalled}
use Rattle.rtc_c_handle.specs.declared.held.Held.{Held}
use Rattle.rtc_c_handle.proofs.calls.roll_back.Goals as goal

pub returns-in-Some : goal.returns-in-Some
returns-in-Some c = IsCalled c.deref_mut.result.now c.roll_back-returned.new.self (sym c.in-Some.ensures.value ∙ ap (λ (held : Held). Some held) (sym c.deref_mut.ensures.value)) c.of_box.ensures (record { returned = c.roll_back-returned.result; is_returned = c.of_token.ensures; takes_back = c.roll_back-returned.ensures.takes_back })
