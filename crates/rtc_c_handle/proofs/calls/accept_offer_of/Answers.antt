use Rattle.std.proofs.Common.{Some, ap, sym, ◌∙◌}
use Rattle.rtc_c_handle.specs.Calls.{IsCalled}
use Rattle.rtc_c_handle.specs.declared.held.Held.{Held}
use Rattle.rtc_c_handle.proofs.calls.accept_offer_of.Goals as goal

pub returns-in-Some : goal.returns-in-Some
returns-in-Some c = IsCalled c.deref_mut.result.now c.accept_offer-returned.new.self (sym c.in-Some.ensures.value ∙ ap (λ (held : Held). Some held) (sym c.deref_mut.ensures.value)) c.of_box.ensures (record { returned = c.accept_offer-returned.result; is_returned = c.of_call.ensures; answers = c.accept_offer-returned.ensures.answers; token = c.accept_offer-returned.ensures.token; connection = c.accept_offer-returned.ensures.connection; wanted = c.accept_offer-returned.ensures.wanted; output = c.accept_offer-returned.ensures.output })
