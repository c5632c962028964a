use Rattle.std.proofs.Common.{Some, ap, sym, ◌∙◌}
use Rattle.rtc_c_handle.specs.Calls.{IsCalled}
use Rattle.rtc_c_handle.specs.declared.held.Held.{Held}
use Rattle.rtc_c_handle.proofs.wanting.discard_changes.Goals as goal

pub returns-in-Some : goal.returns-in-Some
returns-in-Some c = IsCalled c.deref_mut.result.now c.discard-status.new.self (sym c.in-Some.ensures.value ∙ ap (λ (held : Held). Some held) (sym c.deref_mut.ensures.value)) c.of_box.ensures c.discard-status.ensures
