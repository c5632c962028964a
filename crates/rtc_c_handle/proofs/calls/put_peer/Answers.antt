use Rattle.std.proofs.Common.{Some, ap, refl, ◌∙◌}
use Rattle.rtc_c_handle.specs.Calls.{IsPut}
use Rattle.rtc_c_handle.specs.declared.held.Held.{Held}
use Rattle.rtc_c_handle.proofs.calls.put_peer.Goals as goal

pub returns : goal.returns
returns c = IsPut c.in-Ok.held refl (c.of_box.ensures ∙ ap (λ (held : Held). Some held) c.in-Ok-new.ensures.ok) c.in-Ok.ensures.peer c.in-Ok.ensures.unconnected c.in-Ok.ensures.token c.in-Ok.ensures.text c.in-Ok.ensures.wanted c.in-Ok.ensures.output
