use Rattle.std.proofs.Common.{Result, subst, sym}
use Rattle.rtc_c_handle.specs.Calls.{WantsRead}
use Rattle.rtc_c_handle.specs.declared.status.Status.{Status}
use Rattle.rtc_c_handle.specs.declared.wanted_change.WantedChange.{WantedChange}
use Rattle.rtc_c_handle.proofs.wanting.want_read.Goals as goal

pub returns-in-Ok : goal.returns-in-Ok
returns-in-Ok c = subst (λ (read : Result WantedChange Status). WantsRead read c.args.slot.now.handle.value c.want_at.result c.want_at.new.slot.handle.value) (sym c.in-Ok.is) c.want_at.ensures
