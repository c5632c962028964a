use Rattle.std.proofs.Common.{refl}
use Rattle.rtc_c_handle.specs.WantedReads.{StopsOne}
use Rattle.rtc_c_handle.proofs.wanting.read_stop.Goals as goal

pub returns : goal.returns
returns c = StopsOne c.in-Some.mid c.in-Some.ensures refl
