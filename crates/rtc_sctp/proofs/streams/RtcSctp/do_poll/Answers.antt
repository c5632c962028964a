use Rattle.std.proofs.Common.{suc, arith}
use Rattle.rtc_sctp.proofs.PassLemmas.{passes_gain}
use Rattle.rtc_sctp.proofs.streams.RtcSctp.do_poll.Goals as goal

pub passes-preserved : goal.passes-preserved
passes-preserved g c = (suc c.passes.invariant.0, (c.passes.self, c.passes.invariant.1, c.in-Again.ensures))

pub passes-smaller : goal.passes-smaller
passes-smaller g c = omega (arith, passes_gain _ g.met.S.Association.laws _ _ _ c.in-Again.ensures)

pub returns-in-Nothing : goal.returns-in-Nothing
returns-in-Nothing g c =
    record { passes = c.passes.invariant.0; between = c.passes.self; met = c.pass.result; over = c.passes.invariant.1; last = c.pass.ensures; answers = c.in-Nothing.is }

pub returns-in-Output : goal.returns-in-Output
returns-in-Output g c =
    record { passes = c.passes.invariant.0; between = c.passes.self; met = c.pass.result; over = c.passes.invariant.1; last = c.pass.ensures; answers = c.in-Output.is }

pub returns-in-OutOfMemory : goal.returns-in-OutOfMemory
returns-in-OutOfMemory g c =
    record { passes = c.passes.invariant.0; between = c.passes.self; met = c.pass.result; over = c.passes.invariant.1; last = c.pass.ensures; answers = c.in-OutOfMemory.is }
