use Rattle.rtc_pair.proofs.Performances.{performs, performs_or, report_off}
use Rattle.rtc_pair.proofs.performing.perform_script.Goals as goal

pub returns-clause-done : goal.returns-clause-done
returns-clause-done g c =
    λ ended. performs _ _ _ _ _ _ _ _ c.in-Ok.ensures (rw (c.as_slice-steps.ensures, c.as_slice.ensures.value) at (c.report_steps.ensures.done ended))

pub returns-clause-write : goal.returns-clause-write
returns-clause-write g c =
    λ ended. report_off _ _ _ _ _ _ _ _ c.in-Ok.ensures (rw (c.as_slice-steps.ensures, c.as_slice.ensures.value) at (c.report_steps.ensures.write ended))

pub returns-clause-memory : goal.returns-clause-memory
returns-clause-memory g c =
    λ ended. performs_or _ _ _ _ _ _ _ _ _ c.in-Ok.ensures (rw (c.as_slice-steps.ensures, c.as_slice.ensures.value) at (c.report_steps.ensures.memory ended))
