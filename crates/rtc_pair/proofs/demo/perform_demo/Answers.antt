use Rattle.rtc_pair.proofs.Demos.{performs_demo, demo_off}
use Rattle.rtc_pair.proofs.demo.perform_demo.Goals as goal

pub returns-clause-done : goal.returns-clause-done
returns-clause-done g c =
    λ ended. performs_demo _ _ _ _ _ _ _ _ _ c.requires c.in-Ok.ensures.script c.in-Ok-run_script.ensures (rw (c.as_slice-steps.ensures, c.as_slice.ensures.value) at (c.tell_counts.ensures.done ended))

pub returns-clause-write : goal.returns-clause-write
returns-clause-write g c =
    λ ended. demo_off _ _ _ _ _ _ _ _ _ _ c.requires c.in-Ok.ensures.script c.in-Ok-run_script.ensures (rw (c.as_slice-steps.ensures, c.as_slice.ensures.value) at (c.tell_counts.ensures.write ended))
