use Rattle.rtc_channels.specs.Openings.{is_progress_due}
use Rattle.rtc_channels.proofs.NarrowedMoments.{narrowed_events, narrowed_timeout}
use Rattle.rtc_channels.proofs.narrowing.narrowed_moments_leave.Goals as goal

pub returns-clause-events : goal.returns-clause-events
returns-clause-events g c = λ held held' p p' wake wake' r h set cleared.
    narrowed_events g.S.Association.association (is_progress_due g.S.Association.association held p) held p wake r held' p' wake' h set cleared

pub returns-clause-timeout : goal.returns-clause-timeout
returns-clause-timeout g c = λ held held' p p' wake wake' r h set cleared.
    narrowed_timeout g.S.Association.association (is_progress_due g.S.Association.association held p) held p wake r held' p' wake' h set cleared
