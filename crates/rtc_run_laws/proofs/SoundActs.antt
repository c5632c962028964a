-- An act that comes in time leaves an end that took no stray where it took none.
use Rattle.std.proofs.Common.{◌∙◌}
use Rattle.rtc_parts.specs.AssociationActs.{Acted, AssociationAct}
use Rattle.rtc_assoc_state.specs.Contents.{Contents}
use Rattle.rtc_assoc_state.specs.PlainMeaning.{plain_meaning}
use Rattle.rtc_sctp_laws.proofs.BackedRows.{plain_sound}
use Rattle.rtc_run_laws.proofs.ClosingEnds.{InTime, act_frame, act_go}

pub act_sound : (p q : Contents) (act : AssociationAct) → Acted plain_meaning p act q → InTime p (act_frame act) → plain_sound p → plain_sound q
act_sound p q act h timely ok = (act_go p q act h timely).strayed ∙ ok
