use Rattle.std.proofs.Common.{◌++◌, ◌∷◌, [], refl, ap, ◌∙◌}
use Rattle.rtc_assoc_state.specs.Calls.{answered}
use Rattle.rtc_assoc_end.proofs.SaysLemmas.{queues_acknowledgement}
use Rattle.rtc_assoc_end.proofs.association.PlainAssociation.answer.Goals as goal

pub returns-clause-ok : goal.returns-clause-ok
unfolding answered
returns-clause-ok c =
    let packets_is = c.in_ok-push_back.ensures.items ∙ ap (λ b. c.self.inside.packets.items ++ b ∷ []) c.in_ok-packet.ensures.bytes in
    rw (← c.self.view_is)
    (rw packets_is refl, queues_acknowledgement _ _ _ packets_is c.in_ok-packet.ensures.reads refl)
