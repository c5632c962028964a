use Rattle.std.proofs.Common.{◌≡◌, ◌++◌, ◌∷◌, [], refl, ap, ◌∙◌}
use Rattle.rtc_assoc_state.specs.declared.role.Role.TheVariants.{Server}
use Rattle.rtc_assoc_state.specs.Calls.{welcomed}
use Rattle.rtc_assoc_end.proofs.SaysLemmas.{queues_welcome}
use Rattle.rtc_assoc_end.proofs.association.PlainAssociation.welcome_client.Goals as goal

pub returns-clause-ok : goal.returns-clause-ok
unfolding welcomed
returns-clause-ok c =
    let role_is : c.self.inside.standing.role ≡ Server = rw (← c.self.view_is) at c.requires in
    let packets_is = c.in_ok-push_back.ensures.items ∙ ap (λ b. c.self.inside.packets.items ++ b ∷ []) c.in_ok-packet.ensures in
    let events_is = rw c.in_ok-reserve.ensures.items at c.link.ensures.events in
    rw (← c.self.view_is)
    (rw (packets_is, events_is, c.link.ensures.standing, role_is) refl, queues_welcome _ _ packets_is)
