use Rattle.rtc_peer_negotiation.proofs.accepting.accept_answer.Goals as goal

pub returns-in-Ok : goal.returns-in-Ok
returns-in-Ok g c = rw (c.confirm_channels.ensures, c.into_changes.ensures) c.in-Ok.ensures
