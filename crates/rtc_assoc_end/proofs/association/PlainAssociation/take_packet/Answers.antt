use Rattle.rtc_assoc_end.proofs.SendsLemmas.{on_ok, sends_greeted, sends_acknowledged, sends_lost}
use Rattle.rtc_assoc_end.proofs.association.PlainAssociation.take_packet.Goals as goal

pub returns-in-Welcome-clause-ok : goal.returns-in-Welcome-clause-ok
returns-in-Welcome-clause-ok c = rw c.in-Welcome.is (on_ok c.hear.result _ _ (sends_greeted c.args.self.now _) c.hear.ensures.ok)

pub returns-in-Acknowledgement-clause-ok : goal.returns-in-Acknowledgement-clause-ok
returns-in-Acknowledgement-clause-ok c = rw c.in-Acknowledgement.is (on_ok c.acknowledge.result _ _ (sends_acknowledged c.in-Acknowledgement.number c.args.self.now _) c.acknowledge.ensures.ok)

pub returns-in-Shutdown-clause-ok : goal.returns-in-Shutdown-clause-ok
returns-in-Shutdown-clause-ok c = rw c.in-Shutdown.is (on_ok c.lose.result _ _ (sends_lost c.args.self.now _) c.lose.ensures.ok)
