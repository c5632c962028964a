use Rattle.std.proofs.Common.{refl}
use Rattle.rtc_run.proofs.PlainPeers.{left_host, right_host}
use Rattle.rtc_run_faulty.proofs.FaultyDrains.{faulty_undriven, peer_undriven}
use Rattle.rtc_run_faulty.proofs.FaultyPeers.{faulty_pair_fresh, faulty_pair_formed, faulty_role}
use Rattle.rtc_run_faulty.proofs.faulty_pair.make_faulty_pair.Goals as goal

pub returns-clause-fresh : goal.returns-clause-fresh
returns-clause-fresh c =
    rw c.new.ensures (faulty_pair_fresh _ c.in_ok-left.ensures.fresh c.in_ok-right.ensures.fresh c.in_ok-left.ensures.unused c.in_ok-right.ensures.unused refl refl refl)

pub returns-clause-formed : goal.returns-clause-formed
returns-clause-formed c =
    rw c.new.ensures (faulty_pair_formed _ (c.in_ok-left.ensures.formed left_host) (c.in_ok-right.ensures.formed right_host))

pub returns-clause-state : goal.returns-clause-state
returns-clause-state c =
    rw c.new.ensures (record {
      left = c.in_ok-left.ensures.peer;
      right = c.in_ok-right.ensures.peer;
      left_transport = c.in_ok-left.ensures.unconnected;
      right_transport = c.in_ok-right.ensures.unconnected;
      left_addr = refl;
      right_addr = refl;
      sdps = refl;
      packets = refl;
      size = refl;
    })

pub returns-clause-roles : goal.returns-clause-roles
returns-clause-roles c =
    rw c.new.ensures (
      faulty_role _ _ _ _ _ _ _ c.in_ok-left.ensures.peer,
      faulty_role _ _ _ _ _ _ _ c.in_ok-right.ensures.peer,
    )

pub returns-clause-undriven : goal.returns-clause-undriven
returns-clause-undriven c =
    rw c.new.ensures (faulty_undriven _
    (peer_undriven _ _ _ _ _ _ _ _ c.in_ok-left.ensures.peer c.in_ok-left.ensures.unconnected)
    (peer_undriven _ _ _ _ _ _ _ _ c.in_ok-right.ensures.peer c.in_ok-right.ensures.unconnected))
