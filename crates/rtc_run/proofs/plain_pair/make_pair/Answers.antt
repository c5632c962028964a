use Rattle.std.proofs.Common.{refl}
use Rattle.rtc_run.proofs.PlainPeers.{pair_fresh, pair_formed, left_host, right_host}
use Rattle.rtc_run.proofs.plain_pair.make_pair.Goals as goal

pub returns-clause-fresh : goal.returns-clause-fresh
returns-clause-fresh c = rw c.new.ensures (pair_fresh _ c.in_ok-left.ensures.fresh c.in_ok-right.ensures.fresh c.in_ok-left.ensures.unused c.in_ok-right.ensures.unused refl refl refl)

pub returns-clause-formed : goal.returns-clause-formed
returns-clause-formed c = rw c.new.ensures (pair_formed _ (c.in_ok-left.ensures.formed left_host) (c.in_ok-right.ensures.formed right_host))

pub returns-clause-state : goal.returns-clause-state
returns-clause-state c =
    rw c.new.ensures (record {
      left = c.in_ok-left.ensures.peer;
      right = c.in_ok-right.ensures.peer;
      left_transport = c.in_ok-left.ensures.unconnected;
      right_transport = c.in_ok-right.ensures.unconnected;
      left_addr = refl;
      right_addr = refl;
      sdps = refl;
      packets = refl;
      size = refl;
    })
