use Rattle.std.proofs.Common.{refl, rules}
use Rattle.rtc_run.proofs.PlainPeers.{pair_fresh, pair_formed, left_host, numbered_host, numbered_state}
use Rattle.rtc_run.proofs.numbered_pair.make_numbered_pair.Goals as goal

pub returns-clause-fresh : goal.returns-clause-fresh
returns-clause-fresh c = rw c.new.ensures (pair_fresh _ c.in_ok-left.ensures.fresh c.in_ok-right.ensures.fresh c.in_ok-left.ensures.unused c.in_ok-right.ensures.unused refl refl refl)

pub returns-clause-formed : goal.returns-clause-formed
returns-clause-formed c = rw c.new.ensures (pair_formed _ (c.in_ok-left.ensures.formed left_host) (c.in_ok-right.ensures.formed (numbered_host c.args.number (search rules))))

pub returns-clause-state : goal.returns-clause-state
returns-clause-state c =
    rw c.new.ensures
    (numbered_state c.args.alloc c.args.number _ _ _ c.default_settings.ensures c.default_settings-2.ensures c.in_ok-left.ensures.peer c.in_ok-right.ensures.peer
    c.in_ok-left.ensures.unconnected c.in_ok-right.ensures.unconnected refl refl refl refl refl)
