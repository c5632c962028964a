use Rattle.std.proofs.Common.{◌≤◌, arith}
use Rattle.rtc_demo.proofs.OrderlyDemos.{demo_orderly, demo_size}
use Rattle.rtc_demo.proofs.rounds.demo_steps.Goals as goal

pub returns-clause-orderly : goal.returns-clause-orderly
returns-clause-orderly c =
    let few : c.loop-round.round ≤ 100 = omega (arith, c.requires, c.loop-round.auto.round-end) in
    rw c.loop-round.invariant (demo_orderly c.loop-round.round c.args.seed few)

pub returns-clause-sizes : goal.returns-clause-sizes
returns-clause-sizes c =
    let few : c.loop-round.round ≤ 100 = omega (arith, c.requires, c.loop-round.auto.round-end) in
    rw c.loop-round.invariant (omega (arith, few, demo_size c.loop-round.round c.args.seed few))
