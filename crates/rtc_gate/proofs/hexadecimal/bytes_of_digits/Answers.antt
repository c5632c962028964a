use Rattle.std.proofs.Common.{arith, ◌<◌, ◌≤◌, ◌+◌, ◌-◌, length}
use Rattle.std.proofs.lemmas.Bool.Decides.{nat_tests}
use Rattle.rtc_gate.proofs.HexLemmas.{pair_read, odd_refused}
use Rattle.rtc_gate.proofs.hexadecimal.bytes_of_digits.Goals as goal

pub returns-then-digits-at-lt2 : goal.returns-then-digits-at-lt2
returns-then-digits-at-lt2 c =
    let below : c.loop-at.at < length c.args.digits.now = grind (arith, nat_tests, c.loop-at-test.true) in
    let short : length c.args.digits.now - c.loop-at.at < 2 = grind (arith, nat_tests, c.if-digits-at-lt2.true) in
    odd_refused c.args.digits.now c.loop-at.bytes.items c.loop-at.at below short c.loop-at.invariant

pub loop-at-preserved : goal.loop-at-preserved
loop-at-preserved c =
    let below : c.loop-at.at < length c.args.digits.now = grind (arith, nat_tests, c.loop-at-test.true) in
    let within : c.loop-at.at + 2 ≤ length c.args.digits.now = grind (arith, nat_tests, c.if-digits-at-lt2.false) in
    pair_read c.args.digits.now c.loop-at.bytes.items c.push.new.self.items c.loop-at.at c.in-Some.byte within c.in-Some.ensures c.in_ok-push.ensures.items c.loop-at.invariant
