use Rattle.std.proofs.Common.{◌∙◌, sym, arith, rules}
use Rattle.rtc_room_hub.proofs.Addressed.{found_here, found_none, found_on}
use Rattle.rtc_room_hub.proofs.accepting.first_accepting.Goals as goal

pub returns-then-accepts : goal.returns-then-accepts
returns-then-accepts c =
    sym (found_here c.args.input.now c.args.members.now c.args.pairs.now c.loop-k.k c.index-members-k.result c.index-pairs-k.result c.accepts.result c.loop-k-test.true
    (omega (arith, c.loop-k-test.true, c.requires)) c.index-members-k.is c.index-pairs-k.is c.accepts.ensures (search rules))
    ∙ c.loop-k.invariant

pub loop-k-preserved : goal.loop-k-preserved
loop-k-preserved c =
    sym (found_on c.args.input.now c.args.members.now c.args.pairs.now c.loop-k.k c.index-members-k.result c.index-pairs-k.result c.accepts.result c.loop-k-test.true
    (omega (arith, c.loop-k-test.true, c.requires)) c.index-members-k.is c.index-pairs-k.is c.accepts.ensures (search rules))
    ∙ c.loop-k.invariant

pub returns : goal.returns
returns c = sym (found_none c.args.input.now c.args.members.now c.args.pairs.now c.loop-k.k (omega (arith, c.loop-k-test.false))) ∙ c.loop-k.invariant
