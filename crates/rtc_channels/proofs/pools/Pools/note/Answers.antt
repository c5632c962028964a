use Rattle.std.proofs.Common.{◌≡◌, ◌∙◌, sym, true, false}
use Rattle.rtc_channels.specs.Granted.{is_granted}
use Rattle.rtc_channels.proofs.pools.Pools.note.Goals as goal

pub returns-then-is_granted-clause-client : goal.returns-then-is_granted-clause-client
returns-then-is_granted-clause-client c =
    let granted : is_granted c.args.grants.now c.args.stream ≡ true = sym c.is_granted.ensures ∙ c.if-is_granted.true in
    rw granted c.take.ensures.taken

pub returns-then-is_granted-clause-server : goal.returns-then-is_granted-clause-server
returns-then-is_granted-clause-server c =
    let granted : is_granted c.args.grants.now c.args.stream ≡ true = sym c.is_granted.ensures ∙ c.if-is_granted.true in
    rw granted c.take-then-is_granted.ensures.taken

pub returns-clause-client : goal.returns-clause-client
returns-clause-client c =
    let free : is_granted c.args.grants.now c.args.stream ≡ false = sym c.is_granted.ensures ∙ c.if-is_granted.false in
    rw free c.put.ensures.returned

pub returns-clause-server : goal.returns-clause-server
returns-clause-server c =
    let free : is_granted c.args.grants.now c.args.stream ≡ false = sym c.is_granted.ensures ∙ c.if-is_granted.false in
    rw free c.put-2.ensures.returned
