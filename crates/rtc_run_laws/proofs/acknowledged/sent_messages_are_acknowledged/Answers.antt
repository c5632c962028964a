use Rattle.rtc_run_laws.proofs.AcknowledgedSides.{run_acknowledged, run_acknowledges, run_all_by_amount, run_amounts, run_amounts_over}
use Rattle.rtc_run_laws.proofs.acknowledged.sent_messages_are_acknowledged.Goals as goal

pub returns-clause-reached : goal.returns-clause-reached
returns-clause-reached g c = λ stun start pair past new go ran at. run_acknowledged g.N.Ids.ids stun start new past pair go ran at

pub returns-clause-delivered : goal.returns-clause-delivered
returns-clause-delivered g c = λ stun start pair past new go ran at. run_amounts g.N.Ids.ids stun start new past pair go ran at

pub returns-clause-delivered_over : goal.returns-clause-delivered_over
returns-clause-delivered_over g c = λ stun start pair past new go ran at. run_amounts_over g.N.Ids.ids stun start new past pair go ran at

pub returns-clause-all_got : goal.returns-clause-all_got
returns-clause-all_got g c = λ stun start pair past new go none ran numbers at.
    run_all_by_amount g.N.Ids.ids stun start new past pair go ran none numbers at

pub returns-clause-ran : goal.returns-clause-ran
returns-clause-ran g c = λ stun start pair steps replies new go run. run_acknowledges g.N.Ids.ids stun start pair steps replies new go run
