use Rattle.rtc_run_laws.proofs.SilentRuns.{run_got, run_got_sent, run_sent, run_told, run_told_sent}
use Rattle.rtc_run_laws.proofs.unannounced.unannounced_channels_are_silent.Goals as goal

pub returns-clause-unsent : goal.returns-clause-unsent
returns-clause-unsent g c = λ stun start pair past new go ran at. run_told_sent g.N.Ids.ids stun start new past pair go ran at

pub returns-clause-got_unsent : goal.returns-clause-got_unsent
returns-clause-got_unsent g c = λ stun start pair past new go ran at. run_got_sent g.N.Ids.ids stun start new past pair go ran at

pub returns-clause-sent : goal.returns-clause-sent
returns-clause-sent g c = λ stun start pair past new none go steps ran numbers at. run_sent g.N.Ids.ids stun start new none past pair go steps ran numbers at

pub returns-clause-told : goal.returns-clause-told
returns-clause-told g c = λ stun start pair past new none go steps ran numbers at.
    run_told g.N.Ids.ids stun start new past pair go ran none steps numbers at

pub returns-clause-got : goal.returns-clause-got
returns-clause-got g c = λ stun start pair past new go ran numbers at. run_got g.N.Ids.ids stun start new past pair go ran numbers at
