use Rattle.std.proofs.Common.{◌∙◌, ap}
use Rattle.rtc_run_history.specs.Native.{are_native}
use Rattle.rtc_run_laws.proofs.ConnectedRuns.{connected_sends}
use Rattle.rtc_run_laws.proofs.NewPeers.{new_exchanged}
use Rattle.rtc_run_laws.proofs.RunsExchange.{reached_exchanged, side_all, side_reads, went_reached}
use Rattle.rtc_run_laws.proofs.exchanged.runs_keep_peers_joined.Goals as goal

pub returns-clause-reached : goal.returns-clause-reached
returns-clause-reached g c = λ stun start pair past new native ran.
    reached_exchanged g.N.Ids.ids stun start past pair native ran (new_exchanged g.N.Ids.ids start new)

pub returns-clause-ran : goal.returns-clause-ran
returns-clause-ran g c = λ stun start pair steps replies new native run.
    reached_exchanged g.N.Ids.ids stun start run.past pair (ap are_native run.steps_are ∙ native) (went_reached g.N.Ids.ids stun start run.past pair run.went)
    (new_exchanged g.N.Ids.ids start new)

pub returns-clause-sends : goal.returns-clause-sends
returns-clause-sends g c = λ stun start pair past new native ran. connected_sends g.N.Ids.ids stun start past pair new native ran

pub returns-clause-reads : goal.returns-clause-reads
returns-clause-reads g c = λ acts pair at s n x. side_reads acts pair at s n x

pub returns-clause-all : goal.returns-clause-all
returns-clause-all g c = λ acts pair at s n x here there none. side_all acts pair at s n x here there none
