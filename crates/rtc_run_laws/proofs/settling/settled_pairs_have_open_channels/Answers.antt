use Rattle.rtc_run_laws.proofs.OwnSides.{settled_own, settled_parted, settled_waits_none}
use Rattle.rtc_run_laws.proofs.RoleSides.{settled_sides}
use Rattle.rtc_run_laws.proofs.SettlesRuns.{run_settles_open}
use Rattle.rtc_run_laws.proofs.ConfirmedPairs.{settled_due_none, settled_wants_none}
use Rattle.rtc_run_laws.proofs.BandedRuns.{settled_in_band}
use Rattle.rtc_run_laws.proofs.SettledInBand.{settled_all, settled_all_open}
use Rattle.rtc_run_laws.proofs.SettledRuns.{settled_answered, settled_confirmed, settled_idle, settled_later, settled_level, settled_open, settled_refused}
use Rattle.rtc_run_laws.proofs.settling.settled_pairs_have_open_channels.Goals as goal

pub returns-clause-level : goal.returns-clause-level
returns-clause-level g c = λ stun start pair past new go ran settled at s.
    settled_level g.N.Ids.ids stun start past pair go ran new settled at s

pub returns-clause-reached : goal.returns-clause-reached
returns-clause-reached g c = λ stun start pair past new go ran settled at.
    settled_open g.N.Ids.ids stun start past pair go ran new settled at

pub returns-clause-answered : goal.returns-clause-answered
returns-clause-answered g c = λ stun start pair past new go ran settled at.
    settled_answered g.N.Ids.ids stun start past pair go ran new settled at

pub returns-clause-idle : goal.returns-clause-idle
returns-clause-idle g c = λ stun start pair past new go ran settled at later.
    settled_idle g.N.Ids.ids stun start past pair go ran new settled at later

pub returns-clause-refused : goal.returns-clause-refused
returns-clause-refused g c = λ stun start pair past new go ran settled at idle.
    settled_refused g.N.Ids.ids stun start past pair go ran new settled at idle

pub returns-clause-confirmed : goal.returns-clause-confirmed
returns-clause-confirmed g c = λ stun start pair past new go ran settled still at.
    settled_confirmed g.N.Ids.ids stun start past pair go ran new settled still at

pub returns-clause-later : goal.returns-clause-later
returns-clause-later g c = λ stun start pair past new go ran settled soon at.
    settled_later g.N.Ids.ids stun start past pair go ran new settled soon at

pub returns-clause-own : goal.returns-clause-own
returns-clause-own g c = λ stun start pair past new go ran settled at. settled_own g.N.Ids.ids stun start past pair go ran new settled at

pub returns-clause-sides : goal.returns-clause-sides
returns-clause-sides g c = λ stun start pair past new go ran settled at. settled_sides g.N.Ids.ids stun start past pair go ran new settled at

pub returns-clause-parted : goal.returns-clause-parted
returns-clause-parted g c = λ stun start pair past new go ran settled at. settled_parted g.N.Ids.ids stun start past pair go ran new settled at

pub returns-clause-waits_none : goal.returns-clause-waits_none
returns-clause-waits_none g c = λ stun start pair past new go ran settled at.
    settled_waits_none g.N.Ids.ids stun start past pair go ran new settled at

pub returns-clause-wants_none : goal.returns-clause-wants_none
returns-clause-wants_none g c = λ stun start pair past new go ran settled at idle.
    settled_wants_none g.N.Ids.ids stun start past pair go ran new settled at idle

pub returns-clause-due_none : goal.returns-clause-due_none
returns-clause-due_none g c = λ stun start pair past new go ran settled at later.
    settled_due_none g.N.Ids.ids stun start past pair go ran new settled at
    later

pub returns-clause-in_band : goal.returns-clause-in_band
returns-clause-in_band g c = λ stun start pair past new go none ran steps settled at s.
    settled_in_band g.N.Ids.ids stun start past pair go ran new none steps settled at s

pub returns-clause-open_in_band : goal.returns-clause-open_in_band
returns-clause-open_in_band g c = λ stun start pair past new go none ran steps settled at.
    settled_all_open g.N.Ids.ids stun start past pair go ran new none steps settled at

pub returns-clause-all_in_band : goal.returns-clause-all_in_band
returns-clause-all_in_band g c = λ stun start pair past new go none ran steps settled at later.
    settled_all g.N.Ids.ids stun start past pair go ran new none steps settled at later

pub returns-clause-ran : goal.returns-clause-ran
returns-clause-ran g c = λ stun start pair steps replies new go run. run_settles_open g.N.Ids.ids stun start pair steps replies new go run
