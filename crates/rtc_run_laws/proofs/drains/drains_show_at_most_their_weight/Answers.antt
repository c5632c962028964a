use Rattle.std.proofs.Common.{sym, subst}
use Rattle.std.specs.Prelude.{List}
use Rattle.rtc_peer_core.specs.Meanings.{meanings}
use Rattle.rtc_run_history.specs.declared.step.Step.{Step}
use Rattle.rtc_run_laws.specs.Drains.{HaveMoments}
use Rattle.rtc_run_laws.proofs.UndrivenRuns.{entry_within, reached_keep, went_within}
use Rattle.rtc_run_laws.proofs.drains.drains_show_at_most_their_weight.Goals as goal

pub returns-clause-reached : goal.returns-clause-reached
returns-clause-reached g c = λ stun start pair past k are h. reached_keep (meanings g.I.IceAgent.ice g.D.DtlsInstance.dtls g.S.Association.association g.M.MediaSession.media g.N.Ids.ids) (record { ice = g.met.I.IceAgent.laws; dtls = g.met.D.DtlsInstance.laws; association = g.met.S.Association.laws; media = g.met.M.MediaSession.laws }) stun start pair past k are h

pub returns-clause-drains : goal.returns-clause-drains
returns-clause-drains g c = λ stun between after entry k h. entry_within (meanings g.I.IceAgent.ice g.D.DtlsInstance.dtls g.S.Association.association g.M.MediaSession.media g.N.Ids.ids) (record { ice = g.met.I.IceAgent.laws; dtls = g.met.D.DtlsInstance.laws; association = g.met.S.Association.laws; media = g.met.M.MediaSession.laws }) stun between after entry k h

pub returns-clause-ran : goal.returns-clause-ran
returns-clause-ran g c = λ stun start pair steps replies k are run. went_within (meanings g.I.IceAgent.ice g.D.DtlsInstance.dtls g.S.Association.association g.M.MediaSession.media g.N.Ids.ids) (record { ice = g.met.I.IceAgent.laws; dtls = g.met.D.DtlsInstance.laws; association = g.met.S.Association.laws; media = g.met.M.MediaSession.laws }) stun start pair run.past k (subst (λ (l : List Step). HaveMoments l) (sym run.steps_are) are) run.went
