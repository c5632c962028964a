use Rattle.std.proofs.Common.{rules, sym, subst}
use Rattle.std.specs.Prelude.{List}
use Rattle.rtc_run_history.specs.declared.step.Step.{Step}
use Rattle.rtc_run_laws.specs.Drains.{HaveMoments}
use Rattle.rtc_run_laws.proofs.UndrivenRuns.{went_within}
use Rattle.rtc_run_laws.proofs.CrossingRuns.{crossed_meet}
use Rattle.rtc_run_laws.proofs.FormedSteps.{runs_read_back}
use Rattle.rtc_run_laws.proofs.PlainRuns.{runs_plain}
use Rattle.rtc_run.proofs.ReadMoments.{moments_all, moments_more}
use Rattle.rtc_run.proofs.Sized.{run_begins, run_has_room, run_goes_on}
use Rattle.rtc_peer_core.specs.Meanings.{meanings}
use Rattle.rtc_run.proofs.running.run_pair.Goals as goal

pub perform-reply-requires : goal.perform-reply-requires
perform-reply-requires g c = (run_has_room (meanings g.I.IceAgent.ice g.D.DtlsInstance.dtls g.S.Association.association g.M.MediaSession.media g.N.Ids.ids) g.I.StunReader.stun (record { ice = g.met.I.IceAgent.laws; dtls = g.met.D.DtlsInstance.laws; association = g.met.S.Association.laws; media = g.met.M.MediaSession.laws }) c.args.pair.now c.loop-step.pair c.args.steps.now c.loop-step.step-index c.step-item.result c.loop-step.replies.items c.requires.fresh c.loop-step-test.true c.step-item.is c.requires.sizes c.loop-step.invariant.runs).1

pub loop-step-init : goal.loop-step-init
loop-step-init g c =
    record {
      runs = run_begins (meanings g.I.IceAgent.ice g.D.DtlsInstance.dtls g.S.Association.association g.M.MediaSession.media g.N.Ids.ids) g.I.StunReader.stun (record { ice = g.met.I.IceAgent.laws; dtls = g.met.D.DtlsInstance.laws; association = g.met.S.Association.laws; media = g.met.M.MediaSession.laws }) _ _ _ c.requires.fresh (search rules) (search rules);
      count = search rules;
      room = search rules;
      moments = λ more. more;
    }

pub loop-step-preserved : goal.loop-step-preserved
loop-step-preserved g c =
    record {
      runs = run_goes_on (meanings g.I.IceAgent.ice g.D.DtlsInstance.dtls g.S.Association.association g.M.MediaSession.media g.N.Ids.ids) g.I.StunReader.stun (record { ice = g.met.I.IceAgent.laws; dtls = g.met.D.DtlsInstance.laws; association = g.met.S.Association.laws; media = g.met.M.MediaSession.laws }) c.args.pair.now c.loop-step.pair c.perform-reply.new.self c.args.steps.now c.loop-step.step-index c.step-item.result c.loop-step.replies.items c.push_reserved.new.self.items c.perform-reply.result c.requires.fresh c.loop-step-test.true c.step-item.is c.requires.sizes c.loop-step.invariant.runs c.perform-reply.ensures.performs c.push_reserved.ensures.items;
      count = search rules;
      room = search rules;
      moments = moments_more c.args.steps.now c.loop-step.step-index c.step-item.result c.loop-step-test.true c.step-item.is c.read_moment.ensures c.loop-step.invariant.moments;
    }

pub returns-clause-read_back : goal.returns-clause-read_back
returns-clause-read_back g c = λ formed. runs_read_back (meanings g.I.IceAgent.ice g.D.DtlsInstance.dtls g.S.Association.association g.M.MediaSession.media g.N.Ids.ids) g.I.StunReader.stun (record { ice = g.met.I.IceAgent.laws; dtls = g.met.D.DtlsInstance.laws; association = g.met.S.Association.laws; media = g.met.M.MediaSession.laws }) _ _ _ _ c.requires.fresh formed c.loop-step.invariant.runs

pub returns-clause-plain : goal.returns-clause-plain
returns-clause-plain g c = λ formed none run drew. runs_plain (meanings g.I.IceAgent.ice g.D.DtlsInstance.dtls g.S.Association.association g.M.MediaSession.media g.N.Ids.ids) g.I.StunReader.stun (record { ice = g.met.I.IceAgent.laws; dtls = g.met.D.DtlsInstance.laws; association = g.met.S.Association.laws; media = g.met.M.MediaSession.laws }) _ _ _ _ c.requires.fresh formed none run drew

pub returns-clause-crossed : goal.returns-clause-crossed
returns-clause-crossed g c = λ formed. crossed_meet (meanings g.I.IceAgent.ice g.D.DtlsInstance.dtls g.S.Association.association g.M.MediaSession.media g.N.Ids.ids) g.I.StunReader.stun (record { ice = g.met.I.IceAgent.laws; dtls = g.met.D.DtlsInstance.laws; association = g.met.S.Association.laws; media = g.met.M.MediaSession.laws }) _ c.requires.fresh formed

pub returns-in_err-replies-clause-crossed : goal.returns-in_err-replies-clause-crossed
returns-in_err-replies-clause-crossed g c = λ formed. crossed_meet (meanings g.I.IceAgent.ice g.D.DtlsInstance.dtls g.S.Association.association g.M.MediaSession.media g.N.Ids.ids) g.I.StunReader.stun (record { ice = g.met.I.IceAgent.laws; dtls = g.met.D.DtlsInstance.laws; association = g.met.S.Association.laws; media = g.met.M.MediaSession.laws }) _ c.requires.fresh formed

pub returns-clause-drains : goal.returns-clause-drains
returns-clause-drains g c = λ undriven run. went_within (meanings g.I.IceAgent.ice g.D.DtlsInstance.dtls g.S.Association.association g.M.MediaSession.media g.N.Ids.ids) (record { ice = g.met.I.IceAgent.laws; dtls = g.met.D.DtlsInstance.laws; association = g.met.S.Association.laws; media = g.met.M.MediaSession.laws }) g.I.StunReader.stun _ _ run.past undriven (subst (λ (l : List Step). HaveMoments l) (sym run.steps_are) (moments_all c.args.steps.now c.loop-step.step-index c.loop-step-test.false c.loop-step.invariant.moments)) run.went
