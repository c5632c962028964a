use Rattle.std.proofs.Common.{◌∙◌, ap, arith}
use Rattle.rtc_sctp.proofs.IdSteps.{stop_from}
use Rattle.rtc_sctp.proofs.WalkLemmas.{from_all, skips, ends}
use Rattle.rtc_sctp.proofs.walk.visit_all.Goals as goal

pub streams-init : goal.streams-init
streams-init g c = record {
  within = omega arith;
  started = c.requires.started;
  quiet = c.requires.quiet;
  tended = c.requires.tended;
  left = λ met b last tail h.
      from_all g.S.Association.association c.args.now 0 0 c.args.entries.now.items c.args.association.now c.args.resets.now.items met b last tail c.requires.tended.ascend
      (omega arith) h;
}

pub returns-in_default-visit_stream : goal.returns-in_default-visit_stream
returns-in_default-visit_stream g c = record {
  tended = c.visit_stream.ensures.tended;
  visits =
      c.streams.invariant.left _ _ _ _
      (skips g.S.Association.association c.args.now c.streams.from c.in-Some.id 0 c.streams.entries.items c.streams.agenda.streams c.streams.association c.streams.resets.items _ _ _ _
      c.streams.invariant.tended.ascend c.streams.invariant.tended.rest c.streams.invariant.quiet c.in-Some.ensures.behind c.in-Some.ensures.before
      (stop_from g.S.Association.association c.args.now _ c.in-Some.id c.streams.entries.items c.streams.association c.streams.resets.items _ _ _
      c.in_default-visit_stream.not-Nothing c.visit_stream.ensures.steps));
}

pub streams-preserved : goal.streams-preserved
streams-preserved g c =
    let m = g.S.Association.association in
    let steps = c.in-Nothing.ensures.steps in
    record {
      within = omega arith;
      started = ap m.started steps.0 ∙ c.streams.invariant.started;
      quiet = ap m.due steps.0 ∙ c.streams.invariant.quiet;
      tended = c.in-Nothing.ensures.tended;
      left = λ met b last tail h.
          c.streams.invariant.left met b last tail
          (skips m c.args.now c.streams.from c.in-Some.id 0 c.streams.entries.items c.streams.agenda.streams c.streams.association c.streams.resets.items met b last tail
          c.streams.invariant.tended.ascend c.streams.invariant.tended.rest c.streams.invariant.quiet c.in-Some.ensures.behind c.in-Some.ensures.before
          (steps.2 met b last tail h));
    }

pub returns-clause-visits : goal.returns-clause-visits
returns-clause-visits g c =
    c.streams.invariant.left _ _ _ _
    (ends g.S.Association.association c.args.now c.streams.from 0 c.streams.entries.items c.streams.agenda.streams c.streams.association c.streams.resets.items
    c.streams.invariant.tended.ascend c.streams.invariant.tended.rest c.streams.invariant.quiet c.in_default.ensures)
