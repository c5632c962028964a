use Rattle.std.proofs.Common.{arith}
use Rattle.rtc_sctp.proofs.SumLemmas.{sum_begins, all_counted, sum_goes, sum_ends}
use Rattle.rtc_sctp.proofs.buffered.left_of.Goals as goal

pub streams-init : goal.streams-init
streams-init g c = record { within = omega arith; left = omega (arith, sum_begins g.S.Association.association c.args.association.now c.args.entries.now) }

pub streams-preserved : goal.streams-preserved
streams-preserved g c =
    let m = g.S.Association.association in
    let all = all_counted m g.met.S.Association.laws c.args.association.now c.args.buffered.now c.args.entries.now c.requires.counted in
    record {
      within = omega arith;
      left =
          omega (
            arith,
            c.streams.invariant.left,
            c.entry_amount.ensures,
            sum_goes m g.met.S.Association.laws c.args.association.now c.args.buffered.now c.streams.from c.in-Some.id c.args.entries.now c.in-Some.ensures.behind c.in-Some.ensures.before all,
          );
    }

pub returns : goal.returns
returns g c =
    let m = g.S.Association.association in
    let all = all_counted m g.met.S.Association.laws c.args.association.now c.args.buffered.now c.args.entries.now c.requires.counted in
    omega (arith, c.streams.invariant.left, sum_ends m g.met.S.Association.laws c.args.association.now c.args.buffered.now c.streams.from c.args.entries.now c.in_default.ensures all)
