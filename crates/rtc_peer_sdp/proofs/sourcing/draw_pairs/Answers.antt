use Rattle.std.proofs.Common.{◌≡◌, ◌∙◌, ◌-◌, ◌+◌, suc, refl, sym, arith, append-nil}
use Rattle.rtc_peer_core.specs.Sources.{has_source}
use Rattle.rtc_parts.proofs.LaterLemmas.{later_none, later_join}
use Rattle.rtc_peer_sdp.proofs.Pairs.{one_pair, one_draw, one_more_pair, most_pairs, later_same}
use Rattle.rtc_peer_sdp.proofs.sourcing.draw_pairs.Goals as goal

pub loop-init : goal.loop-init
loop-init g c =
    let all : c.args.count - 0 ≡ c.args.count = omega arith in
    record {
      pairs = rw (all, c.new-pairs.ensures.items) refl;
      earlier = rw c.new-pairs.ensures.items (sym (append-nil c.args.earlier.now));
      after = rw all refl;
      later = later_none g.N.Ids.ids c.args.ids.now;
    }

pub loop-preserved : goal.loop-preserved
loop-preserved g c =
    let one_less : c.args.count - c.loop.counter ≡ suc (c.args.count - (c.loop.counter + 1)) = omega arith in
    record {
      pairs = rw c.in_ok-push.ensures.items (one_pair g.N.Ids.ids (has_source g.M.MediaSession.media c.args.media.now) c.args.kind _ _ _ _ _ _ c.loop.ids _ _ one_less c.in_ok-pair.ensures.pair c.in_ok-pair.ensures.earlier c.in_ok-pair.ensures.after c.loop.invariant.pairs);
      earlier = c.in_ok-pair.ensures.earlier ∙ rw c.in_ok-push.ensures.items (one_more_pair c.args.earlier.now c.loop.earlier c.loop.pairs.items c.in_ok-pair.pair c.loop.invariant.earlier);
      after = one_draw g.N.Ids.ids (has_source g.M.MediaSession.media c.args.media.now) c.args.kind _ _ c.loop.ids _ _ one_less c.in_ok-pair.ensures.after c.loop.invariant.after;
      later = later_join g.N.Ids.ids c.args.ids.now c.loop.ids _ c.loop.invariant.later c.in_ok-pair.ensures.later;
    }

pub returns-in_err-pair-clause-most : goal.returns-in_err-pair-clause-most
returns-in_err-pair-clause-most g c =
    let one_less : c.args.count - c.loop.counter ≡ suc (c.args.count - (c.loop.counter + 1)) = omega arith in
    most_pairs g.N.Ids.ids (has_source g.M.MediaSession.media c.args.media.now) c.args.kind _ _ c.loop.ids _ _ one_less c.in_err-pair.ensures.most c.loop.invariant.after

pub returns-in_err-push-clause-most : goal.returns-in_err-push-clause-most
returns-in_err-push-clause-most g c =
    let one_less : c.args.count - c.loop.counter ≡ suc (c.args.count - (c.loop.counter + 1)) = omega arith in
    most_pairs g.N.Ids.ids (has_source g.M.MediaSession.media c.args.media.now) c.args.kind _ _ c.loop.ids _ _ one_less
    (later_same g.N.Ids.ids _ _ c.in_ok-pair.ensures.after) c.loop.invariant.after

pub returns-in_err-pair-clause-later : goal.returns-in_err-pair-clause-later
returns-in_err-pair-clause-later g c =
    later_join g.N.Ids.ids c.args.ids.now c.loop.ids _ c.loop.invariant.later c.in_err-pair.ensures.later

pub returns-in_err-push-clause-later : goal.returns-in_err-push-clause-later
returns-in_err-push-clause-later g c =
    later_join g.N.Ids.ids c.args.ids.now c.loop.ids _ c.loop.invariant.later c.in_ok-pair.ensures.later

pub returns-clause-after : goal.returns-clause-after
returns-clause-after g c =
    let none : c.args.count - c.loop.counter ≡ 0 = omega arith in
    rw none at c.loop.invariant.after

pub returns-clause-later : goal.returns-clause-later
returns-clause-later g c = c.loop.invariant.later

pub returns-clause-most : goal.returns-clause-most
returns-clause-most g c =
    let none : c.args.count - c.loop.counter ≡ 0 = omega arith in
    later_same g.N.Ids.ids _ _ (rw none at c.loop.invariant.after)
