use Rattle.std.proofs.Common.{◌≡◌, ◌∙◌, ◌+◌, ◌-◌, subst, drop, ℕ, sym, arith, not, Bool, true, false, refl}
use Rattle.rtc_sdp_values.specs.Mids.{are_distinct}
use Rattle.rtc_sdp_values.proofs.MidSetLemmas.{is_put, repeated_front, distinct_front}
use Rattle.rtc_sdp_values.proofs.mid_sets.is_each_once.Goals as goal

held_before : (added there : Bool) → added ≡ not there → added ≡ false → there ≡ true
held_before added true is old = refl
held_before added false is old = absurd (let e : true ≡ false = sym is ∙ old in cc)

new_before : (added there : Bool) → added ≡ not there → added ≡ true → there ≡ false
new_before added false is new = refl
new_before added true is new = absurd (let e : false ≡ true = sym is ∙ new in cc)

pub returns-then-not-branch : goal.returns-then-not-branch
returns-then-not-branch c =
    let next : c.loop-at.at - 1 + 1 ≡ c.loop-at.at = omega (arith, c.loop-at-test.true) in
    let put = is_put c.loop-at.found c.insert.new.self c.args.mids.now c.loop-at.at (c.loop-at.at - 1) c.index-mids-at.result next c.loop-at.invariant.within c.index-mids-at.is
    c.loop-at.invariant.held c.in_ok-insert.ensures.updates.0 in
    sym (repeated_front c.loop-at.found (c.loop-at.at - 1) c.args.mids.now c.index-mids-at.result put.front put.held
    (held_before c.in_ok-insert.field-0 _ c.in_ok-insert.ensures.added c.if-not-branch.true))

pub loop-at-preserved : goal.loop-at-preserved
loop-at-preserved c =
    let next : c.loop-at.at - 1 + 1 ≡ c.loop-at.at = omega (arith, c.loop-at-test.true) in
    let put = is_put c.loop-at.found c.insert.new.self c.args.mids.now c.loop-at.at (c.loop-at.at - 1) c.index-mids-at.result next c.loop-at.invariant.within c.index-mids-at.is
    c.loop-at.invariant.held c.in_ok-insert.ensures.updates.0 in
    record {
      held = put.holds;
      within = omega (arith, c.loop-at.invariant.within);
      distinct = distinct_front c.loop-at.found (c.loop-at.at - 1) c.args.mids.now c.index-mids-at.result put.front put.held
          (new_before c.in_ok-insert.field-0 _ c.in_ok-insert.ensures.added c.if-not-branch.false) (subst (λ (n : ℕ). are_distinct (drop n c.args.mids.now) ≡ true) (sym next) c.loop-at.invariant.distinct);
    }
