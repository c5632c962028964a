use Rattle.std.proofs.Common.{◌≡◌, ◌-◌, ◌+◌, ◌||◌, suc, ℕ, Bool, true, false, arith, sym, ap, ◌∙◌, List}
use Rattle.rtc_peer_rows.specs.Table.{has_mid}
use Rattle.rtc_peer_core.specs.Names.{drawn_mid, free_mid}
use Rattle.rtc_peer_core.specs.StagedIndex.{is_indexed_mid}
use Rattle.rtc_peer_core.proofs.FreeMid.{free_mid-held, free_mid-free, free_mid-none}
use Rattle.rtc_peer_core.proofs.drawing.find_mid.Goals as goal

pub loop-preserved : goal.loop-preserved
loop-preserved c =
    let held : List ℕ → Bool = λ mid. has_mid mid c.args.lines.now || is_indexed_mid c.args.mids.now c.args.app.now mid in
    let one_less : c.args.tries - c.loop.counter ≡ suc (c.args.tries - (c.loop.counter + 1)) = omega arith in
    let taken : held (drawn_mid c.loop.n) ≡ true = ap held (sym c.numbered_mid-mid.ensures) ∙ sym c.is_held_mid.ensures ∙ c.if-not-is_held_mid.false in
    sym (free_mid-held held _ _ c.loop.n one_less taken) ∙ c.loop.invariant

pub returns-then-not-is_held_mid : goal.returns-then-not-is_held_mid
returns-then-not-is_held_mid c =
    let held : List ℕ → Bool = λ mid. has_mid mid c.args.lines.now || is_indexed_mid c.args.mids.now c.args.app.now mid in
    let one_less : c.args.tries - c.loop.counter ≡ suc (c.args.tries - (c.loop.counter + 1)) = omega arith in
    let free : held (drawn_mid c.loop.n) ≡ false = ap held (sym c.numbered_mid-mid.ensures) ∙ sym c.is_held_mid.ensures ∙ c.if-not-is_held_mid.true in
    c.numbered_mid-mid.ensures ∙ sym (free_mid-free held _ _ c.loop.n one_less free) ∙ c.loop.invariant

pub returns : goal.returns
returns c =
    let held : List ℕ → Bool = λ mid. has_mid mid c.args.lines.now || is_indexed_mid c.args.mids.now c.args.app.now mid in
    let none_left : c.args.tries - c.loop.counter ≡ 0 = omega arith in
    let last : drawn_mid c.loop.n ≡ free_mid held c.args.tries c.args.first =
    sym (free_mid-none held c.loop.n) ∙ ap (λ (t : ℕ). free_mid held t c.loop.n) (sym none_left) ∙ c.loop.invariant in
    c.numbered_mid.ensures ∙ last
