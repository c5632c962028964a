use Rattle.std.proofs.Common.{◌≡◌, ◌-◌, ◌+◌, ◌^◌, ◌||◌, suc, ℕ, true, false, arith, sym, ap, ◌∙◌, refl}
use Rattle.rtc_peer_core.specs.Sources.{has_source, is_number, unused}
use Rattle.rtc_peer_sdp.proofs.Tries.{unused-used, unused-free, unused-none}
use Rattle.rtc_peer_sdp.proofs.sourcing.find_source.Goals as goal

pub loop-init : goal.loop-init
loop-init g c = refl

pub returns-then-not-is_taken : goal.returns-then-not-is_taken
returns-then-not-is_taken g c =
    let one_less : 2 ^ 32 - c.loop.counter ≡ suc (2 ^ 32 - (c.loop.counter + 1)) = omega arith in
    let free : (has_source g.M.MediaSession.media c.args.media.now c.loop.n || is_number c.loop.n c.args.earlier.now) ≡ false = sym c.is_taken.ensures ∙ c.if-not-is_taken.true in
    sym (unused-free (λ m. has_source g.M.MediaSession.media c.args.media.now m || is_number m c.args.earlier.now) c.args.first _ _ c.loop.n one_less free) ∙ c.loop.invariant

pub loop-preserved : goal.loop-preserved
loop-preserved g c =
    let one_less : 2 ^ 32 - c.loop.counter ≡ suc (2 ^ 32 - (c.loop.counter + 1)) = omega arith in
    let taken : (has_source g.M.MediaSession.media c.args.media.now c.loop.n || is_number c.loop.n c.args.earlier.now) ≡ true = sym c.is_taken.ensures ∙ c.if-not-is_taken.false in
    sym (unused-used (λ m. has_source g.M.MediaSession.media c.args.media.now m || is_number m c.args.earlier.now) c.args.first _ _ c.loop.n one_less taken) ∙ c.loop.invariant

pub returns : goal.returns
returns g c =
    let none_left : 2 ^ 32 - c.loop.counter ≡ 0 = omega arith in
    sym (unused-none (λ m. has_source g.M.MediaSession.media c.args.media.now m || is_number m c.args.earlier.now) c.args.first c.loop.n)
    ∙ ap (λ (t : ℕ). unused (λ m. has_source g.M.MediaSession.media c.args.media.now m || is_number m c.args.earlier.now) c.args.first t c.loop.n) (sym none_left)
    ∙ c.loop.invariant
