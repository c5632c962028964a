use Rattle.std.proofs.Common.{◌≡◌, ◌∙◌, sym, ap, refl, true, false, Option, ℕ}
use Rattle.std.specs.Prelude.{is_some}
use Rattle.rtc_channels.specs.Granted.{owner_at}
use Rattle.rtc_channels.proofs.AllocationLemmas.{ensured_owner}
use Rattle.rtc_channels.proofs.channel_handler.ChannelHandler.is_ensured.Goals as goal

pub returns-then-is_some : goal.returns-then-is_some
returns-then-is_some c =
    let owned : is_some (owner_at c.self.inside.grants c.args.s) ≡ true = ap (λ (found : Option ℕ). is_some found) (sym c.owner_of.ensures) ∙ (sym c.is_some.ensures ∙ c.if-is_some.true) in
    c.if-is_some.true ∙ sym (ensured_owner c.self.inside.given c.args.s c.self.inside.rows.items c.self.inside.kept.items c.self.inside.grants c.self.invariant.handled c.args.self.now c.self.view_is ∙ rw owned refl)

pub returns-else-is_some : goal.returns-else-is_some
returns-else-is_some c =
    let owned : is_some (owner_at c.self.inside.grants c.args.s) ≡ false = ap (λ (found : Option ℕ). is_some found) (sym c.owner_of.ensures) ∙ (sym c.is_some.ensures ∙ c.if-is_some.false) in
    sym (ensured_owner c.self.inside.given c.args.s c.self.inside.rows.items c.self.inside.kept.items c.self.inside.grants c.self.invariant.handled c.args.self.now c.self.view_is ∙ rw owned refl)
