use Rattle.std.proofs.Common.{◌≡◌, inl, inr, true, false, Bool, sym, ap, subst, ◌∙◌, List, arith}
use Rattle.rtc_parts.specs.declared.assoc_event.AssocEvent.{AssocEvent}
use Rattle.rtc_parts.specs.declared.assoc_event.AssocEvent.TheVariants.{Readable}
use Rattle.rtc_parts.specs.Among.{Member}
use Rattle.rtc_parts.specs.AssociationEvents.{InOrder}
use Rattle.rtc_parts.specs.AssociationWords.{completions}
use Rattle.rtc_parts.proofs.AssociationLemmas.{adds_all, fresh_adds, silent_all}
use Rattle.rtc_parts.proofs.events.events_follow_each_other.Goals as goal

pub returns-clause-adds : goal.returns-clause-adds
returns-clause-adds g c = λ p q acts h. adds_all g.S.Association.association g.met.S.Association.laws p q acts h

pub returns-clause-in_order : goal.returns-clause-in_order
returns-clause-in_order g c = λ p q acts s f h.
    let m = g.S.Association.association in
    let w = g.met.S.Association.laws in
    let a = adds_all m w p q acts h in
    let P : List AssocEvent → Type 0 = λ l. InOrder s false l (m.finished q s) in
    let B : Bool → Type 0 = λ b. InOrder s b a.more (m.finished q s) in
    subst P (sym (fresh_adds m w p q acts f a)) (subst B (w.fresh_finished p s f) (a.in_order s))

pub returns-clause-completions : goal.returns-clause-completions
returns-clause-completions g c = λ p q acts s f h.
    let m = g.S.Association.association in
    let w = g.met.S.Association.laws in
    let a = adds_all m w p q acts h in
    omega (arith, a.rises s, w.fresh_generation p s f, ap (completions s) (fresh_adds m w p q acts f a))

pub returns-clause-readable : goal.returns-clause-readable
returns-clause-readable g c = λ p q acts s k f h u.
    let m = g.S.Association.association in
    let w = g.met.S.Association.laws in
    let a = adds_all m w p q acts h in
    let P : List AssocEvent → Type 0 = λ l. Member (Readable s) l in
    subst P (sym (fresh_adds m w p q acts f a)) (elim (a.readable s k u) [
      | inl e ↦ absurd (let n : false ≡ true = sym (w.fresh_unread p s k f) ∙ e in cc)
      | inr e ↦ e
    ])

pub returns-clause-stale : goal.returns-clause-stale
returns-clause-stale g c = λ p q acts s f h t.
    let m = g.S.Association.association in
    let w = g.met.S.Association.laws in
    silent_all m w p q acts h (λ id closed. w.fresh_unread p id (m.generation p id) f) s (w.stale_closed q s t)
