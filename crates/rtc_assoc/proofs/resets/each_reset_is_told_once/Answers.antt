use Rattle.std.proofs.Common.{subst, refl, arith, List}
use Rattle.rtc_parts.specs.AssociationActs.{AssociationAct, Moved}
use Rattle.rtc_parts.proofs.AssociationLemmas.{completions_before_read}
use Rattle.rtc_assoc_state.specs.Contents.{fresh_contents}
use Rattle.rtc_assoc_state.specs.PlainMeaning.{plain_meaning}
use Rattle.rtc_assoc_state.proofs.PlainLaws.{plain_laws}
use Rattle.rtc_assoc.proofs.RunLemmas.{resets_told}
use Rattle.rtc_assoc.proofs.resets.each_reset_is_told_once.Goals as goal

pub returns-clause-all : goal.returns-clause-all
returns-clause-all c = λ p acts s h. resets_told p acts s h

pub returns-clause-most : goal.returns-clause-most
returns-clause-most c = λ p acts s h. omega (arith, resets_told p acts s h)

pub returns-clause-before : goal.returns-clause-before
returns-clause-before c = λ p acts before after s g i bytes h e.
    completions_before_read plain_meaning plain_laws fresh_contents p before after s g i bytes refl
    (subst (λ (l : List AssociationAct). Moved plain_meaning fresh_contents l p) e h)
