use Rattle.std.proofs.Common.{subst, refl, arith, List}
use Rattle.rtc_parts.specs.AssociationActs.{AssociationAct, Moved}
use Rattle.rtc_parts.proofs.AssociationLemmas.{completions_before_read}
use Rattle.rtc_assoc_state.specs.Contents.{fresh_contents}
use Rattle.rtc_assoc_state.specs.PlainMeaning.{plain_meaning}
use Rattle.rtc_assoc_state.proofs.PlainLaws.{plain_laws}
use Rattle.rtc_assoc.proofs.DirectedLemmas.{directed_prefix, directed_all}
use Rattle.rtc_assoc.proofs.RunLemmas.{both_run, moved_run, resets_told}
use Rattle.rtc_assoc.proofs.ends.what_is_read_was_written.Goals as goal

pub returns-clause-right : goal.returns-clause-right
returns-clause-right c = λ moves e s g r. let h = both_run moves e r in directed_prefix h.there e.left e.right e.left_acts e.right_acts s g h.forth_is

pub returns-clause-left : goal.returns-clause-left
returns-clause-left c = λ moves e s g r. let h = both_run moves e r in directed_prefix h.back e.right e.left e.right_acts e.left_acts s g h.back_is

pub returns-clause-all_right : goal.returns-clause-all_right
returns-clause-all_right c = λ moves e s g r x y n. let h = both_run moves e r in directed_all h.there e.left e.right e.left_acts e.right_acts s g h.forth_is x y n

pub returns-clause-all_left : goal.returns-clause-all_left
returns-clause-all_left c = λ moves e s g r x y n. let h = both_run moves e r in directed_all h.back e.right e.left e.right_acts e.left_acts s g h.back_is y x n

pub returns-clause-told_left : goal.returns-clause-told_left
returns-clause-told_left c = λ moves e s r. let h = moved_run moves e r in omega (arith, resets_told e.left e.left_acts s h.left_moved)

pub returns-clause-told_right : goal.returns-clause-told_right
returns-clause-told_right c = λ moves e s r. let h = moved_run moves e r in omega (arith, resets_told e.right e.right_acts s h.right_moved)

pub returns-clause-before_left : goal.returns-clause-before_left
returns-clause-before_left c = λ moves e before after s g i bytes r k. let h = moved_run moves e r in
    completions_before_read plain_meaning plain_laws fresh_contents e.left before after s g i bytes refl
    (subst (λ (l : List AssociationAct). Moved plain_meaning fresh_contents l e.left) k h.left_moved)

pub returns-clause-before_right : goal.returns-clause-before_right
returns-clause-before_right c = λ moves e before after s g i bytes r k. let h = moved_run moves e r in
    completions_before_read plain_meaning plain_laws fresh_contents e.right before after s g i bytes refl
    (subst (λ (l : List AssociationAct). Moved plain_meaning fresh_contents l e.right) k h.right_moved)
