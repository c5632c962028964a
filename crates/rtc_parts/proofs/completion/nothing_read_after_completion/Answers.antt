use Rattle.std.proofs.Common.{subst, List}
use Rattle.rtc_parts.specs.AssociationActs.{AssociationAct, Moved}
use Rattle.rtc_parts.proofs.AssociationLemmas.{completions_before_read}
use Rattle.rtc_parts.proofs.completion.nothing_read_after_completion.Goals as goal

pub returns : goal.returns
returns g c = λ p q acts before after s k i bytes f h e.
    completions_before_read _ g.met.S.Association.laws p q before after s k i bytes f
    (let P : List AssociationAct → Type 0 = λ l. Moved g.S.Association.association p l q in subst P e h)
