use Rattle.std.proofs.Common.{◌≡◌, [], codes, rules, arith, IsTrue}
use Rattle.std.specs.String.{string_bytes}
use Rattle.std.proofs.lemmas.Bool.Decides.{nat_tests}
use Rattle.std.proofs.lemmas.List.{nil_from_length}
use Rattle.rtc_pair.proofs.Words.{asks}
use Rattle.rtc_pair.proofs.asking.ask_for_run.Goals as goal

pub returns-then-is_empty : goal.returns-then-is_empty
returns-then-is_empty c =
    let none : c.in-Some.rest.now ≡ [] = nil_from_length _ (grind (arith, nat_tests, c.is_empty.ensures, c.if-is_empty.true)) in
    let is : (IsTrue c.eq.result → string_bytes c.in-Some.word.now ≡ codes "run") × (string_bytes c.in-Some.word.now ≡ codes "run" → IsTrue c.eq.result) = search rules in
    asks (λ word. string_bytes word) c.args.words.now c.in-Some.rest.now c.in-Some.word.now c.eq.result c.in-Some.ensures.cases.0 none is
