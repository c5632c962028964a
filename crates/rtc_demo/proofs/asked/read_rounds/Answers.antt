use Rattle.std.proofs.Common.{◌≡◌, ◌∙◌, sym, arith}
use Rattle.std.proofs.lemmas.Fmt.{decimal_injective}
use Rattle.rtc_demo.proofs.asked.read_rounds.Goals as goal

pub returns-then-n-lt1-clause-none : goal.returns-then-n-lt1-clause-none
returns-then-n-lt1-clause-none c = λ n few some is.
    let same : c.in_ok-n.n ≡ n = decimal_injective c.in_ok-n.n n (omega arith) (omega arith) (sym c.in_ok-n.ensures.some ∙ is) in
    omega arith

pub returns-then-n-gt100-clause-none : goal.returns-then-n-gt100-clause-none
returns-then-n-gt100-clause-none c = λ n few some is.
    let same : c.in_ok-n.n ≡ n = decimal_injective c.in_ok-n.n n (omega arith) (omega arith) (sym c.in_ok-n.ensures.some ∙ is) in
    omega arith
