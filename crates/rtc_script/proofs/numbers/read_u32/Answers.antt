use Rattle.std.proofs.Common.{◌≡◌, ◌∙◌, sym, arith}
use Rattle.std.proofs.lemmas.Fmt.{decimal_injective}
use Rattle.rtc_script.proofs.numbers.read_u32.Goals as goal

pub returns-else-n-clause-none : goal.returns-else-n-clause-none
returns-else-n-clause-none c = λ n small is.
    let same : c.in_ok-n.n ≡ n = decimal_injective c.in_ok-n.n n (omega arith) (omega arith) (sym c.in_ok-n.ensures.some ∙ is) in
    omega arith
