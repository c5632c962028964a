use Rattle.std.proofs.Common.{◌≡◌, ◌∙◌, sym, arith}
use Rattle.std.proofs.lemmas.Fmt.{decimal_injective}
use Rattle.rtc_script.proofs.settings.read_size.Goals as goal

pub returns-else-size-le1000000000-clause-none : goal.returns-else-size-le1000000000-clause-none
returns-else-size-le1000000000-clause-none c = λ size small is.
    let same : c.in_ok-size.size ≡ size = decimal_injective c.in_ok-size.size size (omega arith) (omega arith) (sym c.in_ok-size.ensures.some ∙ is) in
    omega arith
