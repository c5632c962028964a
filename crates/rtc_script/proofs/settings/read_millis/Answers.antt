use Rattle.std.proofs.Common.{◌≡◌, ◌∙◌, sym, arith}
use Rattle.std.proofs.lemmas.Fmt.{decimal_injective}
use Rattle.rtc_script.proofs.settings.read_millis.Goals as goal

pub returns-else-millis-ge1-clause-none : goal.returns-else-millis-ge1-clause-none
returns-else-millis-ge1-clause-none c = λ millis some small is.
    let bound = c.in_ok-millis.ensures.some.1 in
    let same : c.in_ok-millis.millis ≡ millis =
    decimal_injective c.in_ok-millis.millis millis (omega (arith, bound)) (omega (arith, small)) (sym c.in_ok-millis.ensures.some.0 ∙ is) in
    omega arith
