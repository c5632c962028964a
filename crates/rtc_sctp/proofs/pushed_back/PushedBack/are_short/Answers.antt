use Rattle.std.proofs.Common.{ℕ, List, Option, subst}
use Rattle.rtc_sctp.specs.Streams.{ArePushedShort}
use Rattle.rtc_sctp.proofs.pushed_back.PushedBack.are_short.Goals as goal

pub returns : goal.returns
returns c = subst (λ (x : Option (List (List ℕ))). ArePushedShort x) c.self.view_is c.self.invariant
