use Rattle.std.proofs.Common.{ℕ, nat_lt, sym, ap, ◌∙◌}
use Rattle.rtc_plain_media.proofs.CountLemmas.{lines_used}
use Rattle.rtc_plain_media.proofs.readings.lines_use.Goals as goal

pub returns : goal.returns
returns c = λ lines exact. ap (λ (n : ℕ). nat_lt 0 n) (c.count_of.ensures ∙ exact c.args.ssrc.0) ∙ sym (lines_used c.args.ssrc lines)
