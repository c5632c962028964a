use Rattle.std.proofs.Common.{◌+◌, ◌-◌, ℕ, List, Option, refl, ap, ◌∙◌}
use Rattle.rtc_plain_media.specs.declared.held_line.HeldLine.{HeldLine}
use Rattle.rtc_plain_media.specs.Lines.{held_line}
use Rattle.rtc_plain_media.specs.SourceCounts.{count_for, update_count, held_count}
use Rattle.rtc_plain_media.proofs.lines.apply.Goals as goal

pub returns-clause-lines : goal.returns-clause-lines
returns-clause-lines c = c.put_line-before.ensures.entries ∙ rw (c.mark_at-mark.ensures, c.mid.ensures) refl

pub returns-clause-counts : goal.returns-clause-counts
returns-clause-counts c = λ n.
    c.drop_sources.ensures.counts n
    ∙ ap (λ (k : ℕ). k - held_count n c.put_line-before.result) (c.add_line.ensures.counts n)
    ∙ ap (λ (line : Option HeldLine). count_for c.args.counts.now n + update_count n c.args.update - held_count n line)
    (c.put_line-before.ensures.before ∙ ap (λ (mid : List ℕ). held_line mid c.args.lines.now.entries) c.mid.ensures)
