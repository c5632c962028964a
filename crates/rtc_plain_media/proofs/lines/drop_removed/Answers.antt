use Rattle.std.proofs.Common.{rules, arith}
use Rattle.rtc_parts.specs.MediaUpdates.{removed_by}
use Rattle.rtc_plain_media.specs.SourceCounts.{count_for}
use Rattle.rtc_plain_media.proofs.CountLemmas.{counts_dropped}
use Rattle.rtc_plain_media.proofs.RemovalLemmas.{all_lines_stay}
use Rattle.rtc_plain_media.proofs.lines.drop_removed.Goals as goal

pub returns-then-not-any_removal-clause-lines : goal.returns-then-not-any_removal-clause-lines
returns-then-not-any_removal-clause-lines c = all_lines_stay c.args.updates.now.items c.args.lines.now.entries (search rules)

pub returns-clause-lines : goal.returns-clause-lines
returns-clause-lines c = c.retain_lines.ensures.lines

pub returns-clause-counts : goal.returns-clause-counts
returns-clause-counts c = λ held n.
    counts_dropped n (removed_by c.args.updates.now.items) c.args.lines.now.entries c.retain_lines.new.lines.entries (count_for c.args.counts.now n) (count_for c.drop_removed_sources.new.counts n) c.retain_lines.ensures.lines (held n) (c.drop_removed_sources.ensures.counts n)

pub returns-clause-less : goal.returns-clause-less
returns-clause-less c = λ n. omega (arith, c.drop_removed_sources.ensures.counts n)
