use Rattle.std.proofs.Common.{ℕ, List, Bool, arith}
use Rattle.rtc_parts.specs.MediaUpdates.{same_mid}
use Rattle.rtc_plain_media.specs.SourceCounts.{count_for}
use Rattle.rtc_plain_media.proofs.CountLemmas.{counts_dropped}
use Rattle.rtc_plain_media.proofs.lines.drop_line.Goals as goal

pub returns-clause-lines : goal.returns-clause-lines
returns-clause-lines c = c.retain_others.ensures.lines

pub returns-clause-counts : goal.returns-clause-counts
returns-clause-counts c = λ held n.
    let gone : List ℕ → Bool = λ other. same_mid other c.args.mid in
    counts_dropped n gone c.args.lines.now.entries c.retain_others.new.lines.entries (count_for c.args.counts.now n) (count_for c.drop_sources_of.new.counts n) c.retain_others.ensures.lines (held n) (c.drop_sources_of.ensures.counts n)

pub returns-clause-less : goal.returns-clause-less
returns-clause-less c = λ n. omega (arith, c.drop_sources_of.ensures.counts n)
