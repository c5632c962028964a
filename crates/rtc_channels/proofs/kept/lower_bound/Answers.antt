use Rattle.std.proofs.Common.{◌+◌, ◌-◌, ◌/◌, arith, rules}
use Rattle.rtc_channels.proofs.PlaceLemmas.{before_more, behind_more}
use Rattle.rtc_channels.proofs.kept.lower_bound.Goals as goal

pub search-preserved-then-number : goal.search-preserved-then-number
search-preserved-then-number c = record {
  within = omega (arith, c.search-test.true);
  last = c.search.invariant.last;
  before =
      before_more c.args.id c.args.rows.now (c.search.low + (c.search.high - c.search.low) / 2) c.index-rows-middle.result c.requires
      (omega (arith, c.search-test.true, c.search.invariant.last)) (search rules);
  behind = c.search.invariant.behind;
}

pub search-preserved : goal.search-preserved
search-preserved c = record {
  within = omega arith;
  last = omega (arith, c.search-test.true, c.search.invariant.last);
  before = c.search.invariant.before;
  behind =
      behind_more c.args.id c.args.rows.now (c.search.low + (c.search.high - c.search.low) / 2) c.index-rows-middle.result c.requires (search rules);
}
