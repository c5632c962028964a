use Rattle.std.proofs.Common.{rules}
use Rattle.rtc_channels.proofs.IdLemmas.{without_missing}
use Rattle.rtc_channels.proofs.free_ids.FreeIds.take.Goals as goal

pub returns-then-not-is_free-clause-taken : goal.returns-then-not-is_free-clause-taken
returns-then-not-is_free-clause-taken c = without_missing c.args.id c.args.self.now (search rules)
