use Rattle.rtc_channels.proofs.PoolLemmas.{least_of}
use Rattle.rtc_channels.proofs.allocating.stream_for.Goals as goal

pub returns-in-None-clause-sought : goal.returns-in-None-clause-sought
returns-in-None-clause-sought c =
    rw c.in-None.is (least_of c.args.grants.now c.args.pools.now c.args.client c.least.result c.requires c.least.ensures.client c.least.ensures.server)
