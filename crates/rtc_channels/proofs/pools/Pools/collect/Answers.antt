use Rattle.rtc_channels.proofs.pools.Pools.collect.Goals as goal

pub returns : goal.returns
returns c = record {
  even = record { parity_is = c.collect_free.ensures.parity; free_is = c.collect_free.ensures.free };
  odd = record { parity_is = c.collect_free-2.ensures.parity; free_is = c.collect_free-2.ensures.free };
}
