-- The streams of both sides that can be given, beside what was given and is held. No public clause cites this file.
use Rattle.std.specs.Prelude.{◌≡◌, ℕ, not, filter}
use Rattle.std.specs.BTreeMap.{BTreeMap}
use Rattle.rtc_channels.specs.declared.grants.Grant.{Grant}
use Rattle.rtc_channels.specs.declared.pools.Pools.{Pools}
use Rattle.rtc_channels.specs.Ids.{IdPool, all_ids}
use Rattle.rtc_channels.specs.Granted.{is_granted}

-- the pool of a parity has what can be given of it
pub record IsPool (grants : BTreeMap ℕ Grant) (parity : ℕ) (pool : IdPool) : Type 0 where
  pub parity_is : pool.parity ≡ parity
  pub free_is : pool.free ≡ filter (λ id. not (is_granted grants id)) (all_ids parity)

pub record ArePools (grants : BTreeMap ℕ Grant) (pools : Pools) : Type 0 where
  pub even : IsPool grants 0 pools.client
  pub odd : IsPool grants 1 pools.server
