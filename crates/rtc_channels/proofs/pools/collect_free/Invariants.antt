use Rattle.std.proofs.Common.{◌≡◌}
use Rattle.rtc_channels.specs.Ids.{parity_of, all_ids}
use Rattle.rtc_channels.specs.Granted.{is_granted}
use Rattle.std.specs.BTreeMap.{keys}
use Rattle.rtc_channels.proofs.AllocationLemmas.{ids_left}
use Rattle.rtc_channels.proofs.pools.collect_free.Given as goal

abbrev pub invariant-streams : goal.invariant-streams
invariant-streams l = record {
  parity : l.ids.parity ≡ parity_of l.client;
  left : ids_left (is_granted l.grants) l.stream-iterator l.ids.free ≡ ids_left (is_granted l.grants) (keys l.grants) (all_ids (parity_of l.client));
}
