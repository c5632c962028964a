use Rattle.std.proofs.Common.{rules}
use Rattle.std.proofs.lemmas.Map.Made.{map_same_pairs}
use Rattle.rtc_channels.specs.declared.grants.Grant.{Grant}
use Rattle.rtc_channels.proofs.grants.clear_holds.Goals as goal

pub returns : goal.returns
returns c = map_same_pairs _ (λ (grant : Grant). record grant { holds = 0 }) _ (λ k v b w f' t. search rules) _ _ c.retain.ensures.filtered
