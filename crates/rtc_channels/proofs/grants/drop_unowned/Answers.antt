use Rattle.std.proofs.Common.{rules}
use Rattle.std.proofs.lemmas.Map.Made.{filter_same_pairs}
use Rattle.rtc_channels.specs.Granted.{is_owned_entry}
use Rattle.rtc_channels.proofs.grants.drop_unowned.Goals as goal

pub returns-clause-entries : goal.returns-clause-entries
returns-clause-entries c = filter_same_pairs _ is_owned_entry _ (λ k v b w f' t. search rules) _ _ c.retain.ensures.filtered
