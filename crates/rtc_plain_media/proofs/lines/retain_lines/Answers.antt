use Rattle.std.proofs.Common.{rules}
use Rattle.std.proofs.lemmas.Map.Made.{filter_same_pairs}
use Rattle.rtc_plain_media.proofs.lines.retain_lines.Goals as goal

pub returns-clause-lines : goal.returns-clause-lines
returns-clause-lines c = filter_same_pairs _ _ _ (λ k v b w f' t. search rules) _ _ c.retain.ensures.filtered
