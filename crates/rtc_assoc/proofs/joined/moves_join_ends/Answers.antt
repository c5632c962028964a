use Rattle.rtc_assoc.proofs.RunLemmas.{joined_fresh, joined_left, joined_right}
use Rattle.rtc_assoc.proofs.joined.moves_join_ends.Goals as goal

pub returns : goal.returns
returns c = record { fresh = joined_fresh; left = joined_left; right = joined_right }
