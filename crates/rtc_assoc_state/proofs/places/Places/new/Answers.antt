use Rattle.std.proofs.Common.{refl}
use Rattle.rtc_assoc_state.proofs.places.Places.new.Goals as goal

pub returns : goal.returns
returns c = λ id. rw c.new.ensures.items refl
