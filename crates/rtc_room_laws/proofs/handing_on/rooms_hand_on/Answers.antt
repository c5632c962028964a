use Rattle.rtc_room_laws.proofs.HandsOnLaw.{hands_on}
use Rattle.rtc_room_laws.proofs.handing_on.rooms_hand_on.Goals as goal

pub returns : goal.returns
returns c = λ alloc steps replies pairs run. hands_on alloc steps replies pairs run
