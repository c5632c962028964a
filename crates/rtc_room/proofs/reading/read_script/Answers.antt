use Rattle.rtc_room.proofs.SmallRoomScripts.{read_small}
use Rattle.rtc_room.proofs.reading.read_script.Goals as goal

pub returns-clause-few : goal.returns-clause-few
returns-clause-few c = λ short. read_small _ _ c.read_lines.ensures.some short
