use Rattle.rtc_assoc_state.proofs.TableLemmas.{sound-none}
use Rattle.rtc_assoc_state.proofs.stream_table.StreamTable.new.Goals as goal

pub returns-clause-sound : goal.returns-clause-sound
returns-clause-sound c = sound-none _ _ c.new.ensures.items
