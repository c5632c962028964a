use Rattle.std.proofs.Common.{refl}
use Rattle.rtc_assoc_state.proofs.PacketLemmas.{item_is}
use Rattle.rtc_assoc_state.proofs.header.item_of.Goals as goal

pub returns : goal.returns
returns c = item_is _ _ _ _ _ _ c.args.part _ _ c.u16_at-stream.ensures c.u32_at-generation.ensures c.u32_at-identifier.ensures refl
