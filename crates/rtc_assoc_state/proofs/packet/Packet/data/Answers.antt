use Rattle.std.proofs.Common.{subst}
use Rattle.rtc_assoc_state.specs.declared.item.Item.{Item}
use Rattle.rtc_assoc_state.specs.Packets.{Fits}
use Rattle.rtc_assoc_state.proofs.PacketLemmas.{data_reads_back}
use Rattle.rtc_assoc_state.proofs.packet.Packet.data.Goals as goal

pub returns-clause-reads : goal.returns-clause-reads
returns-clause-reads c =
    data_reads_back c.args.acknowledged c.args.number c.args.item.now
    (subst (λ (i : Item). Fits c.args.acknowledged c.args.number i.stream i.generation i.identifier) c.item-item.ensures.value c.header-front.ensures.fits)
