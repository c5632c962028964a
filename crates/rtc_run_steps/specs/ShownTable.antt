-- The table of a peer: its lines and its channels.
use Rattle.rtc_parts.specs.AssociationMeaning.{AssociationMeaning}
use Rattle.rtc_peer_core.specs.declared.peer.Peer.{Peer}
use Rattle.rtc_peer_core.specs.ChannelRows.{channel_rows}
use Rattle.rtc_run_history.specs.declared.table.Table.{Table}

abbrev pub shown_table : {I D S M N : Type 0} → AssociationMeaning S → Peer I D S M N → Table
shown_table association p = record { lines = p.lines; channels = channel_rows association p.sctp p.channels }
