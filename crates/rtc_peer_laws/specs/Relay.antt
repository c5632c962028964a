-- What a call of a peer does to its association and to its DTLS connection, and how packets go from one to the other.
use Rattle.std.specs.Prelude.{◌++◌, List}
use Rattle.rtc_parts.specs.Among.{Among}
use Rattle.rtc_parts.specs.DtlsActs.{DtlsAct, DtlsMoved}
use Rattle.rtc_parts.specs.DtlsWords.{dtls_sent, dtls_got}
use Rattle.rtc_parts.specs.AssociationActs.{AssociationAct, Moved}
use Rattle.rtc_parts.specs.AssociationWords.{given, taken}
use Rattle.rtc_sctp_laws.specs.StreamMessages.{pushed_packets}
use Rattle.rtc_peer_core.specs.Meanings.{Meanings}
use Rattle.rtc_peer_transport.specs.declared.polled_peer.PolledPeer.{PolledPeer}

-- Acts in order took the DTLS instance and the association from those of one peer to those of another. Each packet that the association was
-- given was received over the DTLS connection in these acts. Each packet that was sent over it in them, or waits to be sent after them, was
-- taken from the association in them or waited before.
pub record Relays {I D S M E X T W N : Type 0} (m : Meanings I D S M E X T W N) (p q : PolledPeer I D S M N) : Type 0 where
  pub dtls_acts : List DtlsAct
  pub association_acts : List AssociationAct
  pub dtls_went : DtlsMoved m.dtls p.core.dtls.instance dtls_acts q.core.dtls.instance
  pub association_went : Moved m.association p.core.sctp.association association_acts q.core.sctp.association
  pub handed : Among (given association_acts) (dtls_got dtls_acts)
  pub relayed : Among (dtls_sent dtls_acts ++ pushed_packets q.core.sctp.pushed)
      (taken association_acts ++ pushed_packets p.core.sctp.pushed)
