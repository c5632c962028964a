-- Two peers over plain DTLS parts and associations, each of which was given application data that the DTLS part of the other one had sent.
use Rattle.std.specs.Prelude.{ℕ, ◌≡◌, ◌++◌, List, []}
use Rattle.rtc_parts.specs.Among.{Member, Among}
use Rattle.rtc_parts.specs.DtlsActs.{DtlsAct, DtlsMoved}
use Rattle.rtc_parts.specs.DtlsWords.{dtls_given, dtls_taken, dtls_sent}
use Rattle.rtc_parts.specs.AssociationActs.{AssociationAct, Moved}
use Rattle.rtc_parts.specs.AssociationWords.{given, taken}
use Rattle.rtc_plain_dtls.specs.Contents.{DtlsContents, fresh_dtls}
use Rattle.rtc_plain_dtls.specs.Frames.{data_packet}
use Rattle.rtc_plain_dtls.specs.PlainMeaning.{plain_dtls}
use Rattle.rtc_assoc_state.specs.Contents.{Contents, fresh_contents}
use Rattle.rtc_assoc_state.specs.PlainMeaning.{plain_meaning}
use Rattle.rtc_assoc.specs.Joined.{Move, Ends, Run}
use Rattle.rtc_sctp_laws.specs.StreamMessages.{pushed_packets}
use Rattle.rtc_peer_transport.specs.declared.polled_peer.PolledPeer.{PolledPeer}
use Rattle.rtc_peer_laws.specs.PeerActs.{PeerActs}

-- the parts of a peer that packets of its association pass through: its DTLS part, its association, and the packets that wait to be sent
pub record PacketParts : Type 0 where
  pub dtls : DtlsContents
  pub association : Contents
  pub pushed : List (List ℕ)

abbrev pub packet_parts : {I M N : Type 0} → PolledPeer I DtlsContents Contents M N → PacketParts
packet_parts p = record {
  dtls = p.core.dtls.instance;
  association = p.core.sctp.association;
  pushed = pushed_packets p.core.sctp.pushed;
}

-- what was done to the DTLS part and to the association since they were fresh
pub record PartsPast : Type 0 where
  pub dtls : List DtlsAct
  pub association : List AssociationAct

abbrev pub past_with : PartsPast → PeerActs → PartsPast
past_with past acts = record { dtls = past.dtls ++ acts.dtls; association = past.association ++ acts.association }

-- each packet of application data among these is among those
pub record CarriesData (given_packets taken_packets : List (List ℕ)) : Type 0 where
  pub each : (bytes : List ℕ) → Member (data_packet bytes) given_packets → Member (data_packet bytes) taken_packets

-- parts that received no application data yet, and sent none
pub record AreUnused (past : PartsPast) (parts : PacketParts) : Type 0 where
  pub dtls : DtlsMoved plain_dtls fresh_dtls past.dtls parts.dtls
  pub association : Moved plain_meaning fresh_contents past.association parts.association
  pub none_given : (bytes : List ℕ) → Member (data_packet bytes) (dtls_given past.dtls) → ⊥
  pub none_sent : dtls_sent past.dtls ≡ []
  pub none_handed : given past.association ≡ []
  pub none_pushed : parts.pushed ≡ []

abbrev pub ends_of : PartsPast → PacketParts → PartsPast → PacketParts → Ends
ends_of a left b right = record {
  left = left.association;
  right = right.association;
  left_acts = a.association;
  right_acts = b.association;
}

-- The parts of two peers with their pasts. The associations are ends of a run: each was given packets that the other one had transmitted
-- before. Application data that each DTLS part received was in a packet that the other one had given, whatever was lost, repeated or
-- reordered; other packets are any. What each sent over its DTLS part, or has waiting to be sent, was taken from its association.
pub record PeersJoined (a : PartsPast) (left : PacketParts) (b : PartsPast) (right : PacketParts) : Type 0 where
  pub left_dtls : DtlsMoved plain_dtls fresh_dtls a.dtls left.dtls
  pub right_dtls : DtlsMoved plain_dtls fresh_dtls b.dtls right.dtls
  pub moves : List Move
  pub run : Run moves (ends_of a left b right)
  pub given_left : CarriesData (dtls_given a.dtls) (dtls_taken b.dtls)
  pub given_right : CarriesData (dtls_given b.dtls) (dtls_taken a.dtls)
  pub relayed_left : Among (dtls_sent a.dtls ++ left.pushed) (taken a.association)
  pub relayed_right : Among (dtls_sent b.dtls ++ right.pushed) (taken b.association)
