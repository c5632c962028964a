-- What polls, inputs and closing leave to negotiation.
use Rattle.std.specs.Prelude.{◌≡◌, ℕ, true, false, []}
use Rattle.rtc_parts.specs.AssociationMeaning.{AssociationMeaning}
use Rattle.rtc_sctp.specs.Streams.{SctpStreams}
use Rattle.rtc_sctp_values.specs.SnapHalves.{KeptHalves}
use Rattle.rtc_peer_core.specs.Meanings.{Meanings}
use Rattle.rtc_peer_transport.specs.declared.polled_peer.PolledPeer.{PolledPeer}

-- nothing changed of what negotiation keeps beside the channels and their streams: rows, what is staged, counter, fingerprint and source
-- of numbers
abbrev pub KeepsNegotiation : {I D S M N : Type 0} → PolledPeer I D S M N → PolledPeer I D S M N → Type 0
KeepsNegotiation p q =
    q.core ≡ record p.core {
      phase = q.core.phase;
      greatest = q.core.greatest;
      ice = q.core.ice;
      dtls = q.core.dtls;
      media = q.core.media;
      channels = q.core.channels;
      sctp = q.core.sctp;
    }

-- what session descriptions carry of the streams: the longest message that this side takes, and what is kept of SNAP
abbrev pub told_of_streams : {S : Type 0} → SctpStreams S → ℕ × KeptHalves
told_of_streams s = (s.local_max, s.snap)

-- a started association remains started, and one that is not remains so too, with no stream in use if none was
pub record KeepsStart {S : Type 0} (m : AssociationMeaning S) (p q : SctpStreams S) : Type 0 where
  pub started : m.started p.association ≡ true → m.started q.association ≡ true
  pub unstarted : m.started p.association ≡ false → (m.started q.association ≡ false) × (p.entries ≡ [] → q.entries ≡ [])

-- unchanged are the settings of the ICE agent, the DTLS role, the fingerprint of this side, the longest message that it takes, what is kept
-- of SNAP, the lines of the media part, and whether the association is started
abbrev pub KeepsParts : {I D S M E X T W N : Type 0} → Meanings I D S M E X T W N → PolledPeer I D S M N → PolledPeer I D S M N → Type 0
KeepsParts m p q =
    (m.ice.settings q.core.ice ≡ m.ice.settings p.core.ice)
    × (q.core.dtls.active ≡ p.core.dtls.active)
    × (q.core.dtls.local ≡ p.core.dtls.local)
    × (told_of_streams q.core.sctp ≡ told_of_streams p.core.sctp)
    × (m.media.line q.core.media ≡ m.media.line p.core.media)
    × KeepsStart m.association p.core.sctp q.core.sctp
